pub mod Back
pub mod Held
pub mod Wrote
pub mod Claims
