pub mod Rules
pub mod Held
pub mod Verdicts
pub mod Kinds
