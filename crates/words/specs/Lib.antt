pub mod Checks
pub mod Le
pub mod Record
pub mod Refusals
