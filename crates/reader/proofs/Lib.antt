pub mod Calls
pub mod Bridge
pub mod Reached
pub mod Cut
pub mod Looks
pub mod Theorem
pub mod Shown
