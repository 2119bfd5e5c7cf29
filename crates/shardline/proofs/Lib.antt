pub mod Feeding
pub mod Ended
