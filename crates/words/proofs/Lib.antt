pub mod Numbers
pub mod Bytes
pub mod Stores
pub mod Zeros
pub mod Records
pub mod Parts
pub mod Checks
