pub mod Sizes
pub mod Carry
