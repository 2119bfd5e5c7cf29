pub mod Stream
pub mod Rows
pub mod Looks
pub mod Readings
pub mod Showings
