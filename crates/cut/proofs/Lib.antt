pub mod Runs
pub mod Steps
pub mod Cut
pub mod Fate
