pub mod Tests
pub mod Holds
