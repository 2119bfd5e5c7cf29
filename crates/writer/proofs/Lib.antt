pub mod Made
pub mod Calls
pub mod Spelled
pub mod ReadAfterWrite
pub mod Again
pub mod WriteAfterRead
pub mod Claims
