pub mod Blobs
pub mod Claims
pub mod Examples
