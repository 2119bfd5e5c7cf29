pub mod Scan
pub mod Layout
pub mod Claim
pub mod Refusal
pub mod Reach
pub mod Quay
pub mod Blocks
