pub mod Join
pub mod Claims
pub mod Groups
