pub mod Sums
pub mod Comparing
pub mod Counting
pub mod Turns
pub mod Tree
pub mod Begin
pub mod Firsts
pub mod AuditClaims
