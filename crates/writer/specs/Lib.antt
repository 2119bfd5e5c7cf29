pub mod Offers
pub mod Write
pub mod Writings
