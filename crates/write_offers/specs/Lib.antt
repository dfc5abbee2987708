-- Offers, and the tie order.
pub mod Offers
pub mod Ties
