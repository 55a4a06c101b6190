-- The law `accepted_in_order`: what holds of all that is accepted.
pub mod Growing
pub mod Named
pub mod Ordered
pub mod Linked
