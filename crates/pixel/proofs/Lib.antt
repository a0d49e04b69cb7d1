-- The laws that the crates above cite.
pub mod Places
pub mod Values
