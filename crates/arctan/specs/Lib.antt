-- What the contract of `arctan` cites.
pub mod Arctan
