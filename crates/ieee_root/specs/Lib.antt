-- What the contract of the square root cites.
pub mod Root
