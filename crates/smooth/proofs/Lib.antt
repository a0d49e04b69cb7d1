-- What the proofs of `smooth` share.
pub mod Inverses
pub mod Windows
pub mod Sliding
-- theorems to be read alone
pub mod Smoothing
