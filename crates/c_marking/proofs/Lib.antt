-- What the proofs of `c_marking` cite.
pub mod Marked
