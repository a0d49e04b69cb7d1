-- What the proofs of `text` cite, and those of the crates above.
pub mod Digits
