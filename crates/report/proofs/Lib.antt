-- What the proofs cite, and those of the crates above.
pub mod Lengths
pub mod Lines
pub mod Answers
