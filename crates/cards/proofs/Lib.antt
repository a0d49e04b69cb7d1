-- What the proofs of `cards` cite: theorems to be read alone.
pub mod Answers
pub mod RoundTrip
