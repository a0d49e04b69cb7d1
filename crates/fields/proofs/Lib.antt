-- What the proofs of `fields` cite, and those of the crates above.
pub mod Bytes
pub mod Parts
pub mod Writes
-- a theorem to be read alone
pub mod RoundTrip
