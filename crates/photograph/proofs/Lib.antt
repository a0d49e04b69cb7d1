-- What the proofs of `photograph`, and of the crates above it, share.
pub mod Pixels
pub mod Photographs
pub mod Bytes
