-- What the contracts of `pixel` and of every crate above it cite.
pub mod Pixels
