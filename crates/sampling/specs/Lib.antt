-- What the contracts of `sampling` cite.
pub mod Sampling
pub mod Marks
