-- What the proofs of several functions of `job_card` cite.
pub mod Walks
pub mod Parts
