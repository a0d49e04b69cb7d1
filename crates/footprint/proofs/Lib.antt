-- What the proofs of `footprint`, and of the crates above it, share.
pub mod Footprints
pub mod Places
pub mod Cuts
pub mod Weights
pub mod Inner
pub mod Carried
-- the definitions opened together
pub mod Opened
