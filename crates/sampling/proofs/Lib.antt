-- What the proofs of `sampling`, and of the crates above it, share.
pub mod Interpolation
pub mod Inside
pub mod AllFour
-- the definitions opened together
pub mod Opened
