-- The laws that the proofs of `grid` cite.
pub mod Modules
-- the definitions opened together
pub mod Opened
