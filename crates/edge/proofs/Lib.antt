-- The laws that the proofs of `edge` cite.
pub mod AnyHandler
pub mod Probing
-- what the crates above cite
pub mod Counts
-- the definitions opened together
pub mod Opened
