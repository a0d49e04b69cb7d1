-- The laws that the proofs of `probes` cite.
pub mod Layouts
pub mod Candidates
pub mod Decimated
-- what the crates above cite
pub mod Counts
-- the definitions opened together
pub mod Opened
