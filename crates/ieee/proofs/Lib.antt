-- What the functions' proofs of `ieee` and the crates above cite. Assumes nothing.

-- the definitions at some values
pub mod Examples
pub mod Patterns
pub mod Order
pub mod Counts
pub mod Magnitudes
pub mod Zeros
pub mod Squares
pub mod Finiteness
-- the definitions opened together
pub mod Opened
