-- The theorems of the square root, and under them what the functions' proofs cite. Assumes nothing.

-- the theorem to be read alone
pub mod RootNearest
-- the definition at some values
pub mod Examples
-- its inputs by their patterns
pub mod Inputs
-- the root
pub mod WholeRoots
pub mod RootLaws
pub mod Counts
pub mod Magnitudes
pub mod Scaled
pub mod Digits
-- the definitions opened together
pub mod Opened
