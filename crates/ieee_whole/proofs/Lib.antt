-- The theorems of `ieee_whole`, and under them what the functions' proofs cite. Assumes nothing.

-- a theorem to be read alone
pub mod WholeExact
-- the definitions at some values
pub mod Examples
-- whole numbers
pub mod Whole
pub mod AtMost
pub mod WholeLaws
pub mod Trimmed
pub mod WholeGuess
