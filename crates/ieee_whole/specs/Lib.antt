-- What the contracts of `ieee_whole` cite.
pub mod Whole
