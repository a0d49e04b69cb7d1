-- What the contracts of `float_lists` cite.
pub mod Sums
