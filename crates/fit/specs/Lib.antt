-- What the contracts of `fit` cite.
pub mod Fit
pub mod Lent
pub mod Counting
pub mod Magnitudes
