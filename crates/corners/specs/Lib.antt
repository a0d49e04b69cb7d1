-- What the contracts of `corners` cite.
pub mod Corners
