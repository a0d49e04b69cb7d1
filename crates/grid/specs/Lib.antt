-- What the contracts of `grid` cite.
pub mod Grids
