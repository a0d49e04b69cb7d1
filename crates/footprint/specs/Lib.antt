-- What the contracts of `footprint` cite.
pub mod Footprints
pub mod AllFour
