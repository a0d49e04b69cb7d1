-- What the contracts of `photograph` cite.
pub mod Photographs
