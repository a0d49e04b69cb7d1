-- What the contracts of `peak` cite.
pub mod Peak
