-- What the contracts of `refine` cite.
pub mod Refine
