-- What the contracts of `aitken` cite.
pub mod Aitken
