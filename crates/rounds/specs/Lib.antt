-- What the contracts of `rounds` cite.
pub mod Rounds
