-- What the contracts of `round` cite.
pub mod Round
