-- What the contracts of `cards` cite.
pub mod Run
pub mod RunMarking
