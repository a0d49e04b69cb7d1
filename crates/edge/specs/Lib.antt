-- What the contracts of `edge` cite.
pub mod Edge
