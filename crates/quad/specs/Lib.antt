-- What the contracts of `quad` cite.
pub mod Quad
