-- What the contracts of `line` cite.
pub mod Line
