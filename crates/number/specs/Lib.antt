-- What the contracts of every crate that refuses cite.
pub mod Numbers
