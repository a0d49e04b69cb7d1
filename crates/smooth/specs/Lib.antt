-- What the contracts of `smooth` cite.
pub mod Smooth
pub mod Walks
