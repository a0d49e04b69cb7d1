-- What the contracts of `fields` cite.
pub mod Fields
pub mod Output
