-- What the contracts of `profile` cite.
pub mod Profile
