-- What the contracts of `c_settings` cite.
pub mod Lent
