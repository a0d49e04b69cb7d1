-- What the contracts of `c_lists` cite.
pub mod Lent
