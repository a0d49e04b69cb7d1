-- What the contracts of `c_marking` cite.
pub mod Calls
