-- What belongs to no one function of `request`.
pub mod Checks
pub mod Defaults
