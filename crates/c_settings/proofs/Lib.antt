-- What belongs to no one function of `c_settings`.
pub mod Defaults
