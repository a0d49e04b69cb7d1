-- What belongs to no one function of `consts`.
pub mod Ranges
