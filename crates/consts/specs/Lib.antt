-- What the contracts of `consts` cite.
pub mod Consts
