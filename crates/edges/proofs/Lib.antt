-- What the crates above cite.
pub mod Valid
pub mod Fits
