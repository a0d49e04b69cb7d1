-- The worked cases.
pub mod Worked
