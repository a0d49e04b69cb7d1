-- The laws of the arctangent.
pub mod Numbers
pub mod Places
pub mod Examples
