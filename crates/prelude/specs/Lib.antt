-- What the definitions of every crate above are written with.
pub mod Prelude
pub mod Checks
