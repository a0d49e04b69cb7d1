-- What the contracts of `ieee` cite, and the arithmetic that the definitions of every crate above are written in.
pub mod Floats
pub mod Parts
