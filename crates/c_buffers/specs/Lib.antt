-- What the contracts of `c_buffers` cite.
pub mod Buffers
