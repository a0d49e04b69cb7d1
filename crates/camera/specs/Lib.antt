-- What the contracts of `camera` cite.
pub mod Camera
pub mod Together
