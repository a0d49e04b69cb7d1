-- What holds of a camera.
pub mod Carried
