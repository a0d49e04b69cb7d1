-- The law that says what a line says of its points.
pub mod Laws
