-- What the contracts of `marking` cite, and demand 3.
pub mod Marking
pub mod Demand3
