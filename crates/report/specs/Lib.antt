-- What the contracts of `report` cite.
pub mod Lines
pub mod Puts
