-- The laws of the table.
pub mod Rule
