-- What the contracts of `arctan_table` cite, and the rule of its table.
pub mod Table
pub mod Rule
