-- What the contracts of `request` cite.
pub mod Requests
