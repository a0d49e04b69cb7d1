-- What the contracts of `job` cite.
pub mod Job
