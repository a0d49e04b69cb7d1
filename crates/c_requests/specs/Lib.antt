-- What the contracts of `c_requests` cite.
pub mod Requests
