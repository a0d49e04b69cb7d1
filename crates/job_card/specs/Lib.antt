-- What the contracts of `job_card` cite.
pub mod JobCard
