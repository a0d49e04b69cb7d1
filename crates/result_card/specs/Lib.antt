-- What the contracts of `result_card` cite.
pub mod ResultCard
pub mod Convert
