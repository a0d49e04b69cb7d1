-- What the contracts of `c_answers` cite.
pub mod Answers
