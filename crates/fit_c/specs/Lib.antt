-- What the contracts of `fit_c` cite.
pub mod Edge
