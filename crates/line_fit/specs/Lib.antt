-- What the contracts of `line_fit` cite.
pub mod LineFit
