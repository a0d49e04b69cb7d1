-- What the contracts of `sample_tree` and of every crate above it cite.
pub mod SampleTree
pub mod Options
pub mod Results
pub mod Meters
pub mod Run
pub mod Samplers
pub mod Sheets
pub mod AllFour
