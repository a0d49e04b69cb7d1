-- What holds of the numbers.
pub mod Numbers
