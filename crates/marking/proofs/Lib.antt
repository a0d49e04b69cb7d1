-- What belongs to no one function of `marking`.
pub mod Entered
pub mod Calls
pub mod Demand3
pub mod AllFour
