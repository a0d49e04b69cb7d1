-- What belongs to no one function of `refine`.
pub mod Calls
pub mod Answers
-- the definitions opened together
pub mod Opened
