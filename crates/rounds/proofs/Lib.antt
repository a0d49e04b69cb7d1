-- What belongs to no one function of `rounds`.
pub mod AnyHandler
pub mod RoundByRound
pub mod Answers
-- the definitions opened together
pub mod Opened
