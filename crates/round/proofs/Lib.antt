-- What belongs to no one function of `round`.
pub mod AnyHandler
pub mod EdgeByEdge
pub mod Mapped
pub mod Answers
-- the definitions opened together
pub mod Opened
