-- What holds of every tree of samples, and of every function that runs one.
pub mod Counts
pub mod Steps
pub mod Samplers
pub mod Simulation
pub mod Always
pub mod Agreement
pub mod Inside
pub mod Sheets
pub mod Meaning
pub mod Bounds
pub mod Demand3
pub mod AllFour
-- the definitions opened together
pub mod Opened
