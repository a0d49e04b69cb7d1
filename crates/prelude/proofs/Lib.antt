-- The laws that the crates above cite.
pub mod Tests
pub mod Branches
pub mod Tables
pub mod Lists
pub mod Results
pub mod Checks
-- what a loop over an array has done
pub mod Turns
