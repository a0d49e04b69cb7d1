-- The theorems of `fit`, and what the functions' proofs cite. Assumes nothing.

-- theorems to be read alone, and what they rest on
pub mod SortOrders
pub mod CountingSorts
pub mod Rising
-- what the functions' proofs cite
pub mod Sorting
pub mod Searching
pub mod ResidualMagnitudes
pub mod Inliers
pub mod Points
-- what the crates above cite
pub mod Counts
