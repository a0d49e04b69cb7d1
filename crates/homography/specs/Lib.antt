-- What the contracts of `homography` cite.
pub mod Homography
