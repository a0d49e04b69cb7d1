-- What the contracts of `c_edge_points` cite.
pub mod EdgePoints
