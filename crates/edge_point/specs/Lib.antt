-- What the contracts of `edge_point` cite.
pub mod EdgePoint
