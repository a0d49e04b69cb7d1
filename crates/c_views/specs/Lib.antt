-- What the contracts of `c_views` cite.
pub mod Views
