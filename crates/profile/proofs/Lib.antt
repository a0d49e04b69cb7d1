-- What holds of an edge point.
pub mod AnyHandler
pub mod SampleProfile
pub mod Passes
pub mod Bounds
-- the definitions opened together
pub mod Opened
