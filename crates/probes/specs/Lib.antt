-- What the contracts of `probes` cite.
pub mod Probes
pub mod Layouts
pub mod Places
