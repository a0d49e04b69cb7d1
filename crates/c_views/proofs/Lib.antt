-- What other crates may cite of `c_views`.
pub mod UnknownKind
