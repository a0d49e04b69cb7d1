-- What the proofs of `result_card` cite.
pub mod CardLayout
pub mod Cards
-- theorems to be read alone
pub mod RoundTrip
pub mod Conversion
pub mod Converters
