pub mod DigitLemmas
pub mod DigitTables
pub mod HexText
pub mod NameLemmas
pub mod ReadText
