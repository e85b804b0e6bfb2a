pub mod Common
pub mod PlaceLemmas
pub mod FaultyLinesLemmas
pub mod LogPlaceLemmas
pub mod LogFaultsLemmas
