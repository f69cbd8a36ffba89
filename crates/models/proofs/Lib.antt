pub mod ByKind
pub mod Combinations
pub mod EachCombination
pub mod Telling
