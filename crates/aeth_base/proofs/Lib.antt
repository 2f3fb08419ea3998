mod Constants
pub mod DistinctNames
pub mod Division
pub mod ExtremeLemmas
pub mod Filters
pub mod Lists
pub mod MarkLemmas
pub mod MarkedLemmas
mod MarkedMasks
pub mod Members
pub mod NameLemmas
pub mod NamesLemmas
mod NumberReading
pub mod Numbers
mod PathLemmas
pub mod Permutations
pub mod Ranges
pub mod Sequences
pub mod SideLemmas
pub mod TestLemmas
