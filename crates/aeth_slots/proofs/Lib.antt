pub mod Ascending
pub mod SlotSetLemmas
pub mod TestLemmas
pub mod Sublists
pub mod ChoiceLemmas
mod Masks
mod MaskSets
mod Lookups
mod Rotation
mod Counts
mod Gaps
mod Ways
mod EarliestSlots
mod Rounds
mod WaySearch
mod RoundSearch
mod SuitedLemmas
mod FirstRound
