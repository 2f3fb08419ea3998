pub mod AppFileLemmas
pub mod AppLemmas
mod DemandLemmas
mod EndLemmas
pub mod NeedLemmas
pub mod OwnNames
mod PartLemmas
pub mod PositionLemmas
mod RangeLemmas
mod RepeatLemmas
mod ToldLemmas
mod WalkParts
