pub mod Pushes
mod ReadLemmas
pub mod NameLemmas
mod RangeLemmas
mod PortLemmas
mod LinkLemmas
pub mod FileLemmas
pub mod NodeLemmas
mod IndexLemmas
pub mod OffsetLemmas
pub mod WireLemmas
mod SumLemmas
pub mod JoinedLaws
mod PathLemmas
mod RouterLemmas
pub mod PathTestLemmas
mod MaskLemmas
mod SpreadLemmas
mod ReachLemmas
mod LevelLemmas
mod RoundLemmas
mod OriginLemmas
mod WalkLemmas
mod DistanceLemmas
pub mod LeastDistanceLemmas
pub mod LeastOnwardLemmas
mod DistanceBounds
pub mod SummaryLemmas
mod ValueLemmas
mod VersionLemmas
