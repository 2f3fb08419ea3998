pub mod SlotCycleLemmas
pub mod LatencyLemmas
pub mod ServiceLemmas
pub mod FinishTimeLemmas
pub mod SlotServerLemmas
pub mod ShapeLemmas
pub mod PrivateServerLemmas
pub mod PrivateServerParts
pub mod SessionEnds
pub mod ReachedCycles
pub mod WordCycles
pub mod CreditLoop
pub mod SingleWord
pub mod AloneStates
pub mod LandingLemmas
mod LastCounts
mod NextCycles
mod SlotWalk
mod LatencyWalk
