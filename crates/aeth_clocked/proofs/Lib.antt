pub mod ClearLemmas
pub mod DrivenLemmas
mod DrivenTurns
pub mod FewLemmas
mod MarkedWiresLemmas
pub mod OrderLemmas
mod RestingTurns
mod Turns
pub mod UsedLemmas
pub mod WiresLemmas
