mod ListedPaths
pub mod FirstCandidateLemmas
mod GrantLemmas
mod FoundLemmas
mod StepLemmas
mod PlaceLemmas
mod BackLemmas
mod PriceLemmas
pub mod TurnLemmas
mod OrderedLists
mod OnceLists
mod InOrderLemmas
mod NextUnitLemmas
mod SeatLineLemmas
mod SeatedLemmas
mod WithGrantLemmas
mod TriedLemmas
mod SoundLemmas
mod UnitTryLemmas
pub mod StateLemmas
pub mod LastStateLemmas
mod RefusalLemmas
mod LackLemmas
pub mod PlanLemmas
pub mod PlanOfLemmas
pub mod OutcomeLemmas
mod TrialLists
mod TryLemmas
mod KeptTryLemmas
pub mod TrialLemmas
pub mod EarlierLemmas
