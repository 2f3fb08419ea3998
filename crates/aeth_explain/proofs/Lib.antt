pub mod ListLemmas
pub mod CompleteLemmas
pub mod CutLemmas
pub mod TryPathLemmas
pub mod RefusalLemmas
mod PositionLemmas
pub mod VerdictLemmas
mod MaskLemmas
mod SenderLemmas
mod FirstLemmas
mod FrontLemmas
mod OpenLemmas
mod OverLemmas
mod PlaceLemmas
mod WalkLemmas
mod BelowLemmas
pub mod ReadLemmas
mod StepLemmas
mod OrderLemmas
mod CompareLemmas
pub mod LeastLemmas
