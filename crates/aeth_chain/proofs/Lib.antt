pub mod OfferLemmas
pub mod FinishLemmas
pub mod LegLemmas
pub mod ChainLemmas
mod ShapeLemmas
mod AlongLemmas
mod LaneLemmas
mod ReceiverLemmas
mod RunningLemmas
mod LandedLemmas
mod FirstLemmas
mod MergedLemmas
mod ChannelLogs
mod LoggedLemmas
mod ChainedLemmas
mod DueLemmas
mod WordLemmas
mod WorkLemmas
mod RuleLemmas
mod TabledShapes
mod ToldLemmas
