pub mod AloneLemmas
mod AmongLemmas
mod ArrivalLemmas
mod AskedLemmas
mod CarriedLemmas
mod ComeLemmas
mod CountedCycle
mod CountedLemmas
pub mod CountingLemmas
pub mod CycleLemmas
mod DriveLemmas
mod EndLemmas
pub mod EnteringLemmas
mod FirstLemmas
mod FlitLemmas
mod ForwardedLemmas
mod ForwardingLemmas
pub mod WiringLemmas
mod FullLemmas
mod HomeLemmas
mod InjectLemmas
mod InjectingLemmas
pub mod KeptLemmas
pub mod KindLemmas
mod LandedLemmas
pub mod ChannelStateLemmas
mod LookUpLemmas
pub mod MadeLemmas
pub mod MadeParts
mod MapLemmas
mod MarkLemmas
mod MarkedSenders
mod NextLemmas
pub mod NoteLemmas
mod OwnLemmas
pub mod PartLemmas
mod PassedLemmas
pub mod QueueLemmas
mod ReadyLemmas
mod ReceivedLemmas
mod ReceiverLemmas
mod ReplacedLemmas
mod RestingCycle
mod RoomLemmas
pub mod SeenCycle
pub mod SeenLemmas
pub mod SeenPhases
mod SendingLemmas
pub mod SkipLemmas
mod SlotLemmas
mod SlotMarkLemmas
mod SwitchingLemmas
mod TableLemmas
mod TakenLemmas
mod ThereLemmas
pub mod TurnLemmas
mod TurnsAlone
mod WaitingLemmas
mod MarkingActiveLemmas
mod WalkedLemmas
mod WayLemmas
mod MarkedActiveLemmas
