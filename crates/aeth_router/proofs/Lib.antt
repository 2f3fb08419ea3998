mod AddsLemmas
mod ContendedLemmas
mod ForwardingLemmas
pub mod IdleLemmas
pub mod LinkLemmas
pub mod OnwardLemmas
pub mod PassingLemmas
pub mod PortLemmas
pub mod RestingLemmas
pub mod RouterLemmas
pub mod RowLemmas
mod RowOrder
mod SingleLemmas
mod SoleLemmas
mod Steps
pub mod TableLemmas
mod TrafficLemmas
pub mod WireLemmas
