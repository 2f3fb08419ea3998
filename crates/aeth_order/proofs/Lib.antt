mod FirstByLemmas
mod TurnLemmas
mod SortedLemmas
mod GridLemmas
pub mod NextLemmas
mod DoneLemmas
mod StartLemmas
pub mod LeastLemmas
