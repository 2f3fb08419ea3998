mod LogLemmas
pub mod ReservationLemmas
pub mod OneReservation
pub mod FaultLemmas
mod SearchLemmas
mod StartLemmas
mod SessionLemmas
mod CellLemmas
mod PlaceLemmas
mod TableLemmas
mod FoundLemmas
mod JudgeLemmas
mod RowLemmas
mod AuditLemmas
