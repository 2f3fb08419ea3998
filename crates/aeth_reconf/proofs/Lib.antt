pub mod RowLemmas
pub mod WriteCounts
pub mod WritePlaces
pub mod WriteTimes
pub mod WindowLemmas
pub mod OneWritten
pub mod StayTurns
pub mod Owners
