mod Lists
mod EntryLaws
mod HopLaws
mod RowLaws
mod RouterPorts
pub mod TableLaws
mod SendingLaws
mod InForce
mod PathEntries
mod RowRanges
mod RowsInForce
mod TabledSessions
