mod Constants
pub mod EntryLemmas
pub mod EntryWrites
pub mod InterfaceLemmas
pub mod ProgramLemmas
pub mod ProgramWrites
pub mod QueueLemmas
pub mod RestingLemmas
pub mod SwitchLemmas
pub mod WriteLemmas
