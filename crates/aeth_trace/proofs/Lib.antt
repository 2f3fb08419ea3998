mod FoundLemmas
pub mod RowLemmas
pub mod ToldLemmas
pub mod FileLemmas
pub mod IndexLemmas
mod PullLemmas
pub mod KnownLemmas
pub mod OrderLemmas
