pub mod FileLemmas
pub mod Listing
pub mod Reading
pub mod TaskLemmas
