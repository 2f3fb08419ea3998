pub mod DesignLemmas
pub mod FileLemmas
pub mod ToldLemmas
