pub mod FirstLemmas
pub mod JoinLemmas
mod WalkLemmas
pub mod LiveLemmas
mod GiveUpLemmas
pub mod StepLemmas
pub mod PrefixLemmas
mod HopelessLemmas
mod LeastLemmas
mod VainLemmas
mod OrderLemmas
mod CostLemmas
mod OnceLemmas
mod OpenListLemmas
mod OpenFactLemmas
mod TryLemmas
mod EndLemmas
mod NearLemmas
mod EnterLemmas
pub mod CandidateLemmas
pub mod UniqueLemmas
