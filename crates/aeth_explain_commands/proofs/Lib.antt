mod ExplainLemmas
mod VerdictJobs
