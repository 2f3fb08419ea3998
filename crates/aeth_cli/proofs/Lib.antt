mod CommandLemmas
mod PromiseLemmas
mod HeadlineLemmas
mod KeptLemmas
