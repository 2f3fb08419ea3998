mod DemoLemmas
pub mod RangeLemmas
