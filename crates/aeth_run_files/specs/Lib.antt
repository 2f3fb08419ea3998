pub mod Runs
pub mod TraceFiles
