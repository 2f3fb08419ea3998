mod AuditedLemmas
mod CertifiedLemmas
mod ChainedLemmas
mod TabledLemmas
mod ToldLemmas
mod VersionLemmas
