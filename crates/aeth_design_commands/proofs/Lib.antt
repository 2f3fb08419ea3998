mod AllocationLemmas
mod SlotJobs
