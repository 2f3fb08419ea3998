mod AuditJobs
