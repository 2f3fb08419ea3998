-- The answer that tells an audit is one to a command that has read its files.
use Rattle.std.proofs.Common.{◌≢◌, ◌<◌, arith}
use Rattle.aeth_answers.specs.Status.{read_fault_status, usage_status}
use Rattle.aeth_audit.specs.declared.verdict.Audit.{Audit, TheVariants.Clean, TheVariants.Fault}
use Rattle.aeth_plan_commands.specs.Audit.{audit_job}

pub audit_job-below : (audit : Audit) → (audit_job audit).status < read_fault_status
audit_job-below Clean = omega arith
audit_job-below (Fault rule row) = omega arith

pub audit_job-command : (audit : Audit) → (audit_job audit).status ≢ usage_status
audit_job-command Clean = λ usage. omega (arith, usage)
audit_job-command (Fault rule row) = λ usage. omega (arith, usage)
