use Rattle.aeth_explain.proofs.RefusalLemmas.{certificate-exists, certificate-is, certificate-sound}
use Rattle.aeth_explain.proofs.laws.certificates.Goals as goal

-- The shortest cuts are a certificate.
pub returns-clause-has : goal.returns-clause-has
returns-clause-has c = certificate-exists

-- A certificate rules candidates out.
pub returns-clause-rightly : goal.returns-clause-rightly
returns-clause-rightly c = certificate-sound

-- The one that is given is one.
pub returns-clause-only : goal.returns-clause-only
returns-clause-only c = certificate-is
