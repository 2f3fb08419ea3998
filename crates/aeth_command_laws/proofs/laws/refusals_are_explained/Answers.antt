use Rattle.aeth_command_laws.proofs.CertifiedLemmas.{confirmed, explained}
use Rattle.aeth_command_laws.proofs.laws.refusals_are_explained.Goals as goal

-- A job of `explain` that refuses no file prints certificates.
pub returns-clause-explained : goal.returns-clause-explained
returns-clause-explained c = λ content chip_name app_name asked is kept.
    explained (record { chip = c.files.ensures; app = c.files-2.ensures }) content asked kept
    chip_name app_name is

-- One with a text of certificates tells whether they are.
pub returns-clause-confirmed : goal.returns-clause-confirmed
returns-clause-confirmed c = λ content chip_name app_name cert_name asked is kept.
    confirmed (record { chip = c.files.ensures; app = c.files-2.ensures }) content asked kept
    chip_name app_name cert_name is
