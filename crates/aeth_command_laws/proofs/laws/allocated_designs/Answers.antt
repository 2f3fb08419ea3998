use Rattle.aeth_command_laws.proofs.ToldLemmas.{allocated}
use Rattle.aeth_command_laws.proofs.laws.allocated_designs.Goals as goal

-- A job of `allocate` that refuses no file is the allocation of a chip and an application.
pub returns : goal.returns
returns c = λ content chip_name app_name asked is kept.
    allocated (record { chip = c.files.ensures; app = c.files-2.ensures }) content asked kept chip_name app_name is
