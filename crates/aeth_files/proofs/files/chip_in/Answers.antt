use Rattle.std.proofs.Common.{codes}
use Rattle.aeth_chip.specs.{ChipFile.chip_of, Faults.rule_of}
use Rattle.aeth_answers.proofs.FileLemmas.{Judges-told}
use Rattle.aeth_files.proofs.files.chip_in.Goals as goal

-- The bytes are judged.
pub returns : goal.returns
returns c =
    λ now. Judges-told now (codes "chip") rule_of (λ chip. chip)
    (chip_of c.args.bytes.now) c.read_chip.result c.judged.result c.read_chip.ensures
    c.judged.ensures
