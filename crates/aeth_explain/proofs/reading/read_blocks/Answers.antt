use Rattle.std.proofs.Common.{◌≡◌, List, All, length}
use Rattle.aeth_base.specs.declared.ids.LinkId.{LinkId}
use Rattle.aeth_explain.specs.{CutsFaults.rule_of, CutsText.AreLinksOf}
use Rattle.aeth_explain.proofs.ReadLemmas.{if-read, read-count, read-links}
use Rattle.aeth_explain.proofs.reading.read_blocks.Goals as goal

-- The links are the chip's.
pub returns-clause-links : goal.returns-clause-links
returns-clause-links c =
    if-read (All (AreLinksOf c.args.chip.now)) rule_of _ c.cuts_of_text.result _
    c.cuts_of_text.ensures
    (read-links c.args.chip.now c.args.app.now c.args.groups.now c.args.tries.now c.args.bytes.now)

-- Each try has lists.
pub returns-clause-count : goal.returns-clause-count
returns-clause-count c =
    if-read (λ (blocks : List (List (List LinkId))). length blocks ≡ length c.args.tries.now) rule_of _
    c.cuts_of_text.result _ c.cuts_of_text.ensures
    (read-count c.args.chip.now c.args.app.now c.args.groups.now c.args.tries.now c.args.bytes.now)
