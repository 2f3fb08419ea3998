use Rattle.std.proofs.Common.{◌<◌, ◌∙◌, All, List, ap, length, refl, subst, sym}
use Rattle.aeth_trace.specs.declared.switches.SwitchRow.{SwitchRow}
use Rattle.aeth_accepted.specs.Inputs.{run_of}
use Rattle.aeth_network.proofs.Enterings.{first-all, later-all, uses-scheduled}
use Rattle.aeth_network.specs.{Routes.first_use, declared.tables.EnteredUse.EnteredUse}
use Rattle.aeth_network.proofs.tables.UseTables.of.Goals as goal

-- There are rows of each use case that is entered.
pub invariant_of-result : goal.invariant_of-result
invariant_of-result c =
    let inputs = c.args.inputs.now in
    let accepted = c.are_accepted.ensures in
    let n = length c.args.tables.items in
    let rows_are = c.rows-rows.ensures ∙ c.switches.ensures in
    let uses_are = uses-scheduled inputs c.args.schedule.now c.windows.result.now c.rows-rows.result.now
    _ c.requires.schedule c.windows.ensures rows_are c.in_ok-later_uses.ensures in
    let known : All (λ (row : SwitchRow). row.to.0 < n) inputs.switches =
    subst (λ count. All (λ (row : SwitchRow). row.to.0 < count) inputs.switches)
    (sym c.requires.tables) accepted.switches.known in (
      subst (λ u. u < n) (sym (c.first_use.ensures ∙ ap first_use rows_are))
          (first-all (λ u. u < n) inputs.switches accepted.switches.first known),
      subst (λ (uses : List EnteredUse). All (λ one. one.entered.0 < n) uses) (sym uses_are)
          (later-all (run_of inputs).spans (λ u. u < n) inputs.switches known),
    )

-- The tables are those of the switches.
pub returns : goal.returns
returns c =
    let rows_are = c.rows-rows.ensures ∙ c.switches.ensures in
    let uses_are = uses-scheduled c.args.inputs.now c.args.schedule.now c.windows.result.now
    c.rows-rows.result.now _ c.requires.schedule c.windows.ensures rows_are c.in_ok-later_uses.ensures in
    rw (uses_are, c.first_use.ensures, rows_are) refl
