use Rattle.std.proofs.Common.{◌∙◌, ℕ, List, ap, subst, sym}
use Rattle.std.specs.List.Sorted.{IsNonDecreasingBy}
use Rattle.aeth_running.specs.Routing.{Entering, Routing, later_rows}
use Rattle.aeth_network.proofs.MappedRows.{behind-mapped, passed-mapped, rises-mapped}
use Rattle.aeth_network.specs.{Behind.IsBehind, Behind.passed, Routes.entering_of, Routes.rows_in}
use Rattle.aeth_network.specs.{declared.tables.EnteredUse.EnteredUse}
use Rattle.aeth_network.proofs.tables.UseTables.behind.Goals as goal

-- The cycle of what enters.
abbrev key : Entering → ℕ
key one = one.cycle

-- Use cases are entered as their rows are.
pub behind-requires-clause-order : goal.behind-requires-clause-order
behind-requires-clause-order c =
    let all = c.self.inside in
    subst (IsNonDecreasingBy (λ (one : EnteredUse). one.cycle)) (sym c.deref.ensures.value)
    (rises-mapped (entering_of (rows_in all.tables.items)) key all.later.items
    (subst (λ (routing : Routing). IsNonDecreasingBy key (later_rows routing)) (sym c.self.view_is)
    c.requires.order))

pub behind-requires-clause-from : goal.behind-requires-clause-from
behind-requires-clause-from c =
    let all = c.self.inside in
    c.requires.from
    ∙ ap (λ (routing : Routing). passed key c.args.time (later_rows routing)) (sym c.self.view_is)
    ∙ passed-mapped (entering_of (rows_in all.tables.items)) key c.args.time all.later.items
    ∙ ap (passed (λ (one : EnteredUse). one.cycle) c.args.time) (sym c.deref.ensures.value)

pub returns : goal.returns
returns c =
    let all = c.self.inside in
    subst (λ (routing : Routing). IsBehind key c.args.time (later_rows routing) c.args.from
    c.behind.result) c.self.view_is
    (behind-mapped (entering_of (rows_in all.tables.items)) key c.args.time all.later.items
    c.args.from c.behind.result
    (subst (λ (uses : List EnteredUse). IsBehind (λ (one : EnteredUse). one.cycle) c.args.time uses
    c.args.from c.behind.result) c.deref.ensures.value c.behind.ensures))
