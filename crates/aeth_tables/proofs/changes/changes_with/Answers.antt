use Rattle.std.proofs.Common.{◌∙◌, ◌≤◌, ◌+◌, ℕ, All, get_or, length, max, take, sym, ap, subst}
use Rattle.std.proofs.Common.{arith, take_all}
use Rattle.std.proofs.lemmas.List.{take_more}
use Rattle.aeth_base.proofs.ExtremeLemmas.{ord_max-nat}
use Rattle.aeth_tables.specs.Changes.{lag_in, most_writes, writes_in}
use Rattle.aeth_tables.specs.declared.changes.Change.{Change}
use Rattle.aeth_tables.proofs.ChangeLaws.{lag_in-push, writes_in-push}
use Rattle.aeth_tables.proofs.changes.changes_with.Goals as goal

-- The changes are few, and so are the writes of each.
few_writes : (c : goal.After-max-lag)
    → (get_or c.deref-change-items.result.now c.loop-change.change-index
    (record { conn = record { 0 = 0 }; lag = 0; writes = 0 })).writes ≤ most_writes
few_writes c =
    subst (λ xs. All (λ (one : Change). one.writes ≤ most_writes) xs)
    (sym c.deref-change-items.ensures.value) c.requires.each c.loop-change.change-index
    (record { conn = record { 0 = 0 }; lag = 0; writes = 0 }) c.loop-change-test.true

pub overflow_add-writes : goal.overflow_add-writes
overflow_add-writes c = omega (
  arith,
  few_writes c,
  c.loop-change.invariant.most,
  c.loop-change-test.true,
  ap length c.deref-change-items.ensures.value,
  c.requires.count,
)

-- One more change.
pub loop-change-preserved : goal.loop-change-preserved
loop-change-preserved c =
    let items = c.deref-change-items.result.now in
    let i = c.loop-change.change-index in
    let one = get_or items i (record { conn = record { 0 = 0 }; lag = 0; writes = 0 }) in
    let next = take_more items i (record { conn = record { 0 = 0 }; lag = 0; writes = 0 })
    c.loop-change-test.true in record {
      lag = c.max-lag.ensures ∙ ord_max-nat c.loop-change.lag _
          ∙ ap (λ (n : ℕ). max n one.lag) c.loop-change.invariant.lag
          ∙ sym (ap lag_in next ∙ lag_in-push (take i items) one);
      writes = ap (λ (n : ℕ). n + one.writes) c.loop-change.invariant.writes
          ∙ sym (ap writes_in next ∙ writes_in-push (take i items) one);
      most = omega (arith, c.loop-change.invariant.most, few_writes c);
    }

-- All changes were seen.
pub invariant_of-result : goal.invariant_of-result
invariant_of-result c =
    let all = take_all c.loop-change.change-index c.deref-change-items.result.now
    (omega (arith, c.loop-change-test.false)) ∙ c.deref-change-items.ensures.value in (
      c.requires,
      c.loop-change.invariant.lag ∙ ap lag_in all,
      c.loop-change.invariant.writes ∙ ap writes_in all,
    )
