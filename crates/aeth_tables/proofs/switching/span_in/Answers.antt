use Rattle.std.proofs.Common.{◌≡◌, ◌∙◌, ◌≢◌, ◌==◌, ℕ, false, refl, sym, arith, ne_eqb}
use Rattle.aeth_group.specs.Members.{group_at}
use Rattle.aeth_tables.proofs.ChangeLaws.{few_writes, made-apart}
use Rattle.aeth_tables.proofs.switching.span_in.Goals as goal

-- There are few writes.
pub overflow_add-result : goal.overflow_add-result
overflow_add-result c = omega (
  arith,
  c.writes.ensures.writes,
  c.writes-then-group_of.ensures.writes,
  few_writes c.args.closing.now c.writes.ensures.few,
  few_writes c.args.opening.now c.writes-then-group_of.ensures.few,
)

-- Two numbers that differ are of groups that do.
apart_by : (a b g h : ℕ) → a ≡ g → b ≡ h → a ≢ b → (g == h) ≡ false
apart_by a b g h one two other = ne_eqb g h (λ same. other (one ∙ same ∙ sym two))

-- All changes are made.
pub returns-then-group_of : goal.returns-then-group_of
returns-then-group_of c =
    let groups = c.args.groups.now in
    let u = c.args.u.0 in
    let v = c.args.v.0 in
    let apart = apart_by c.group_of.result.0 c.group_of-2.result.0 (group_at groups u)
    (group_at groups v) c.group_of.ensures.group c.group_of-2.ensures.group c.if-group_of.true in
    rw (
      made-apart groups u v apart c.args.closing.now,
      made-apart groups u v apart c.args.opening.now,
      c.lag.ensures,
      c.writes.ensures.writes,
      c.writes-then-group_of.ensures.writes,
    ) refl
