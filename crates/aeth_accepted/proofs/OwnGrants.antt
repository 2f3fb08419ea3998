-- Each grant of a plan is the one that its design has for its channel in its group.
use Rattle.std.proofs.Common.{◌≡◌, ◌∙◌, ◌<◌, ℕ, true, Some, Contains, slice_get, refl, sym, ap, inl}
use Rattle.std.proofs.Common.{inr, arith, ◌&&◌, eqb, Option, unwrap_or, eq-eqb}
use Rattle.std.proofs.lemmas.Bool.{and_from, cases_lt}
use Rattle.std.proofs.lemmas.Option.{get_or_from_slice_get, same_Some, slice_get_within}
use Rattle.aeth_base.specs.{Sides.same_side, declared.ids.Channel.Channel}
use Rattle.aeth_base.proofs.SideLemmas.{same_side-itself}
use Rattle.aeth_chip.specs.Chip.{ChipData}
use Rattle.aeth_app.specs.App.{AppData}
use Rattle.aeth_group.specs.declared.grant.Grant.{Grant}
use Rattle.aeth_plan.{specs.Plan.IsPlan, specs.Plan.PlanData, proofs.MadePlans.grants_apart}
use Rattle.aeth_report.specs.Design.{grant_at, is_for, no_grant}
use Rattle.aeth_report.proofs.GrantLemmas.{grant-for}
use Rattle.aeth_tables.proofs.{FindLaws.found_is, FindLaws.found_some, ListLaws.place_in}
use Rattle.aeth_accepted.specs.Inputs.{design_on}

module _ (plan : PlanData) (is : IsPlan plan) where
  -- Grants for one side of one unit don't stand one behind the other.
  not_behind : (i j : ℕ) (a b : Grant) → i < j → slice_get plan.grants i ≡ Some a
      → slice_get plan.grants j ≡ Some b → a.unit ≡ b.unit → a.side ≡ b.side → ⊥
  not_behind i j a b less at_i at_j units sides =
      let one = get_or_from_slice_get plan.grants i a a at_i in
      let two = get_or_from_slice_get plan.grants j b a at_j in
      let within = slice_get_within plan.grants j b at_j in
      grants_apart plan is i j a less within
      (ap (λ (x : Grant). x.unit) one ∙ units ∙ sym (ap (λ (x : Grant). x.unit) two))
      (ap (λ (x : Grant). x.side) one ∙ sides ∙ sym (ap (λ (x : Grant). x.side) two))

  -- So they are one.
  pub same_grant : (a b : Grant) → Contains plan.grants a → Contains plan.grants b
      → a.unit ≡ b.unit → a.side ≡ b.side → a ≡ b
  same_grant a b has_a has_b units sides =
      let (i, at_i) = place_in plan.grants a has_a in
      let (j, at_j) = place_in plan.grants b has_b in
      elim (cases_lt i j) [
        | inl less ↦ absurd (not_behind i j a b less at_i at_j units sides)
        | inr past ↦ elim (cases_lt j i) [
          | inl more ↦ absurd (not_behind j i b a more at_j at_i (sym units) (sym sides))
          | inr equal ↦
              let place : j ≡ i = omega arith in
              same_Some a b (sym at_i ∙ ap (slice_get plan.grants) (sym place) ∙ at_j)
        ]
      ]

-- The channel of a grant.
abbrev pub channel_of : Grant → Channel
channel_of grant = record { conn = grant.unit.conn; side = grant.side }

-- A grant of the plan is the design's.
pub grant-own : (chip : ChipData) (app : AppData) (plan : PlanData) → IsPlan plan
    → (grant : Grant) → Contains plan.grants grant
    → grant_at (design_on chip app plan) (channel_of grant) grant.unit.group.0 ≡ grant
grant-own chip app plan is grant has =
    let channel = channel_of grant in
    let group = grant.unit.group.0 in
    let conn = grant.unit.conn.0 in
    let passes : is_for channel group grant ≡ true =
    and_from (eqb conn conn) (eqb group group && same_side grant.side grant.side)
    (eq-eqb conn conn refl)
    (and_from (eqb group group) (same_side grant.side grant.side) (eq-eqb group group refl)
    (same_side-itself grant.side)) in
    let (found, finds) = found_some (is_for channel group) plan.grants grant has passes in
    let one = found_is (is_for channel group) plan.grants found finds in
    let of = grant-for (design_on chip app plan) channel group found one.0 one.1 in
    let unit : found.unit ≡ grant.unit =
    λ i. record { conn = record { 0 = of.conn i }; group = record { 0 = of.group i } } in
    let same = same_grant plan is found grant one.0 has unit of.side in
    ap (λ (o : Option Grant). unwrap_or o (no_grant chip.slots channel group)) finds ∙ same
