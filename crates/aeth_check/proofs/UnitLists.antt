-- The units of groups and of connections that are left.
use Rattle.std.proofs.Common.{◌≡◌, ◌+◌, ◌-◌, ◌<◌, ◌∙◌, ◌++◌, ℕ, List, [], ◌∷◌, map, Option, Some}
use Rattle.std.proofs.Common.{None, refl, sym, ap, arith, ◌≤◌, filter, flat_map}
use Rattle.std.proofs.lemmas.List.Concat.{flat_map-cons}
use Rattle.std.specs.{Option.option_or, List.range_with_len}
use Rattle.aeth_base.proofs.Ranges.{range_more}
use Rattle.aeth_base.specs.declared.ids.{Side.Side, Unit.Unit as GroupUnit}
use Rattle.aeth_group.specs.declared.grant.Grant.{Grant}
use Rattle.aeth_group.specs.Members.{GroupsData, is_member, units_with}
use Rattle.aeth_check.specs.Channels.{first_lacking, lacking_side, side_or}

-- The units of a connection with the groups from one on.
abbrev pub units_from : GroupsData → ℕ → ℕ → List GroupUnit
units_from groups c g =
    map (λ h. record { conn = record { 0 = c }; group = record { 0 = h } })
    (filter (λ h. is_member groups h c) (range_with_len g (groups.count - g)))

-- The units of the connections from one on.
abbrev pub units_behind : GroupsData → ℕ → List GroupUnit
units_behind groups c =
    flat_map (units_with groups) (range_with_len c (groups.connections - c))

side_or-append : (unit : GroupUnit) (side : Option Side) (first later : Option (GroupUnit × Side))
    → side_or unit side (option_or first later) ≡ option_or (side_or unit side first) later
side_or-append unit None first later = refl
side_or-append unit (Some side) first later = refl

-- The first side without a grant among some units and others.
first_lacking-append : (grants : List Grant) (xs ys : List GroupUnit)
    → first_lacking grants (xs ++ ys)
    ≡ option_or (first_lacking grants xs) (first_lacking grants ys)
first_lacking-append grants [] ys = refl
first_lacking-append grants (unit ∷ xs) ys =
    ap (side_or unit (lacking_side grants unit)) (first_lacking-append grants xs ys)
    ∙ side_or-append unit (lacking_side grants unit) (first_lacking grants xs)
    (first_lacking grants ys)

-- One connection more is judged.
lacking_step : (grants : List Grant) (groups : GroupsData) (c : ℕ) → c < groups.connections
    → first_lacking grants (units_behind groups c)
    ≡ option_or (first_lacking grants (units_with groups c))
    (first_lacking grants (units_behind groups (c + 1)))
lacking_step grants groups c within =
    ap (λ ns. first_lacking grants (flat_map (units_with groups) ns))
    (range_more c groups.connections within)
    ∙ ap (first_lacking grants) (flat_map-cons (units_with groups) c
    (range_with_len (c + 1) (groups.connections - (c + 1))))
    ∙ first_lacking-append grants (units_with groups c) (units_behind groups (c + 1))

module _ (grants : List Grant) (groups : GroupsData) (c : ℕ) (total : Option (GroupUnit × Side))
    (so_far : first_lacking grants (units_behind groups c) ≡ total) where
  -- A unit of this connection lacks a side.
  pub lacking_here : (found : GroupUnit × Side) → c < groups.connections
      → first_lacking grants (units_with groups c) ≡ Some found → Some found ≡ total
  lacking_here found within is =
      ap (λ o. option_or o (first_lacking grants (units_behind groups (c + 1)))) (sym is)
      ∙ sym (lacking_step grants groups c within) ∙ so_far

  -- None of them does.
  pub lacking_on : c < groups.connections → first_lacking grants (units_with groups c) ≡ None
      → first_lacking grants (units_behind groups (c + 1)) ≡ total
  lacking_on within is =
      ap (λ o. option_or o (first_lacking grants (units_behind groups (c + 1)))) (sym is)
      ∙ sym (lacking_step grants groups c within) ∙ so_far

  -- No connection is left.
  pub lacking_end : groups.connections ≤ c → None ≡ total
  lacking_end past =
      let none : groups.connections - c ≡ 0 = omega arith in
      sym (ap (λ n. first_lacking grants (flat_map (units_with groups) (range_with_len c n))) none)
      ∙ so_far
