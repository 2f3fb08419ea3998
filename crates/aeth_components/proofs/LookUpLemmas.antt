-- What is passed on of wires in a cycle, where all that goes on alike in every cycle was passed on before.
use Rattle.std.proofs.Common.{ℕ, ◌≡◌, ◌<◌, ◌≤◌, ◌+◌, ◌∙◌, refl, sym, ap, arith, subst, inl, inr}
use Rattle.std.proofs.Common.{true, false, if◌then◌else◌, nat_lt, List, Option, Some, None, length}
use Rattle.std.proofs.Common.{map, slice_get, le-ltb, lt-ltb}
use Rattle.std.proofs.lemmas.Bool.{cases_lt}
use Rattle.std.specs.List.{All}
use Rattle.aeth_base.proofs.{Lists.map-at, Members.All-slice_get}
use Rattle.aeth_clocked.specs.{Wires.flit_on, declared.flit.Flit.Flit}
use Rattle.aeth_router.proofs.PassingLemmas.{passed-empty}
use Rattle.aeth_router.specs.Onward.{Adds, Arrival, CameFrom, arrival_at, arrived}
use Rattle.aeth_router.specs.Passing.{forwarded, has_table, passed}
use Rattle.aeth_router.specs.declared.part.Part.{Part}
use Rattle.aeth_components.proofs.ArrivalLemmas.{CameFrom-more, CameFrom-same}
use Rattle.aeth_components.proofs.PassedLemmas.{passed-at, receiver}
use Rattle.aeth_components.proofs.WayLemmas.{forwarded-at, forwarded-by-table, forwarded-empty}
use Rattle.aeth_components.proofs.WayLemmas.{passed-alike}
use Rattle.aeth_components.specs.{Ends.AreEnds, Wirings.IsWired, Wirings.wiring_of}
use Rattle.aeth_components.specs.{Passing.forwarded_from, Passing.passed_from, Passing.way_of}
use Rattle.aeth_components.specs.{declared.ends.Ends.Ends}

module _ (parts : List Part) (wires : List (Option Flit)) (ends : Ends) (cycle : ℕ) where
  -- What goes to an output of a wire, where tables were looked up for all wires below a number.
  abbrev pub looked_up_from : ℕ → ℕ → ℕ → Option Flit
  looked_up_from from out wire =
      if nat_lt wire from then passed_from ends.receivers.items parts wires cycle out wire
      else forwarded_from ends.receivers.items (map way_of parts) wires out wire

  below-from : (from out wire : ℕ) → wire < from
      → looked_up_from from out wire ≡ passed_from ends.receivers.items parts wires cycle out wire
  below-from from out wire below = rw (lt-ltb wire from below) refl

  behind-from : (from out wire : ℕ) → from ≤ wire
      → looked_up_from from out wire
      ≡ forwarded_from ends.receivers.items (map way_of parts) wires out wire
  behind-from from out wire behind = rw (le-ltb wire from behind) refl

  -- To each wire has come what goes there.
  abbrev pub HasCome : (ℕ → ℕ → Option Flit) → List Arrival → Type 0
  HasCome sent onward =
      (out : ℕ) → out < length wires
      → CameFrom (sent out) (length wires) (arrival_at onward out)

  -- At first all that has come goes on alike in every cycle.
  pub looked-up-first : (onward : List Arrival)
      → HasCome (forwarded_from ends.receivers.items (map way_of parts) wires) onward
      → HasCome (looked_up_from 0) onward
  looked-up-first onward came out below =
      CameFrom-same (forwarded_from ends.receivers.items (map way_of parts) wires out)
      (looked_up_from 0 out) (length wires) (arrival_at onward out)
      (λ wire within. behind-from 0 out wire (omega arith)) (came out below)

  -- At last tables were looked up for all wires.
  pub looked-up-last : (onward : List Arrival) → HasCome (looked_up_from (length wires)) onward
      → HasCome (passed_from ends.receivers.items parts wires cycle) onward
  looked-up-last onward came out below =
      CameFrom-same (looked_up_from (length wires) out)
      (passed_from ends.receivers.items parts wires cycle out) (length wires) (arrival_at onward out)
      (λ wire within. sym (below-from (length wires) out wire within)) (came out below)

  -- From a wire goes in a cycle what goes on in every one.
  abbrev pub IsAlike : ℕ → Type 0
  IsAlike wire =
      (out : ℕ) → passed_from ends.receivers.items parts wires cycle out wire
      ≡ forwarded_from ends.receivers.items (map way_of parts) wires out wire

  -- Some wires further on, for which no table need be looked up.
  looked-up-alike : (onward : List Arrival) (from to : ℕ) → HasCome (looked_up_from from) onward
      → from ≤ to
      → ((wire : ℕ) → from ≤ wire → wire < to → wire < length wires → IsAlike wire)
      → HasCome (looked_up_from to) onward
  looked-up-alike onward from to came order alike out below =
      CameFrom-same (looked_up_from from out) (looked_up_from to out) (length wires)
      (arrival_at onward out)
      (λ wire within. elim (cases_lt wire from) [
        | inl before ↦
            below-from to out wire (omega (arith, before, order)) ∙ sym (below-from from out wire before)
        | inr since ↦
            sym (behind-from from out wire since
            ∙ elim (cases_lt wire to) [
              | inl less ↦ sym (alike wire since less within out) ∙ sym (below-from to out wire less)
              | inr behind ↦ sym (behind-from to out wire behind)
            ])
      ])
      (came out below)

  -- One wire more, at which a component with no table receives.
  pub looked-up-kept : (onward : List Arrival) (wire : ℕ) → HasCome (looked_up_from wire) onward
      → IsAlike wire → HasCome (looked_up_from (wire + 1)) onward
  looked-up-kept onward wire came alike =
      looked-up-alike onward wire (wire + 1) came (omega arith)
      (λ other since less within.
      let same : other ≡ wire = omega (arith, since, less) in
      subst IsAlike (sym same) alike)

  module _ (wired : IsWired (map wiring_of parts) (length wires))
      (are : AreEnds (map wiring_of parts) (length wires) ends) where
    -- All goes on alike where a component with no table receives.
    pub IsAlike-part : (i wire : ℕ) (part : Part) → slice_get parts i ≡ Some part
        → slice_get ends.receivers.items wire ≡ Some i → has_table part ≡ false → IsAlike wire
    IsAlike-part i wire part at ends_at none out =
        passed-at parts wires ends cycle wired are i wire out part at ends_at
        ∙ passed-alike part cycle out wire (flit_on wires wire) none
        ∙ sym (forwarded-at ends.receivers.items parts wires i wire out part at ends_at)

    -- And where there is no flit.
    IsAlike-empty : (wire : ℕ) → wire < length wires → flit_on wires wire ≡ None → IsAlike wire
    IsAlike-empty wire within empty out =
        let (i, part, at, ends_at) = receiver parts wires ends cycle wired are wire within in
        passed-at parts wires ends cycle wired are i wire out part at ends_at
        ∙ ap (passed part cycle out wire) empty ∙ passed-empty part cycle out wire
        ∙ sym (forwarded-empty part out) ∙ ap (forwarded part out) (sym empty)
        ∙ sym (forwarded-at ends.receivers.items parts wires i wire out part at ends_at)

    -- Some wires further on, which are empty.
    pub looked-up-until : (onward : List Arrival) (from to : ℕ) → HasCome (looked_up_from from) onward
        → from ≤ to → ((wire : ℕ) → from ≤ wire → wire < to → flit_on wires wire ≡ None)
        → HasCome (looked_up_from to) onward
    looked-up-until onward from to came order empty =
        looked-up-alike onward from to came order
        (λ wire since less within. IsAlike-empty wire within (empty wire since less))

    -- One wire more, whose flit a router with a table passes on.
    pub looked-up-passed : (old new : List Arrival) (wire i : ℕ) (part : Part)
        → HasCome (looked_up_from wire) old → length old ≡ length wires → wire < length wires
        → slice_get parts i ≡ Some part → slice_get ends.receivers.items wire ≡ Some i
        → has_table part ≡ true
        → Adds (λ out. passed part cycle out wire (flit_on wires wire)) old new
        → HasCome (looked_up_from (wire + 1)) new
    looked-up-passed old new wire i part came size within at ends_at is adds out below =
        let here : looked_up_from (wire + 1) out wire
        ≡ passed part cycle out wire (flit_on wires wire) =
        below-from (wire + 1) out wire (omega arith)
        ∙ passed-at parts wires ends cycle wired are i wire out part at ends_at in
        subst (CameFrom (looked_up_from (wire + 1) out) (length wires))
        (ap (λ (flit : Option Flit). arrived flit (arrival_at old out)) here
        ∙ sym (adds.at out (omega (arith, size, below))))
        (CameFrom-more (looked_up_from wire out) (looked_up_from (wire + 1) out) (length wires) wire
        (arrival_at old out) within
        (behind-from wire out wire (omega arith)
        ∙ forwarded-at ends.receivers.items parts wires i wire out part at ends_at
        ∙ forwarded-by-table part out (flit_on wires wire) is)
        (λ other few apart. elim (cases_lt other wire) [
          | inl before ↦
              below-from (wire + 1) out other (omega (arith, before))
              ∙ sym (below-from wire out other before)
          | inr since ↦
              behind-from (wire + 1) out other (omega (arith, since, apart))
              ∙ sym (behind-from wire out other since)
        ])
        (came out below))

    -- Where no component has a table, all goes on alike in every cycle.
    pub passed-without-tables : (onward : List Arrival)
        → All (λ way. way.by_table ≡ false) (map way_of parts)
        → HasCome (forwarded_from ends.receivers.items (map way_of parts) wires) onward
        → HasCome (passed_from ends.receivers.items parts wires cycle) onward
    passed-without-tables onward none came out below =
        CameFrom-same (forwarded_from ends.receivers.items (map way_of parts) wires out)
        (passed_from ends.receivers.items parts wires cycle out) (length wires) (arrival_at onward out)
        (λ wire within.
        let (i, part, at, ends_at) = receiver parts wires ends cycle wired are wire within in
        IsAlike-part i wire part at ends_at
        (All-slice_get (λ way. way.by_table ≡ false) (map way_of parts) i (way_of part) none
        (map-at way_of parts i part at)) out)
        (came out below)
