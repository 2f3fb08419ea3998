-- What has been passed on of the wires so far, of the flits that go on alike in every cycle.
use Rattle.std.proofs.Common.{ℕ, suc, ◌≡◌, ◌<◌, ◌≤◌, ◌+◌, refl, sym, ◌∙◌, ap, arith, subst, List}
use Rattle.std.proofs.Common.{Option, Some, None, IsSome, inl, inr, length, map, true, replicate}
use Rattle.std.proofs.Common.{slice_get}
use Rattle.std.proofs.lemmas.Bool.{cases_Bool}
use Rattle.aeth_base.proofs.Lists.{map-at}
use Rattle.aeth_clocked.specs.{Wires.flit_on, declared.flit.Flit.Flit}
use Rattle.aeth_router.proofs.OnwardLemmas.{CameFrom-next, CameFrom-skip, arrival_at-none}
use Rattle.aeth_router.specs.Forwarding.{sent_by}
use Rattle.aeth_router.specs.Onward.{Adds, Arrival, CameFrom, Nothing, arrival_at, arrived}
use Rattle.aeth_router.specs.Part.{outputs_of}
use Rattle.aeth_router.specs.Passing.{forwarded}
use Rattle.aeth_router.specs.declared.forwarding.Forwarding.{Forwarding}
use Rattle.aeth_router.specs.declared.part.Part.{Part}
use Rattle.aeth_router.specs.declared.part.Part.TheVariants.{Interface, Router, Stage, TableRouter}
use Rattle.aeth_components.proofs.LandedLemmas.{Lands, receiver-at}
use Rattle.aeth_components.proofs.PassedLemmas.{receiver}
use Rattle.aeth_components.proofs.OwnLemmas.{output-below}
use Rattle.aeth_components.proofs.WayLemmas.{forwarded-at, forwarded-empty, forwarded-output}
use Rattle.aeth_components.specs.{Ends.AreEnds, Ends.is_interface, Wirings.IsWired}
use Rattle.aeth_components.specs.{Wirings.wiring_of, Passing.AreForwarded, Passing.forwarded_from}
use Rattle.aeth_components.specs.{Passing.way_of, declared.ends.Ends.Ends}

-- An interface passes nothing on.
forwarded-by-interface : (part : Part) (out : ℕ) (flit : Option Flit)
    → is_interface (wiring_of part) ≡ true → forwarded part out flit ≡ None
forwarded-by-interface (Interface ni) out flit is = refl
forwarded-by-interface (Router router) out flit is = absurd (cc is)
forwarded-by-interface (TableRouter router) out flit is = absurd (cc is)
forwarded-by-interface (Stage stage) out flit is = absurd (cc is)

module _ (parts : List Part) (wires : List (Option Flit)) (ends : Ends) where
  -- What goes to an output of what a wire has.
  abbrev sent : ℕ → ℕ → Option Flit
  sent out wire = forwarded_from ends.receivers.items (map way_of parts) wires out wire

  -- To each wire has come what the first so many wires have for it.
  abbrev pub ForwardedTo : ℕ → List Arrival → Type 0
  ForwardedTo to onward =
      (out : ℕ) → out < length wires → CameFrom (sent out) to (arrival_at onward out)

  -- Before the first wire nothing has.
  pub ForwardedTo-none : (onward : List Arrival) → onward ≡ replicate (length wires) Nothing
      → ForwardedTo 0 onward
  ForwardedTo-none onward none out below =
      subst (CameFrom (sent out) 0)
      (sym (ap (λ (onward : List Arrival). arrival_at onward out) none
      ∙ arrival_at-none (length wires) out))
      (λ sender early. absurd (omega (arith, early)))

  -- One wire more: what it has is passed on to where it goes.
  ForwardedTo-step : (old new : List Arrival) (wire : ℕ) → ForwardedTo wire old
      → ((out : ℕ) → out < length wires
      → arrival_at new out ≡ arrived (sent out wire) (arrival_at old out))
      → ForwardedTo (wire + 1) new
  ForwardedTo-step old new wire came is out below =
      let next : suc wire ≡ wire + 1 = omega arith in
      subst (λ (to : ℕ). CameFrom (sent out) to (arrival_at new out)) next
      (subst (CameFrom (sent out) (suc wire)) (sym (is out below))
      (CameFrom-next (sent out) wire (arrival_at old out) (came out below)))

  module _ (wired : IsWired (map wiring_of parts) (length wires))
      (are : AreEnds (map wiring_of parts) (length wires) ends) where
    -- What an empty wire has goes nowhere.
    sent-nothing : (wire out : ℕ) → wire < length wires → flit_on wires wire ≡ None
        → sent out wire ≡ None
    sent-nothing wire out within empty =
        let (i, part, at, ends_at) = receiver parts wires ends 0 wired are wire within in
        forwarded-at ends.receivers.items parts wires i wire out part at ends_at
        ∙ ap (forwarded part out) empty ∙ forwarded-empty part out

    -- Some wires further on, which are empty.
    pub ForwardedTo-until : (onward : List Arrival) (from to : ℕ) → ForwardedTo from onward
        → from ≤ to → to ≤ length wires
        → ((wire : ℕ) → from ≤ wire → wire < to → flit_on wires wire ≡ None)
        → ForwardedTo to onward
    ForwardedTo-until onward from to came order within empty out below =
        CameFrom-skip (sent out) from to (arrival_at onward out) (came out below) order
        (λ wire over less. sent-nothing wire out (omega (arith, less, within)) (empty wire over less))

module _ {parts : List Part} {wires : List (Option Flit)} {ends : Ends} {wire number : ℕ} {flit : Flit}
    {old new : List (Option Flit)} (lands : Lands parts wires ends wire number flit old new) where
  sent-there : (out : ℕ)
      → forwarded (receiver-at lands).0 out (flit_on wires wire) ≡ sent parts wires ends out wire
  sent-there out =
      sym (forwarded-at ends.receivers.items parts wires number wire out (receiver-at lands).0
      (receiver-at lands).1 lands.end)

  -- The component that receives passes it on.
  pub ForwardedTo-passed : (onward : List Arrival) {next : List Arrival}
      → ForwardedTo parts wires ends wire onward
      → (part : Part) → part ≡ (receiver-at lands).0 → length onward ≡ length wires
      → Adds (λ out. forwarded part out (Some flit)) onward next
      → ForwardedTo parts wires ends (wire + 1) next
  ForwardedTo-passed onward {next} came part is size adds =
      ForwardedTo-step parts wires ends onward next wire came (λ out below.
      adds.at out (omega (arith, size, below))
      ∙ ap (λ (flit : Option Flit). arrived flit (arrival_at onward out))
      (ap (λ (part : Part). forwarded part out (Some flit)) is
      ∙ ap (forwarded (receiver-at lands).0 out) (sym lands.has) ∙ sent-there out))

  -- What is noted of it tells how.
  pub noted-tells : (noted : List Forwarding) (forwarding : Forwarding)
      → AreForwarded (map way_of parts) noted → slice_get noted number ≡ Some forwarding
      → (out : ℕ) → sent_by forwarding out flit ≡ forwarded (receiver-at lands).0 out (Some flit)
  noted-tells noted forwarding are at out =
      let (part, there) = receiver-at lands in
      are.at number (way_of part) forwarding (map-at way_of parts number part there) at out flit

  -- So a flit that is sent goes to a wire.
  pub noted-below : (forwarding : Forwarding)
      → ((out : ℕ) → sent_by forwarding out flit ≡ forwarded (receiver-at lands).0 out (Some flit))
      → (out : ℕ) → IsSome (sent_by forwarding out flit) → out < length wires
  noted-below forwarding tells out some =
      let (part, at) = receiver-at lands in
      elim (cases_Bool (outputs_of part out)) [
        | inl own ↦ output-below parts (length wires) lands.wired number part at out own
        | inr not ↦
            absurd (cc (subst IsSome (tells out ∙ forwarded-output part out (Some flit) not) some))
      ]

  -- By what is noted it is passed on.
  pub ForwardedTo-noted : (onward : List Arrival) {next : List Arrival}
      → ForwardedTo parts wires ends wire onward → (forwarding : Forwarding)
      → ((out : ℕ) → sent_by forwarding out flit ≡ forwarded (receiver-at lands).0 out (Some flit))
      → length onward ≡ length wires → Adds (λ out. sent_by forwarding out flit) onward next
      → ForwardedTo parts wires ends (wire + 1) next
  ForwardedTo-noted onward came forwarding tells size adds =
      ForwardedTo-passed onward came (receiver-at lands).0 refl size (record {
        size = adds.size;
        at = λ out below.
            adds.at out below
            ∙ ap (λ (flit : Option Flit). arrived flit (arrival_at onward out)) (tells out);
      })

  -- An interface does not.
  pub ForwardedTo-kept : (onward : List Arrival) → ForwardedTo parts wires ends wire onward
      → number < ends.interfaces → ForwardedTo parts wires ends (wire + 1) onward
  ForwardedTo-kept onward came less =
      let (part, at) = receiver-at lands in
      ForwardedTo-step parts wires ends onward onward wire came (λ out below.
      ap (λ (flit : Option Flit). arrived flit (arrival_at onward out))
      (sym (sym (sent-there out) ∙ forwarded-by-interface part out (flit_on wires wire)
      (lands.are.first number (wiring_of part) (map-at wiring_of parts number part at) less))))
