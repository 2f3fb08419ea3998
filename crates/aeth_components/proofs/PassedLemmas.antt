-- What is passed on to a wire is what the component that sends there emits of what it holds.
use Rattle.std.proofs.Common.{ℕ, ◌≡◌, ◌<◌, ◌≤◌, refl, sym, ◌∙◌, ap, subst, inl, inr, List, Option}
use Rattle.std.proofs.Common.{Some, None, length, map, slice_get, true, IsSome, eqb-true}
use Rattle.std.proofs.lemmas.{Bool.cases_Bool, Option.same_Some}
use Rattle.aeth_base.proofs.{Lists.map-at, Members.All-slice_get}
use Rattle.aeth_clocked.specs.{Wires.AreLinks, Wires.flit_on, declared.flit.Flit.Flit}
use Rattle.aeth_router.proofs.PassingLemmas.{passed-output, router-sole, stage-sole, table-sole}
use Rattle.aeth_router.specs.Onward.{Arrival, CameFrom, carried}
use Rattle.aeth_router.specs.Part.{emit_of, inputs_of, outputs_of}
use Rattle.aeth_router.specs.Passing.{IsSole, passed}
use Rattle.aeth_router.specs.declared.part.Part.{Part}
use Rattle.aeth_router.specs.declared.part.Part.TheVariants.{Interface, Router, Stage, TableRouter}
use Rattle.aeth_components.proofs.WiringLemmas.{AreDisjoint-parts, AreLinks-inputs, from-map}
use Rattle.aeth_components.proofs.WiringLemmas.{inputs_of-wiring, none-unless}
use Rattle.aeth_components.proofs.CarriedLemmas.{carried-none, carried-sole}
use Rattle.aeth_components.specs.{Ends.AreEnds, Wirings.AreInputsApart, Wirings.Wiring}
use Rattle.aeth_components.specs.{Wirings.IsWired, Wirings.wiring_of, Wirings.receives_by}
use Rattle.aeth_components.specs.{Passing.passed_from, Seen.seen, declared.ends.Ends.Ends}

module _ (parts : List Part) (wires : List (Option Flit)) (ends : Ends) (cycle : ℕ)
    (wired : IsWired (map wiring_of parts) (length wires))
    (are : AreEnds (map wiring_of parts) (length wires) ends) where
  -- Who receives on a wire is at its end.
  pub end-of : (i wire : ℕ) (part : Part) → slice_get parts i ≡ Some part
      → inputs_of part wire ≡ true → slice_get ends.receivers.items wire ≡ Some i
  end-of i wire part at is =
      are.receives.at wire i (wiring_of part) (map-at wiring_of parts i part at)
      (sym (inputs_of-wiring part wire) ∙ is)

  -- And who is at the end of a wire receives there.
  pub input-of : (i wire : ℕ) (part : Part) → wire < length wires → slice_get parts i ≡ Some part
      → slice_get ends.receivers.items wire ≡ Some i → inputs_of part wire ≡ true
  input-of i wire part within at ends_at =
      let (j, wiring, there, receives) = are.received.some wire within in
      let same : j ≡ i =
      same_Some j i (sym (are.receives.at wire j wiring there receives) ∙ ends_at) in
      let wired_for_too : wiring ≡ wiring_of part =
      same_Some wiring (wiring_of part)
      (sym there ∙ ap (slice_get (map wiring_of parts)) same ∙ map-at wiring_of parts i part at) in
      inputs_of-wiring part wire
      ∙ ap (λ (wiring : Wiring). receives_by wiring wire) (sym wired_for_too) ∙ receives

  -- What goes from a wire to an output.
  pub passed-at : (i wire out : ℕ) (part : Part) → slice_get parts i ≡ Some part
      → slice_get ends.receivers.items wire ≡ Some i
      → passed_from ends.receivers.items parts wires cycle out wire
      ≡ passed part cycle out wire (flit_on wires wire)
  passed-at i wire out part at ends_at = rw (ends_at, at) refl

  -- The component at the end of a wire.
  pub receiver : (wire : ℕ) → wire < length wires
      → (i : ℕ) × (part : Part) × (slice_get parts i ≡ Some part)
      × (slice_get ends.receivers.items wire ≡ Some i)
  receiver wire within =
      let (i, wiring, there, receives) = are.received.some wire within in
      let (part, at, is) = from-map wiring_of parts i wiring there in
      (i, part, at, are.receives.at wire i wiring there receives)

  -- What goes to an output of a component comes by one of its inputs.
  pub passed-own : (i wire out : ℕ) (part : Part) → wire < length wires
      → slice_get parts i ≡ Some part → outputs_of part out ≡ true
      → IsSome (passed_from ends.receivers.items parts wires cycle out wire)
      → slice_get ends.receivers.items wire ≡ Some i
  passed-own i wire out part within at is some =
      let (j, other, there, ends_at) = receiver wire within in
      let sent = passed-at j wire out other there ends_at in
      elim (cases_Bool (outputs_of other out)) [
        | inl own ↦
            let same = AreDisjoint-parts parts (length wires) wired i j out part other at there is own in
            ends_at ∙ ap (λ (n : ℕ). Some n) (sym same)
        | inr not ↦
            absurd (cc (subst IsSome
            (sent ∙ passed-output other cycle out wire (flit_on wires wire) not) some))
      ]

  -- What a component emits is what it passes on of what it holds, where this is so of one alone.
  emits : (i out : ℕ) (part : Part) (arrival : Arrival) (result : Option Flit)
      → slice_get parts i ≡ Some part → outputs_of part out ≡ true
      → CameFrom (passed_from ends.receivers.items parts wires cycle out) (length wires) arrival
      → IsSole (λ wire. inputs_of part wire ≡ true)
      (λ wire. passed part cycle out wire (flit_on wires wire)) result
      → carried arrival ≡ result
  emits i out part arrival result at is came sole =
      carried-sole (λ wire. inputs_of part wire ≡ true)
      (passed_from ends.receivers.items parts wires cycle out)
      (λ wire. passed part cycle out wire (flit_on wires wire)) (length wires) arrival result came sole
      (λ wire input. All-slice_get (λ part. AreLinks (inputs_of part) (length wires)) parts i part
      (AreLinks-inputs parts (length wires) wired) at wire input)
      (λ wire input. passed-at i wire out part at (end-of i wire part at input))
      (λ wire within some. input-of i wire part within at (passed-own i wire out part within at is some))

  -- So it is with each that isn't an interface.
  pub passed-emits : (i out : ℕ) (part : Part) (arrival : Arrival) → slice_get parts i ≡ Some part
      → ends.interfaces ≤ i → outputs_of part out ≡ true
      → CameFrom (passed_from ends.receivers.items parts wires cycle out) (length wires) arrival
      → carried arrival ≡ emit_of (seen wires part) cycle out
  passed-emits i out (Interface ni) arrival at over is came =
      absurd (cc (are.others i (wiring_of (Interface ni))
      (map-at wiring_of parts i (Interface ni) at) over))
  passed-emits i out (Router router) arrival at over is came =
      emits i out (Router router) arrival _ at is came
      (router-sole router (All-slice_get AreInputsApart (map wiring_of parts) i
      (wiring_of (Router router)) are.received.apart (map-at wiring_of parts i (Router router) at))
      wires cycle out)
  passed-emits i out (TableRouter router) arrival at over is came =
      emits i out (TableRouter router) arrival _ at is came
      (table-sole router wires cycle out)
  passed-emits i out (Stage stage) arrival at over is came =
      emits i out (Stage stage) arrival _ at is came
      (stage-sole stage wires cycle out (eqb-true stage.output.0 out is))

  -- Nothing is passed on to what an interface sends on.
  pub passed-none : (i out : ℕ) (part : Part) (arrival : Arrival) → slice_get parts i ≡ Some part
      → i < ends.interfaces → outputs_of part out ≡ true
      → CameFrom (passed_from ends.receivers.items parts wires cycle out) (length wires) arrival
      → carried arrival ≡ None
  passed-none i out (Interface ni) arrival at less is came =
      carried-none (passed_from ends.receivers.items parts wires cycle out) (length wires) arrival came
      (λ wire within. none-unless (passed_from ends.receivers.items parts wires cycle out wire)
      (λ some. cc (
        some,
        passed-at i wire out (Interface ni) at
            (passed-own i wire out (Interface ni) within at is some),
      )))
  passed-none i out (Router router) arrival at less is came =
      absurd (cc (are.first i (wiring_of (Router router))
      (map-at wiring_of parts i (Router router) at) less))
  passed-none i out (TableRouter router) arrival at less is came =
      absurd (cc (are.first i (wiring_of (TableRouter router))
      (map-at wiring_of parts i (TableRouter router) at) less))
  passed-none i out (Stage stage) arrival at less is came =
      absurd (cc (are.first i (wiring_of (Stage stage)) (map-at wiring_of parts i (Stage stage) at)
      less))
