-- What is on the wires once all components have driven.
use Rattle.std.proofs.Common.{ℕ, ◌≡◌, ◌<◌, refl, sym, ◌∙◌, ap, arith, inl, inr, subst, [], ◌∷◌, ◌+◌}
use Rattle.std.proofs.Common.{ap₂, cond, count_by, Bool, List, Option, Some, None, length, map}
use Rattle.std.proofs.Common.{slice_get, true}
use Rattle.std.proofs.lemmas.Bool.{cases_Bool, cases_lt}
use Rattle.std.proofs.lemmas.List.{length-map, Sums.sum_by-cons}
use Rattle.std.proofs.lemmas.Option.{slice_get-get_or, unwrap_or-slice_get}
use Rattle.aeth_base.proofs.Lists.{map-at}
use Rattle.aeth_clocked.specs.{Driven.driven, Driven.is_output, Wires.flit_on}
use Rattle.aeth_clocked.specs.{declared.flit.Flit.Flit}
use Rattle.aeth_clocked.proofs.{DrivenLemmas.driven-at, WiresLemmas.Drives-whole}
use Rattle.aeth_router.proofs.OnwardLemmas.{flit_on-carried}
use Rattle.aeth_router.specs.Onward.{Arrival, CameFrom, arrival_at, carried}
use Rattle.aeth_router.specs.Part.{emit_of, outputs_of}
use Rattle.aeth_router.specs.declared.part.Part.{Part}
use Rattle.aeth_router.specs.declared.part.Part.TheVariants.{Interface, Router, Stage, TableRouter}
use Rattle.aeth_components.proofs.WiringLemmas.{AreDisjoint-parts, from-map, is_output-parts}
use Rattle.aeth_components.proofs.WiringLemmas.{outputs_of-wiring}
use Rattle.aeth_components.proofs.OwnLemmas.{emits-mute, mute-other, output-below}
use Rattle.aeth_components.proofs.PassedLemmas.{passed-emits, passed-none}
use Rattle.aeth_components.proofs.SeenLemmas.{wirings-seen, outputs_of-seen}
use Rattle.aeth_components.proofs.SeenCycle.{sends_own-seen}
use Rattle.aeth_components.specs.{Components.wires_driven, Ends.AreEnds, Ends.is_interface}
use Rattle.aeth_components.specs.{Wirings.Wiring, Wirings.IsWired, Wirings.wiring_of}
use Rattle.aeth_components.specs.{Wirings.sends_by, Passing.passed_from, Seen.all_seen, Seen.seen}
use Rattle.aeth_components.specs.{Sending.Injects, FlitsOnWires.sends_own, declared.ends.Ends.Ends}

-- What an interface emits doesn't depend on what came to it last.
emits-seen : (wires : List (Option Flit)) (cycle wire : ℕ) (part : Part)
    → is_interface (wiring_of part) ≡ true
    → emit_of part cycle wire ≡ emit_of (seen wires part) cycle wire
emits-seen wires cycle wire (Interface ni) is = refl
emits-seen wires cycle wire (Router router) is = absurd (cc is)
emits-seen wires cycle wire (TableRouter router) is = absurd (cc is)
emits-seen wires cycle wire (Stage stage) is = absurd (cc is)

module _ (parts : List Part) (wires : List (Option Flit)) (ends : Ends) (cycle : ℕ)
    (wired : IsWired (map wiring_of parts) (length wires))
    (are : AreEnds (map wiring_of parts) (length wires) ends) (arrivals : List Arrival)
    (size : length arrivals ≡ length wires)
    (came : (out : ℕ) → out < length wires
    → CameFrom (passed_from ends.receivers.items parts wires cycle out) (length wires)
    (arrival_at arrivals out)) where
  -- What components hold makes no difference to how they are wired.
  seen-wired : IsWired (map wiring_of (all_seen wires parts)) (length wires)
  seen-wired =
      subst (λ (wirings : List Wiring). IsWired wirings (length wires))
      (sym (wirings-seen wires parts)) wired

  -- What the wires carry that has come.
  settled-at : (settled : List (Option Flit)) → settled ≡ map carried arrivals → (wire : ℕ)
      → wire < length wires → flit_on settled wire ≡ carried (arrival_at arrivals wire)
  settled-at settled is wire within =
      ap (λ (wires : List (Option Flit)). flit_on wires wire) is
      ∙ flit_on-carried arrivals wire (omega (arith, size, within))

  -- Nothing has come to what an interface sends on.
  empty-outputs : (settled : List (Option Flit)) → settled ≡ map carried arrivals
      → (i wire : ℕ) (part : Part) → slice_get parts i ≡ Some part → i < ends.interfaces
      → outputs_of part wire ≡ true → flit_on settled wire ≡ None
  empty-outputs settled is i wire part at less own =
      let within = output-below parts (length wires) wired i part at wire own in
      settled-at settled is wire within
      ∙ passed-none parts wires ends cycle wired are i wire part (arrival_at arrivals wire) at less own
      (came wire within)

  -- On each output is what the component emits, seen with what it holds.
  output-emits : (settled now : List (Option Flit)) → settled ≡ map carried arrivals
      → Injects cycle parts settled now → (i wire : ℕ) (part : Part)
      → slice_get parts i ≡ Some part → outputs_of part wire ≡ true
      → flit_on now wire ≡ emit_of (seen wires part) cycle wire
  output-emits settled now is injects i wire part at own =
      let within = output-below parts (length wires) wired i part at wire own in
      let wired_for = map-at wiring_of parts i part at in
      elim (cases_lt i ends.interfaces) [
        | inl less ↦
            let first = are.first i (wiring_of part) wired_for less in
            elim (cases_Bool (sends_own cycle part)) [
              | inl sends ↦ injects.own i wire part at sends own
              | inr mute ↦
                  injects.other i wire part at mute own
                  ∙ empty-outputs settled is i wire part at less own
                  ∙ sym (emits-mute cycle part first mute wire)
            ] ∙ emits-seen wires cycle wire part first
        | inr over ↦
            injects.other i wire part at
            (mute-other cycle part (are.others i (wiring_of part) wired_for over)) own
            ∙ settled-at settled is wire within
            ∙ passed-emits parts wires ends cycle wired are i wire part (arrival_at arrivals wire) at
            over own (came wire within)
      ]

  -- All that is on the wires is what the components drive.
  driven-at-wire : (settled now : List (Option Flit)) → settled ≡ map carried arrivals
      → Injects cycle parts settled now → (wire : ℕ) → wire < length wires
      → flit_on now wire ≡ driven outputs_of emit_of (all_seen wires parts) cycle wire
  driven-at-wire settled now is injects wire within =
      let (i, wiring, there, sends) = wired.owned wire within in
      let (part, at, wired_for) = from-map wiring_of parts i wiring there in
      let own : outputs_of part wire ≡ true =
      outputs_of-wiring part wire ∙ ap (λ (wiring : Wiring). sends_by wiring wire) (sym wired_for)
      ∙ sends in
      output-emits settled now is injects i wire part at own
      ∙ sym (driven-at outputs_of emit_of (all_seen wires parts) i cycle wire (seen wires part)
      (AreDisjoint-parts (all_seen wires parts) (length wires) seen-wired)
      (map-at (seen wires) parts i part at)
      (ap (λ (outputs : ℕ → Bool). outputs wire) (outputs_of-seen wires part) ∙ own))

  pub wires-driven : (settled now : List (Option Flit)) → settled ≡ map carried arrivals
      → Injects cycle parts settled now
      → now ≡ wires_driven (all_seen wires parts) (length wires) cycle
  wires-driven settled now is injects =
      let seen_parts = all_seen wires parts in
      let sized : length settled ≡ length wires =
      ap length is ∙ length-map arrivals carried ∙ size in
      let all : (wire : ℕ) → wire < length settled → is_output outputs_of seen_parts wire ≡ true =
      λ wire within. is_output-parts seen_parts (length wires) seen-wired wire
      (omega (arith, sized, within)) in
      Drives-whole (is_output outputs_of seen_parts) (driven outputs_of emit_of seen_parts cycle) settled
      now all (record {
        links = injects.size;
        at = λ wire within.
            let count = injects.size in
            let below : wire < length wires = omega (arith, sized, within) in
            rw (all wire within)
            (slice_get-get_or now wire None (omega (arith, count, within))
            ∙ ap (λ (flit : Option Flit). Some flit)
            (sym (unwrap_or-slice_get now wire None)
            ∙ driven-at-wire settled now is injects wire below));
      })
      ∙ ap (λ (n : ℕ). wires_driven seen_parts n cycle) sized

-- As many send something of their own, whatever came to components.
pub sending-seen : (wires : List (Option Flit)) (cycle : ℕ) (parts : List Part)
    → count_by (sends_own cycle) (all_seen wires parts) ≡ count_by (sends_own cycle) parts
sending-seen wires cycle [] = refl
sending-seen wires cycle (part ∷ parts) =
    sum_by-cons (λ x. cond (sends_own cycle x) 1 0) (seen wires part) (all_seen wires parts)
    ∙ ap₂ (λ (own : Bool) (rest : ℕ). cond own 1 0 + rest) (sends_own-seen wires cycle part)
    (sending-seen wires cycle parts)
    ∙ sym (sum_by-cons (λ x. cond (sends_own cycle x) 1 0) part parts)
