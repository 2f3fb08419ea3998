-- Where a component takes the place of another, the wires lose what that one holds, and every other component stays as it
-- was.
use Rattle.std.proofs.Common.{ℕ, ◌≡◌, ◌≢◌, ◌<◌, ◌≤◌, ◌==◌, refl, sym, ◌∙◌, ap, arith, inl, inr}
use Rattle.std.proofs.Common.{true, false, if◌then◌else◌, List, [], length, map, set, slice_get}
use Rattle.std.proofs.Common.{Option, Some, None, slice_index, unwrap_or, eq-eqb, eqb-true}
use Rattle.std.proofs.lemmas.Bool.{cases_Bool, cases_eq, cases_lt}
use Rattle.std.proofs.lemmas.List.{length-map}
use Rattle.std.proofs.lemmas.List.FromFn.{get_or-map-range_with_len, length-map-range_with_len}
use Rattle.std.proofs.lemmas.Option.{get_or_from_slice_get, same_Some, slice_get-get_or}
use Rattle.std.proofs.lemmas.Option.{slice_get-map, slice_get_past, slice_get_within}
use Rattle.std.specs.Option.{option_map}
use Rattle.aeth_base.proofs.Lists.{same_list, slice_get-slice_set_other, slice_get-slice_set_same}
use Rattle.aeth_clocked.specs.{Wires.flit_on, declared.flit.Flit.Flit}
use Rattle.aeth_ni.specs.Component.{arrival_of, last_of}
use Rattle.aeth_router.proofs.LinkLemmas.{is_among-at}
use Rattle.aeth_router.specs.Part.{inputs_of}
use Rattle.aeth_router.specs.Router.{is_among}
use Rattle.aeth_router.specs.declared.part.Part.{Part}
use Rattle.aeth_router.specs.declared.part.Part.TheVariants.{Interface, Router, Stage, TableRouter}
use Rattle.aeth_components.proofs.{MapLemmas.map-agree, PassedLemmas.end-of, PassedLemmas.input-of}
use Rattle.aeth_components.specs.{Ends.AreEnds, Wirings.IsWired, Wirings.wiring_of}
use Rattle.aeth_components.specs.{Replacing.emptied, Replacing.without_held, Seen.all_seen}
use Rattle.aeth_components.specs.{Seen.seen, declared.ends.Ends.Ends}

-- Wires that agree where a component receives are seen alike by it.
held-agree : (wires other : List (Option Flit)) (incoming : List ℕ)
    → ((wire : ℕ) → is_among incoming wire ≡ true → flit_on wires wire ≡ flit_on other wire)
    → map (flit_on wires) incoming ≡ map (flit_on other) incoming
held-agree wires other incoming same =
    map-agree (flit_on wires) (flit_on other) incoming
    (λ place wire at. same wire (is_among-at incoming place wire at))

seen-agree : (wires other : List (Option Flit)) (part : Part)
    → ((wire : ℕ) → inputs_of part wire ≡ true → flit_on wires wire ≡ flit_on other wire)
    → seen wires part ≡ seen other part
seen-agree wires other (Interface ni) same =
    ap (λ (flit : Option Flit). Interface (record ni { last = last_of (arrival_of flit) }))
    (same ni.entering.0 (eq-eqb ni.entering.0 ni.entering.0 refl))
seen-agree wires other (Router router) same =
    ap (λ (held : List (Option Flit)). Router (record router { held = held }))
    (held-agree wires other router.incoming same)
seen-agree wires other (TableRouter router) same =
    ap (λ (held : List (Option Flit)). TableRouter (record router { held = held }))
    (held-agree wires other router.incoming same)
seen-agree wires other (Stage stage) same =
    ap (λ (flit : Option Flit). Stage (record stage { held = flit }))
    (same stage.input.0 (eq-eqb stage.input.0 stage.input.0 refl))

module _ (part : Part) (wires : List (Option Flit)) where
  -- What a wire has then.
  abbrev left_on : ℕ → Option Flit
  left_on wire = if inputs_of part wire then None else flit_on wires wire

  pub length-without_held : length (without_held part wires) ≡ length wires
  length-without_held = length-map-range_with_len left_on 0 (length wires)

  without_held-at : (wire : ℕ) → wire < length wires
      → slice_get (without_held part wires) wire ≡ Some (left_on wire)
  without_held-at wire within =
      let size = length-without_held in
      slice_get-get_or (without_held part wires) wire None (omega (arith, size, within))
      ∙ ap (λ (flit : Option Flit). Some flit)
      (get_or-map-range_with_len left_on 0 (length wires) wire wire None within (omega arith))

  past-all : (wire : ℕ) → length wires ≤ wire → flit_on wires wire ≡ None
  past-all wire past =
      ap (λ (found : Option (Option Flit)). unwrap_or found None) (slice_get_past wires wire past)

  past-left : (wire : ℕ) → length wires ≤ wire → flit_on (without_held part wires) wire ≡ None
  past-left wire past =
      let size = length-without_held in
      ap (λ (found : Option (Option Flit)). unwrap_or found None)
      (slice_get_past (without_held part wires) wire (omega (arith, size, past)))

  left-here : (wire : ℕ) → wire < length wires
      → flit_on (without_held part wires) wire ≡ left_on wire
  left-here wire within =
      ap (λ (found : Option (Option Flit)). unwrap_or found None) (without_held-at wire within)

  -- Where the component receives there is no flit.
  without_held-own : (wire : ℕ) → inputs_of part wire ≡ true
      → flit_on (without_held part wires) wire ≡ None
  without_held-own wire own = elim (cases_lt wire (length wires)) [
    | inl within ↦ left-here wire within ∙ rw own refl
    | inr past ↦ past-left wire past
  ]

  -- On each other wire stays what there is.
  without_held-other : (wire : ℕ) → inputs_of part wire ≡ false
      → flit_on (without_held part wires) wire ≡ flit_on wires wire
  without_held-other wire other = elim (cases_lt wire (length wires)) [
    | inl within ↦ left-here wire within ∙ rw other refl
    | inr past ↦ past-left wire past ∙ sym (past-all wire past)
  ]

  -- Wires are these where each has what it should.
  pub without_held-is : (new : List (Option Flit)) → length new ≡ length wires
      → ((wire : ℕ) → wire < length wires → slice_get new wire ≡ Some (left_on wire))
      → new ≡ without_held part wires
  without_held-is new size at =
      same_list new (without_held part wires) (λ wire. elim (cases_lt wire (length wires)) [
        | inl within ↦ at wire within ∙ sym (without_held-at wire within)
        | inr past ↦
            let same = length-without_held in
            slice_get_past new wire (omega (arith, size, past))
            ∙ sym (slice_get_past (without_held part wires) wire (omega (arith, same, past)))
      ])

  -- The component itself holds nothing.
  seen-emptied : seen (without_held part wires) part ≡ emptied part
  seen-emptied =
      seen-agree (without_held part wires) [] part (λ wire own. without_held-own wire own)

-- A component stands at a place.
module _ (parts : List Part) (wires : List (Option Flit)) (ends : Ends) (place : ℕ) (part : Part)
    (wired : IsWired (map wiring_of parts) (length wires))
    (are : AreEnds (map wiring_of parts) (length wires) ends)
    (at : slice_get parts place ≡ Some part) where
  -- It receives on just the wires at whose ends its number is.
  pub receives-there : (wire : ℕ) → wire < length wires
      → (slice_index ends.receivers.items wire == place) ≡ inputs_of part wire
  receives-there wire within = elim (cases_Bool (inputs_of part wire)) [
    | inl own ↦
        eq-eqb (slice_index ends.receivers.items wire) place
        (get_or_from_slice_get ends.receivers.items wire place 0
        (end-of parts wires ends 0 wired are place wire part at own))
        ∙ sym own
    | inr other ↦ elim (cases_Bool (slice_index ends.receivers.items wire == place)) [
      | inl here ↦
          let same = eqb-true (slice_index ends.receivers.items wire) place here in
          let size = are.fits.receivers in
          let found : slice_get ends.receivers.items wire ≡ Some place =
          slice_get-get_or ends.receivers.items wire 0 (omega (arith, size, within))
          ∙ ap (λ (number : ℕ). Some number) same in
          absurd (cc (sym (input-of parts wires ends 0 wired are place wire part within at found) ∙ other))
      | inr apart ↦ apart ∙ sym other
    ]
  ]

  -- No other component does, so each sees what it saw.
  seen-apart : (i : ℕ) (other : Part) → slice_get parts i ≡ Some other → i ≢ place
      → seen (without_held part wires) other ≡ seen wires other
  seen-apart i other there apart =
      seen-agree (without_held part wires) wires other (λ wire own.
      without_held-other part wires wire (elim (cases_Bool (inputs_of part wire)) [
        | inl both ↦
            absurd (apart (same_Some i place
            (sym (end-of parts wires ends 0 wired are i wire other there own)
            ∙ end-of parts wires ends 0 wired are place wire part at both)))
        | inr not ↦ not
      ]))

  seen-found : (i : ℕ) → i ≢ place → (found : Option Part) → slice_get parts i ≡ found
      → option_map (seen (without_held part wires)) found ≡ option_map (seen wires) found
  seen-found i apart None there = refl
  seen-found i apart (Some other) there =
      ap (λ (part : Part). Some part) (seen-apart i other there apart)

  -- So just this component is another than before.
  pub all_seen-replaced : (before : List Part)
      → ((i : ℕ) → i ≢ place → slice_get parts i ≡ slice_get before i)
      → length parts ≡ length before
      → all_seen (without_held part wires) parts ≡ set (all_seen wires before) place (emptied part)
  all_seen-replaced before others size =
      let left = without_held part wires in
      let within = slice_get_within parts place part at in
      let count = length-map before (seen wires) in
      same_list (all_seen left parts) (set (all_seen wires before) place (emptied part))
      (λ i. elim (cases_eq i place) [
        | inl here ↦
            slice_get-map (seen left) parts i
            ∙ ap (option_map (seen left)) (ap (slice_get parts) here ∙ at)
            ∙ ap (λ (part : Part). Some part) (seen-emptied part wires)
            ∙ sym (slice_get-slice_set_same (all_seen wires before) place (emptied part)
            (omega (arith, within, size, count)))
            ∙ ap (slice_get (set (all_seen wires before) place (emptied part))) (sym here)
        | inr apart ↦
            slice_get-map (seen left) parts i
            ∙ seen-found i apart (slice_get parts i) refl
            ∙ ap (option_map (seen wires)) (others i apart)
            ∙ sym (slice_get-map (seen wires) before i)
            ∙ sym (slice_get-slice_set_other (all_seen wires before) place i (emptied part) apart)
      ])
