-- Laws of the walk over the interfaces in which each that sends something of its own drives it.
use Rattle.std.proofs.Common.{ℕ, ◌≡◌, ◌≢◌, ◌<◌, ◌≤◌, ◌+◌, ◌%◌, refl, sym, ap, ◌∙◌, arith, cond}
use Rattle.std.proofs.Common.{false, true, inl, inr, List, length, length-set, map, Option, Some}
use Rattle.std.proofs.Common.{take, count_by, get_or, slice_get, slice_set, take-take}
use Rattle.std.proofs.lemmas.Bool.{cases_Bool, cases_eq, cases_lt}
use Rattle.std.proofs.lemmas.List.Sums.{count_by_more_yes, sum_by-take-le}
use Rattle.std.proofs.lemmas.Option.{get_or_from_slice_get, same_Some, slice_get-get_or}
use Rattle.std.proofs.lemmas.Option.{slice_get-map, slice_get_within}
use Rattle.std.specs.Option.{option_map}
use Rattle.aeth_base.proofs.Lists.{same_list, slice_get-slice_set_other, slice_get-slice_set_same}
use Rattle.aeth_base.specs.Marks.{bit_of}
use Rattle.aeth_clocked.specs.{Wires.Drives, Wires.flit_on, declared.flit.Flit.Flit}
use Rattle.aeth_router.specs.{Part.after_of, Part.emit_of, Part.outputs_of, declared.part.Part.Part}
use Rattle.aeth_components.specs.{declared.injecting.Injecting.Injecting, Wirings.IsWired}
use Rattle.aeth_components.specs.{Wirings.wiring_of, Injecting.AreInjecting, SlotMarks.marks_at}
use Rattle.aeth_components.specs.{Enqueuing.HasWaitingPlaces, Enqueuing.MarksActive}
use Rattle.aeth_components.specs.{Seen.interfaces_driven, Sending.Injects, Sending.IsSending}
use Rattle.aeth_components.specs.{FlitsOnWires.AreSendersMarked, FlitsOnWires.sends_own}
use Rattle.aeth_components.specs.{declared.enqueuing.Enqueuing.Enqueuing}
use Rattle.aeth_components.proofs.MarkedSenders.{AreInjecting-sends}
use Rattle.aeth_components.proofs.WiringLemmas.{AreDisjoint-parts}
use Rattle.aeth_components.proofs.OwnLemmas.{after-sends, flit_on-other, flit_on-own}
use Rattle.aeth_components.proofs.OwnLemmas.{option_map-still, output-below, own_driven, still-mute}
use Rattle.aeth_components.proofs.MarkingActiveLemmas.{MarksActive-more, MarksActive-none}
use Rattle.aeth_components.proofs.MarkingActiveLemmas.{MarksActive-same}

-- The components below a number have driven what they send of their own, and who waits there is
-- marked active.
pub record InjectedTo (cycle : ℕ) (parts : List Part) (wires : List (Option Flit))
    (enqueuing : Enqueuing)
    (steps to : ℕ) (now_parts : List Part) (now_wires : List (Option Flit))
    (now_enqueuing : Enqueuing)
    (now_steps : ℕ) : Type 0 where
  pub size : length now_parts ≡ length parts
  pub driven : (number : ℕ) → number < to
      → slice_get now_parts number ≡ option_map (own_driven cycle) (slice_get parts number)
  pub behind : (number : ℕ) → to ≤ number → slice_get now_parts number ≡ slice_get parts number
  pub links : length now_wires ≡ length wires
  pub own : (number wire : ℕ) (part : Part) → slice_get parts number ≡ Some part → number < to
      → sends_own cycle part ≡ true → outputs_of part wire ≡ true
      → flit_on now_wires wire ≡ emit_of part cycle wire
  pub other : (number wire : ℕ) (part : Part) → slice_get parts number ≡ Some part
      → (number < to → sends_own cycle part ≡ false) → outputs_of part wire ≡ true
      → flit_on now_wires wire ≡ flit_on wires wire
  pub marked_active : MarksActive (λ number. (number < to) × IsSending cycle parts number) enqueuing
      now_enqueuing
  pub few : now_steps ≤ steps + count_by (sends_own cycle) (take to parts)

-- None yet.
pub InjectedTo-first : (cycle : ℕ) (parts : List Part) (wires : List (Option Flit))
    (enqueuing : Enqueuing) (steps : ℕ) → HasWaitingPlaces enqueuing
    → InjectedTo cycle parts wires enqueuing steps 0 parts wires enqueuing steps
InjectedTo-first cycle parts wires enqueuing steps places = record {
  size = refl;
  driven = λ number below. absurd (omega (arith, below));
  behind = λ number past. refl;
  links = refl;
  own = λ number wire part at below. absurd (omega (arith, below));
  other = λ number wire part at rest is. refl;
  marked_active =
      MarksActive-none (λ number. (number < 0) × IsSending cycle parts number) enqueuing places
      (λ number is. let below = is.0 in omega (arith, below));
  few = omega arith;
}

module _ {cycle : ℕ} {parts : List Part} {wires : List (Option Flit)} {enqueuing : Enqueuing}
    {steps to : ℕ} {now_parts : List Part} {now_wires : List (Option Flit)} {now_enqueuing :
    Enqueuing}
    {now_steps : ℕ}
    (injected : InjectedTo cycle parts wires enqueuing steps to now_parts now_wires now_enqueuing
    now_steps) where
  -- Those that are passed over send nothing.
  pub InjectedTo-until : (next : ℕ) → to ≤ next
      → ((number : ℕ) (part : Part) → slice_get parts number ≡ Some part → to ≤ number
      → number < next → sends_own cycle part ≡ false)
      → InjectedTo cycle parts wires enqueuing steps next now_parts now_wires now_enqueuing
      now_steps
  InjectedTo-until next further mute =
      record {
        size = injected.size;
        driven = λ number below. elim (cases_lt number to) [
          | inl less ↦ injected.driven number less
          | inr over ↦
              injected.behind number over
              ∙ sym (option_map-still (own_driven cycle) (slice_get parts number)
              (λ part at. still-mute cycle part (mute number part at over below)))
        ];
        behind = λ number past. injected.behind number (omega (arith, past, further));
        links = injected.links;
        own = λ number wire part at below sends. elim (cases_lt number to) [
          | inl less ↦ injected.own number wire part at less sends
          | inr over ↦ absurd (cc (sym (mute number part at over below) ∙ sends))
        ];
        other = λ number wire part at rest.
            injected.other number wire part at (λ less. rest (omega (arith, less, further)));
        marked_active = MarksActive-same (λ number. (number < next) × IsSending cycle parts number)
            (λ number. (number < to) × IsSending cycle parts number) enqueuing now_enqueuing
            (λ number is. elim (cases_lt number to) [
              | inl less ↦ (less, is.1)
              | inr over ↦
                  let own = is.1 in
                  absurd (cc (sym (mute number own.0 own.1 over is.0) ∙ own.2))
            ]) injected.marked_active;
        few =
            (let before = injected.few in
            let more = sum_by-take-le (λ part. cond (sends_own cycle part) 1 0) (take next parts) to in
            let same = ap (count_by (sends_own cycle)) (take-take to next parts further) in
            omega (arith, before, more, same));
      }

  -- So those are up to the next marked one, where all that may send are marked.
  pub InjectedTo-passed : (injecting : Injecting) → AreInjecting now_parts injecting → (slot next : ℕ)
      → slot ≡ cycle % length injecting.slots → to ≤ next
      → ((number : ℕ) → to ≤ number → number < next
      → bit_of (marks_at injecting.slots slot) number ≡ 1 → ⊥)
      → InjectedTo cycle parts wires enqueuing steps next now_parts now_wires now_enqueuing
      now_steps
  InjectedTo-passed injecting are slot next is further none =
      let marks = marks_at injecting.slots slot in
      let senders : AreSendersMarked cycle now_parts marks =
      rw is (AreInjecting-sends cycle now_parts injecting are) in
      InjectedTo-until next further (λ number part at over below.
      elim (cases_Bool (sends_own cycle part)) [
        | inl sends ↦
            absurd (none number over below (senders number part (injected.behind number over ∙ at) sends))
        | inr rests ↦ rests
      ])

  -- The next is as it was.
  pub InjectedTo-next : (read : Part) → to < length parts
      → slice_get parts to ≡ Some (get_or now_parts to read)
  InjectedTo-next read within =
      let size = injected.size in
      sym (injected.behind to (omega arith))
      ∙ slice_get-get_or now_parts to read (omega (arith, within, size))

  -- One more sends, and drives it.
  pub InjectedTo-more : {part driven_part : Part} {new_wires : List (Option Flit)}
      {new_enqueuing : Enqueuing} {new_steps : ℕ} → IsWired (map wiring_of parts) (length wires)
      → slice_get parts to ≡ Some part → sends_own cycle part ≡ true
      → driven_part ≡ after_of part cycle
      → Drives (outputs_of part) (emit_of part cycle) now_wires new_wires
      → MarksActive (λ other. other ≡ to) now_enqueuing new_enqueuing → new_steps ≡ now_steps + 1
      → InjectedTo cycle parts wires enqueuing steps (to + 1) (slice_set now_parts to driven_part)
      new_wires new_enqueuing new_steps
  InjectedTo-more {part} {driven_part} {new_wires} {new_enqueuing} wired there sends is drives
      marks_active
      tick =
      let within = slice_get_within parts to part there in
      let size = injected.size in
      let links : (number wire : ℕ) (other : Part) → slice_get parts number ≡ Some other
      → outputs_of other wire ≡ true → wire < length now_wires =
      λ number wire other at own.
      let below = output-below parts (length wires) wired number other at wire own in
      let same = injected.links in
      omega (arith, below, same) in
      let apart : (number wire : ℕ) (other : Part) → slice_get parts number ≡ Some other
      → outputs_of other wire ≡ true → number ≢ to → flit_on new_wires wire ≡ flit_on now_wires wire =
      λ number wire other at own away.
      flit_on-other (outputs_of part) (emit_of part cycle) now_wires new_wires wire drives
      (links number wire other at own)
      (elim (cases_Bool (outputs_of part wire)) [
        | inl both ↦
            absurd (away (AreDisjoint-parts parts (length wires) wired number to wire other part at
            there own both))
        | inr none ↦ none
      ]) in
      let alike : (number : ℕ) (other : Part) → slice_get parts number ≡ Some other → number ≡ to
      → other ≡ part =
      λ number other at same. same_Some other part (sym at ∙ ap (slice_get parts) same ∙ there) in
      record {
        size = length-set now_parts to driven_part ∙ size;
        driven = λ number below. elim (cases_eq number to) [
          | inl same ↦
              ap (slice_get (slice_set now_parts to driven_part)) same
              ∙ slice_get-slice_set_same now_parts to driven_part (omega (arith, within, size))
              ∙ ap (λ (part : Part). Some part) (is ∙ after-sends cycle part sends)
              ∙ ap (option_map (own_driven cycle)) (sym (ap (slice_get parts) same ∙ there))
          | inr away ↦
              slice_get-slice_set_other now_parts to number driven_part away
              ∙ injected.driven number (omega (arith, below, away))
        ];
        behind = λ number past.
            slice_get-slice_set_other now_parts to number driven_part
            (λ same. omega (arith, same, past))
            ∙ injected.behind number (omega (arith, past));
        links = drives.links ∙ injected.links;
        own = λ number wire other at below is own. elim (cases_eq number to) [
          | inl same ↦
              let one = alike number other at same in
              flit_on-own (outputs_of part) (emit_of part cycle) now_wires new_wires wire drives
              (links number wire other at own)
              (ap (λ (part : Part). outputs_of part wire) (sym one) ∙ own)
              ∙ ap (λ (part : Part). emit_of part cycle wire) (sym one)
          | inr away ↦
              apart number wire other at own away
              ∙ injected.own number wire other at (omega (arith, below, away)) is own
        ];
        other = λ number wire other at rest own.
            apart number wire other at own (λ same.
            cc (sym (rest (omega (arith, same)))
            ∙ ap (sends_own cycle) (alike number other at same) ∙ sends))
            ∙ injected.other number wire other at (λ less. rest (omega (arith, less))) own;
        marked_active =
            MarksActive-more (λ number. (number < to + 1) × IsSending cycle parts number)
            (λ number. (number < to) × IsSending cycle parts number) to enqueuing now_enqueuing
            new_enqueuing
            injected.marked_active marks_active
            (λ number among. elim (cases_eq number to) [
              | inl same ↦ inr same
              | inr away ↦ let below = among.0 in inl (omega (arith, below, away), among.1)
            ]);
        few =
            (let before = injected.few in
            let one = count_by_more_yes (sends_own cycle) parts to part within
            (ap (sends_own cycle) (get_or_from_slice_get parts to part part there) ∙ sends) in
            omega (arith, before, one, tick));
      }

  -- Behind the last, all is done.
  module _ (all : length parts ≤ to) where
    mute : (number : ℕ) (part : Part) → slice_get parts number ≡ Some part → to ≤ number
        → sends_own cycle part ≡ false
    mute number part at over =
        let within = slice_get_within parts number part at in absurd (omega (arith, within, over, all))

    pub InjectedTo-parts : now_parts ≡ interfaces_driven cycle parts
    InjectedTo-parts = same_list now_parts (interfaces_driven cycle parts) (λ number.
        elim (cases_lt number to) [
          | inl less ↦ injected.driven number less
          | inr past ↦
              injected.behind number past
              ∙ sym (option_map-still (own_driven cycle) (slice_get parts number)
              (λ part at. still-mute cycle part (mute number part at past)))
        ] ∙ sym (slice_get-map (own_driven cycle) parts number))

    pub InjectedTo-wires : Injects cycle parts wires now_wires
    InjectedTo-wires = record {
      size = injected.links;
      own = λ number wire part at sends. elim (cases_lt number to) [
        | inl less ↦ injected.own number wire part at less sends
        | inr past ↦ absurd (cc (sym (mute number part at past) ∙ sends))
      ];
      other = λ number wire part at rest. injected.other number wire part at (λ less. rest);
    }

    pub InjectedTo-marked_active : MarksActive (IsSending cycle parts) enqueuing now_enqueuing
    InjectedTo-marked_active = MarksActive-same (IsSending cycle parts)
        (λ number. (number < to) × IsSending cycle parts number) enqueuing now_enqueuing
        (λ number own. elim (cases_lt number to) [
          | inl less ↦ (less, own)
          | inr past ↦ absurd (cc (sym (mute number own.0 own.1 past) ∙ own.2))
        ]) injected.marked_active
