-- Laws of what an interface sends of its own: what it drives then, and what it leaves of itself.
use Rattle.std.proofs.Common.{ℕ, ◌≡◌, ◌<◌, ◌≤◌, ◌∙◌, refl, sym, ap, [], Bool, false, true, List}
use Rattle.std.proofs.Common.{length, map, None, Option, Some, slice_get, arith, inl, inr}
use Rattle.std.proofs.Common.{unwrap_or}
use Rattle.std.proofs.lemmas.Bool.{cases_Bool, cases_lt}
use Rattle.std.proofs.lemmas.Option.{get_or_from_slice_get, slice_get_within}
use Rattle.std.specs.Option.{option_map}
use Rattle.aeth_base.specs.Marks.{bit_of, marked_from}
use Rattle.aeth_clocked.specs.{Wires.Drives, Wires.flit_on, declared.flit.Flit.Flit}
use Rattle.aeth_ni.proofs.RestingLemmas.{RestsDrive-interface}
use Rattle.aeth_ni.specs.Component.{emitted_by, interface_after, queue_at_cycle}
use Rattle.aeth_ni.specs.Interface.{InterfaceState}
use Rattle.aeth_router.specs.Part.{after_of, emit_of, outputs_of}
use Rattle.aeth_router.specs.declared.part.Part.{Part}
use Rattle.aeth_router.specs.declared.part.Part.TheVariants.{Interface, Router, Stage, TableRouter}
use Rattle.aeth_components.specs.{Changes.on_interface, Ends.is_interface, First.HasSender}
use Rattle.aeth_components.specs.{Wirings.IsWired, Wirings.wiring_of, FlitsOnWires.AreSendersMarked}
use Rattle.aeth_components.specs.{FlitsOnWires.sends_own}
use Rattle.aeth_components.proofs.WiringLemmas.{AreLinks-outputs, none-unless}
use Rattle.aeth_components.proofs.MarkLemmas.{NextMarked, unmarked-behind}

-- A component once it has driven, where it is an interface.
abbrev pub own_driven : ℕ → Part → Part
own_driven cycle part = on_interface (λ ni. interface_after ni cycle) part

module _ (cycle : ℕ) where
  -- An interface that doesn't send emits nothing.
  pub emits-mute : (part : Part) → is_interface (wiring_of part) ≡ true
      → sends_own cycle part ≡ false
      → (wire : ℕ) → emit_of part cycle wire ≡ None
  emits-mute (Interface ni) is mute wire =
      none-unless (emitted_by (queue_at_cycle ni.entries cycle) ni.queues)
      (λ some. cc (sym some ∙ mute))
  emits-mute (Router router) is mute wire = absurd (cc is)
  emits-mute (TableRouter router) is mute wire = absurd (cc is)
  emits-mute (Stage stage) is mute wire = absurd (cc is)

  -- A component that doesn't send is then as it was.
  pub still-mute : (part : Part) → sends_own cycle part ≡ false → own_driven cycle part ≡ part
  still-mute (Interface ni) mute =
      let none = emits-mute (Interface ni) refl mute 0 in
      ap (λ (ni : InterfaceState). Interface ni)
      ((RestsDrive-interface ni [] cycle).0 (refl, none)).still
  still-mute (Router router) mute = refl
  still-mute (TableRouter router) mute = refl
  still-mute (Stage stage) mute = refl

  -- A component that sends is an interface, and is then as behind the drive.
  pub after-sends : (part : Part) → sends_own cycle part ≡ true
      → after_of part cycle ≡ own_driven cycle part
  after-sends (Interface ni) sends = refl
  after-sends (Router router) sends = absurd (cc sends)
  after-sends (TableRouter router) sends = absurd (cc sends)
  after-sends (Stage stage) sends = absurd (cc sends)

  -- No other component sends.
  pub mute-other : (part : Part) → is_interface (wiring_of part) ≡ false
      → sends_own cycle part ≡ false
  mute-other (Interface ni) is = absurd (cc is)
  mute-other (Router router) is = refl
  mute-other (TableRouter router) is = refl
  mute-other (Stage stage) is = refl

-- Where senders are marked, who isn't marked doesn't send.
module _ (cycle : ℕ) (parts : List Part) (marks : List ℕ)
    (senders : AreSendersMarked cycle parts marks) where
  pub mute-unmarked : (number : ℕ) (part : Part) → slice_get parts number ≡ Some part
      → bit_of marks number ≡ 0 → sends_own cycle part ≡ false
  mute-unmarked number part at none =
      elim (cases_Bool (sends_own cycle part)) [
        | inl is ↦ let one = senders number part at is in absurd (omega (arith, one, none))
        | inr mute ↦ mute
      ]

  -- So none sends from a number up to the next marked one, nor behind the last.
  pub mute-passed : {from next : ℕ} {rest : List ℕ} → NextMarked marks from next rest
      → (number : ℕ) (part : Part) → slice_get parts number ≡ Some part → from ≤ number
      → number < next → sends_own cycle part ≡ false
  mute-passed passing number part at over below =
      mute-unmarked number part at (passing.none number over below)

  pub mute-behind : {from : ℕ} → marked_from marks from ≡ [] → (number : ℕ) (part : Part)
      → slice_get parts number ≡ Some part → from ≤ number → sends_own cycle part ≡ false
  mute-behind {from} none number part at over =
      mute-unmarked number part at (unmarked-behind marks from none number over)

  -- Who sends is at the next marked number or behind it.
  pub sender-since : {from next : ℕ} {rest : List ℕ} → NextMarked marks from next rest
      → (sender : HasSender parts cycle) → from ≤ sender.number → next ≤ sender.number
  sender-since {from} {next} passing sender over = elim (cases_lt sender.number next) [
    | inl before ↦
        let mute = mute-passed passing sender.number sender.part sender.at over before in
        absurd (cc (sym mute ∙ sender.sends))
    | inr past ↦ past
  ]

-- A change that leaves what there is.
pub option_map-still : {X : Type 0} (change : X → X) (o : Option X)
    → ((x : X) → o ≡ Some x → change x ≡ x) → option_map change o ≡ o
option_map-still change None still = refl
option_map-still {X} change (Some x) still = ap (λ (y : X). Some y) (still x refl)

-- Of an output there is what was driven, and another wire is as it was.
pub flit_on-own : (outputs : ℕ → Bool) (flits : ℕ → Option Flit) (old new : List (Option Flit))
    (wire : ℕ) → Drives outputs flits old new → wire < length old → outputs wire ≡ true
    → flit_on new wire ≡ flits wire
flit_on-own outputs flits old new wire drives within is =
    let at : slice_get new wire ≡ Some (flits wire) = drives.at wire within ∙ rw is refl in
    ap (λ (flit : Option (Option Flit)). unwrap_or flit None) at

pub flit_on-other : (outputs : ℕ → Bool) (flits : ℕ → Option Flit) (old new : List (Option Flit))
    (wire : ℕ) → Drives outputs flits old new → wire < length old → outputs wire ≡ false
    → flit_on new wire ≡ flit_on old wire
flit_on-other outputs flits old new wire drives within is =
    let at : slice_get new wire ≡ slice_get old wire = drives.at wire within ∙ rw is refl in
    ap (λ (flit : Option (Option Flit)). unwrap_or flit None) at

-- An output of a component is a wire.
pub output-below : (parts : List Part) (count : ℕ) → IsWired (map wiring_of parts) count
    → (number : ℕ) (part : Part) → slice_get parts number ≡ Some part → (wire : ℕ)
    → outputs_of part wire ≡ true → wire < count
output-below parts count wired number part at wire is =
    AreLinks-outputs parts count wired number part (slice_get_within parts number part at) wire
    (ap (λ (part : Part). outputs_of part wire) (get_or_from_slice_get parts number part part at) ∙ is)
