use Rattle.std.proofs.Common.{◌≡◌, ◌<◌, ◌==◌, ◌++◌, ◌∙◌, ap, arith, drop, refl, sym, Bool, List}
use Rattle.std.proofs.Common.{None, Some, ℕ, false, if◌then◌else◌, length, length-set, map, set}
use Rattle.std.proofs.Common.{slice_get, subst, take, slice_index}
use Rattle.std.proofs.lemmas.{Bool.or_parts, List.length-map, List.map-set, List.Elements.All-set}
use Rattle.std.proofs.lemmas.{Option.slice_get_within}
use Rattle.aeth_base.proofs.Lists.{slice_get-slice_set_other, slice_get-slice_set_same}
use Rattle.aeth_base.proofs.Lists.{written_back}
use Rattle.aeth_clocked.specs.Wires.{flit_on}
use Rattle.aeth_router.specs.declared.part.Part.{Part}
use Rattle.aeth_router.specs.declared.part.Part.TheVariants.{Interface, Router, Stage, TableRouter}
use Rattle.aeth_components.proofs.{components.Components.put.Goals.After-lose}
use Rattle.aeth_components.proofs.{components.Components.put.Goals.After-note_forwarding}
use Rattle.aeth_components.proofs.{components.Components.put.Goals.After-set}
use Rattle.aeth_components.proofs.{CycleLemmas.IsComponents-replaced, CycleLemmas.views-slice_set}
use Rattle.aeth_components.proofs.{ReplacedLemmas.all_seen-replaced, ReplacedLemmas.receives-there}
use Rattle.aeth_components.proofs.{ReplacedLemmas.without_held-is, RoomLemmas.IsFull-replaced}
use Rattle.aeth_components.proofs.{SeenLemmas.wirings-seen, TableLemmas.may_send-replaced}
use Rattle.aeth_components.proofs.{TableLemmas.tables-replaced, WaitingLemmas.AreEnqueuing-kept}
use Rattle.aeth_components.proofs.{MarkedActiveLemmas.AreInjecting-kept}
use Rattle.aeth_components.specs.{Changes.told_by, Components.components_of, Components.wirings_of}
use Rattle.aeth_components.specs.{Ends.AreEnds, Ends.is_interface, Wirings.Wiring, Wirings.IsWired}
use Rattle.aeth_components.specs.{Wirings.wiring_of, Enqueuing.room_left, Passing.AreForwarded}
use Rattle.aeth_components.specs.{Passing.way_of, Replacing.without_held}
use Rattle.aeth_components.specs.{declared.turns.Turns.Turns}
use Rattle.aeth_components.proofs.components.Components.put.Goals as goal

-- A component that is no interface has no room.
room-other : (part : Part) → is_interface (wiring_of part) ≡ false
    → (queue : ℕ) → told_by queue room_left part ≡ 0
room-other (Interface ni) other queue = absurd (cc other)
room-other (Router router) other queue = refl
room-other (TableRouter router) other queue = refl
room-other (Stage stage) other queue = refl

-- It has the wires of the one in whose place it comes.
wired_for : (c : After-lose) → slice_get (map wiring_of c.self.inside.parts.items) c.args.place
    ≡ Some (wiring_of c.args.part)
wired_for c =
    let all = c.self.inside in
    ap (λ (wirings : List Wiring). slice_get wirings c.args.place)
    (sym (wirings-seen all.wires all.parts.items) ∙ ap wirings_of c.self.view_is)
    ∙ c.requires.links

there : (c : After-lose) → c.args.place < length c.self.inside.parts.items
there c =
    let all = c.self.inside in
    let within =
    slice_get_within (map wiring_of all.parts.items) c.args.place (wiring_of c.args.part)
    (wired_for c) in
    let size = length-map all.parts.items wiring_of in
    omega (arith, within, size)

-- So with it all have the wirings that they had.
abbrev now : After-lose → List Part
now c = set c.self.inside.parts.items c.args.place c.args.part

wirings : (c : After-lose) → map wiring_of (now c) ≡ map wiring_of c.self.inside.parts.items
wirings c = views-slice_set wiring_of c.self.inside.parts.items c.args.place c.args.part
    (wired_for c)

wired : (c : After-lose) → IsWired (map wiring_of (now c)) (length c.self.inside.wires)
wired c =
    subst (λ (wirings : List Wiring). IsWired wirings (length c.self.inside.wires))
    (sym (wirings c))
    c.self.invariant.0.wired

ends : (c : After-lose)
    → AreEnds (map wiring_of (now c)) (length c.self.inside.wires) c.self.inside.turns.ends
ends c =
    subst (λ (wirings : List Wiring).
    AreEnds wirings (length c.self.inside.wires) c.self.inside.turns.ends) (sym (wirings c))
    c.self.invariant.1.ends

at : (c : After-lose) → slice_get (now c) c.args.place ≡ Some c.args.part
at c = slice_get-slice_set_same c.self.inside.parts.items c.args.place c.args.part (there c)

-- The wires have lost what goes to the component, and are as many.
lost : (c : After-lose) → c.lose.new.wires ≡ without_held c.args.part c.self.inside.wires
lost c =
    let wires = c.self.inside.wires in
    let part = c.args.part in
    without_held-is part wires c.lose.new.wires c.lose.ensures.size
    (λ wire within.
    c.lose.ensures.at wire within
    ∙ ap (λ (own : Bool). Some (if own then None else flit_on wires wire))
    (ap (λ (list : List ℕ). slice_index list wire == c.args.place) c.deref.ensures.value
    ∙ receives-there (now c) wires c.self.inside.turns.ends c.args.place part (wired c) (ends c) (at c)
    wire within))

-- How it sends flits on is noted.
pub note_forwarding-requires : goal.note_forwarding-requires
note_forwarding-requires c =
    let size = c.self.invariant.1.noted.size ∙ length-map c.self.inside.parts.items way_of in
    rw (c.deref_mut.ensures.value, size) (there ((goal.at.note_forwarding-requires c).After-lose))

noted : (c : After-note_forwarding)
    → AreForwarded (map way_of (set c.self.inside.parts.items c.args.place c.args.part))
    (take c.self.inside.turns.forwarding.len (c.note_forwarding.new.noted
    ++ drop (length c.note_forwarding.new.noted) c.self.inside.turns.forwarding.items))
noted c =
    let list = c.self.inside.turns.forwarding in
    rw (written_back list.items c.note_forwarding.new.noted list.len list.ok.0
    (c.note_forwarding.auto.noted ∙ ap length c.deref_mut.ensures.value))
    (c.note_forwarding.ensures c.self.inside.parts.items
    (rw c.deref_mut.ensures.value c.self.invariant.1.noted))

-- The component stands at its place.
pub set-requires : goal.set-requires
set-requires c = rw c.deref_mut-2.ensures.value (there ((goal.at.set-requires c).After-lose))

written : (c : After-set) → take c.self.inside.parts.len (c.set.new.parts
    ++ drop (length c.set.new.parts) c.self.inside.parts.items)
    ≡ set c.self.inside.parts.items c.args.place c.args.part
written c =
    written_back c.self.inside.parts.items c.set.new.parts c.self.inside.parts.len
    c.self.inside.parts.ok.0 (c.set.auto.parts ∙ ap length c.deref_mut-2.ensures.value)
    ∙ c.set.ensures
    ∙ ap (λ (parts : List Part). set parts c.args.place c.args.part) c.deref_mut-2.ensures.value

pub pass_on-requires-clause-wired : goal.pass_on-requires-clause-wired
pass_on-requires-clause-wired c =
    let lose = (goal.at.pass_on-requires-clause-wired c).After-lose in
    let set = (goal.at.pass_on-requires-clause-wired c).After-set in
    rw (c.deref-2.ensures.value, written set, c.lose.ensures.size) (wired lose)

pub pass_on-requires-clause-ends : goal.pass_on-requires-clause-ends
pass_on-requires-clause-ends c =
    let lose = (goal.at.pass_on-requires-clause-ends c).After-lose in
    let set = (goal.at.pass_on-requires-clause-ends c).After-set in
    rw (c.deref-2.ensures.value, written set, c.lose.ensures.size) (ends lose)

-- What holds of components still holds.
pub invariant_of-self : goal.invariant_of-self
invariant_of-self c =
    let all = c.self.inside in
    let parts = all.parts.items in
    let part = c.args.part in
    let place = c.args.place in
    let lose = (goal.at.invariant_of-self c).After-lose in
    let put = (goal.at.invariant_of-self c).After-set in
    let ready = c.self.invariant.1 in
    let size = c.lose.ensures.size in
    let before =
    IsComponents-replaced place part (components_of parts all.wires all.channels.channel_states
    all.channels.words all.counts.landings.items all.counts.flits.items) (wired_for lose)
    c.self.invariant.0 in
    rw (written put) (
      record {
        wired = rw size before.wired;
        channel_states = before.channel_states;
        landings = before.landings;
        flits = rw size before.flits;
        few = before.few;
      },
      record {
        ends = rw (c.pass_on.ensures.turns, size) (ends lose);
        noted = rw c.pass_on.ensures.turns (noted ((goal.at.invariant_of-self c).After-note_forwarding));
        flits = ap (λ (turns : Turns). turns.flits) c.pass_on.ensures.turns;
        size = c.pass_on.ensures.size;
        forwarded = (
            let passed = c.pass_on.ensures.forwarded in
            rw (c.pass_on.ensures.turns, ← written put, ← c.deref-2.ensures.value) passed);
        tables = λ none.
            let is = ap (λ (turns : Turns). turns.has_tables) c.pass_on.ensures.turns in
            let both = or_parts c.has_table.result all.turns.has_tables (sym is ∙ none) in
            rw (map-set way_of parts place part)
            (All-set (λ way. way.by_table ≡ false) (map way_of parts) place (way_of part)
            (sym c.has_table.ensures ∙ both.0) (ready.tables both.1));
      },
      rw c.pass_on.ensures.turns (AreInjecting-kept parts (set parts place part) all.turns.injecting
          c.self.invariant.2 (tables-replaced parts place part c.requires.kind (wired_for lose))
          (may_send-replaced parts place part c.requires.kind)),
      AreEnqueuing-kept parts (set parts place part) all.channels.channel_states all.enqueuing
          (λ end. IsFull-replaced place part (room-other part c.requires.kind) parts end.ni.0 end.queue)
          c.self.invariant.3,
    )

-- No other component is another than it was.
pub returns : goal.returns
returns c =
    let all = c.self.inside in
    let parts = all.parts.items in
    let lose = (goal.at.returns c).After-lose in
    let put = (goal.at.returns c).After-set in
    rw (
      written put,
      lost lose,
      ← c.self.view_is,
      all_seen-replaced (now lose) all.wires all.turns.ends c.args.place c.args.part (wired lose)
          (ends lose) (at lose) parts
          (λ i apart. slice_get-slice_set_other parts c.args.place i c.args.part apart)
          (length-set parts c.args.place c.args.part),
    ) refl
