use Rattle.std.proofs.Common.{◌∙◌, ap, map, refl, subst, replicate, sym, ℕ, List}
use Rattle.aeth_router.specs.{Onward.Nothing, declared.part.Part.Part}
use Rattle.aeth_components.proofs.{FirstLemmas.AreReady-new, KindLemmas.tables-kind}
use Rattle.aeth_components.proofs.{TableLemmas.AreInjecting-new, turns.Turns.new.Goals.in-ByTable}
use Rattle.aeth_components.proofs.{turns.Turns.new.Goals.in_default}
use Rattle.aeth_components.specs.{Injecting.HasPlaces, Passing.AreForwarded, Passing.way_of}
use Rattle.aeth_components.proofs.turns.Turns.new.Goals as goal

-- The components are ready.
pub returns-clause-ready : goal.returns-clause-ready
returns-clause-ready c = λ rooms made.
    AreReady-new c.args.chip.now c.slots-slots.ensures.chip c.args.kind rooms _ c.in_ok-ends.ensures refl
    (c.in_ok-new.ensures ∙ ap (λ (n : ℕ). replicate n Nothing) c.wires.ensures.wires)
    (subst (λ (parts : List Part). AreForwarded (map way_of parts) c.in_ok-forwarding.forwarding.items)
    made c.in_ok-forwarding.ensures)
    (elim c.match-matches.branch [
      | in-ByTable w ↦ λ none. absurd (cc (sym w.matches-is ∙ none))
      | in_default w ↦ λ none. w.in_default.is
    ])

-- No table has an entry.
pub returns-clause-injecting : goal.returns-clause-injecting
returns-clause-injecting c = λ rooms.
    AreInjecting-new c.args.chip.now rooms c.slots-slots.ensures.chip _
    (tables-kind c.args.chip.now c.args.kind rooms) c.in_ok-injecting.injecting
    (c.in_ok-injecting.ensures.size ∙ c.slots-slots.ensures.slots)
    (subst (λ n. HasPlaces n c.in_ok-injecting.injecting)
    c.in_ok-ends.ensures.parts c.in_ok-injecting.ensures.places)
    c.in_ok-injecting.ensures.unmarked
