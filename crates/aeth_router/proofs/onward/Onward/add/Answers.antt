use Rattle.std.proofs.Common.{◌<◌, ◌∙◌, Option, List, arith, length, subst, sym}
use Rattle.aeth_clocked.specs.declared.flit.Flit.{Flit}
use Rattle.aeth_router.specs.Onward.{AreContended}
use Rattle.aeth_router.proofs.OnwardLemmas.{arrivals_of-mark, arrivals_of-put, within-first}
use Rattle.aeth_router.proofs.ContendedLemmas.{AreContended-mark, AreContended-put, empty-alone}
use Rattle.aeth_router.proofs.onward.Onward.add.Goals.{After-is_empty}
use Rattle.aeth_router.proofs.onward.Onward.add.Goals as goal

-- The wire is one of those that are noted.
pub is_empty-requires : goal.is_empty-requires
is_empty-requires c =
    within-first c.self.inside.first c.self.inside.contended c.args.self.now c.args.wire.0 c.self.view_is
    c.requires

within : (c : After-is_empty) → c.args.wire.0 < length c.self.inside.first
within c =
    within-first c.self.inside.first c.self.inside.contended c.args.self.now c.args.wire.0 c.self.view_is
    c.requires

-- So it is where the flit is put.
pub put-requires : goal.put-requires
put-requires c = within (goal.at.put-requires c).After-is_empty

-- There is a mark for it.
pub mark-requires : goal.mark-requires
mark-requires c =
    let first = within (goal.at.mark-requires c).After-is_empty in
    let room = c.self.invariant.room in
    omega (arith, first, room)

-- Its first flit is noted.
pub invariant_of-self : goal.invariant_of-self
invariant_of-self c =
    subst (λ (wires : List (Option Flit)).
    AreContended c.self.inside.is_contended wires c.self.inside.contended) (sym c.put.ensures)
    (AreContended-put c.self.inside.is_contended c.self.inside.first c.self.inside.contended
    c.args.wire.0 c.args.flit (within (goal.at.invariant_of-self c).After-is_empty)
    c.self.invariant)

-- That there is another is noted.
pub invariant_of-self-else-is_empty : goal.invariant_of-self-else-is_empty
invariant_of-self-else-is_empty c =
    AreContended-mark c.self.inside.is_contended c.self.inside.first c.self.inside.contended
    c.mark.new.self c.args.wire.0 (λ none. absurd (cc (sym c.if-is_empty.false
    ∙ c.is_empty.ensures.1 none))) c.mark.ensures.room c.mark.ensures.away c.self.invariant

-- One flit has come.
pub returns-then-is_empty : goal.returns-then-is_empty
returns-then-is_empty c =
    let first = c.self.inside.first in
    let marks = c.self.inside.contended in
    let wire = c.args.wire.0 in
    let empty = c.is_empty.ensures.0 c.if-is_empty.true in
    rw (c.put.ensures, ← c.self.view_is) (arrivals_of-put first marks wire c.args.flit
    (within (goal.at.returns-then-is_empty c).After-is_empty) empty
    (empty-alone c.self.inside.is_contended first marks wire c.self.invariant empty))

-- Several have.
pub returns-else-is_empty : goal.returns-else-is_empty
returns-else-is_empty c =
    rw (← c.self.view_is) (arrivals_of-mark c.self.inside.first c.self.inside.contended
    c.mark.new.self c.args.wire.0 c.args.flit
    (within (goal.at.returns-else-is_empty c).After-is_empty)
    (λ none. absurd (cc (sym c.if-is_empty.false ∙ c.is_empty.ensures.1 none)))
    c.mark.ensures.here c.mark.ensures.away)
