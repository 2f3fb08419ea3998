use Rattle.std.proofs.Common.{◌≤◌, ◌∙◌, ℕ, ap, arith, length, sym}
use Rattle.std.proofs.lemmas.{Bool.Decides.nat_tests, List.length-map, Option.same_Some}
use Rattle.std.proofs.lemmas.{Option.slice_get_past}
use Rattle.std.specs.List.{slice_set}
use Rattle.aeth_base.specs.declared.ids.LinkId.{LinkId}
use Rattle.aeth_router.specs.Router.{numbers_of}
use Rattle.aeth_router.proofs.{LinkLemmas.is_among-at, Steps.numbers_of-got}
use Rattle.aeth_router.proofs.traffic.put_at.Goals as goal

-- The link of the port is a link.
pub put-requires : goal.put-requires
put-requires c =
    let link = c.in-Some.link.now in
    let lookup = c.in-Some.ensures.lookup in
    c.requires link.0 (is_among-at (numbers_of c.args.outgoing.now) c.args.port link.0
    (numbers_of-got c.args.outgoing.now c.args.port link lookup.3.0 lookup.1))

-- It is the one of the port.
pub returns-in-Some-clause-put : goal.returns-in-Some-clause-put
returns-in-Some-clause-put c =
    let there = c.in-Some.link.now in
    let lookup = c.in-Some.ensures.lookup in
    let at = numbers_of-got c.args.outgoing.now c.args.port there lookup.3.0 lookup.1 in
    λ link is.
    c.put.ensures
    ∙ ap (λ (n : ℕ). slice_set c.args.wires.now n c.args.flit) (same_Some there.0 link (sym at ∙ is))

pub returns-in-Some-clause-past : goal.returns-in-Some-clause-past
returns-in-Some-clause-past c =
    let there = c.in-Some.link.now in
    let lookup = c.in-Some.ensures.lookup in
    let at = numbers_of-got c.args.outgoing.now c.args.port there lookup.3.0 lookup.1 in
    λ none. absurd (cc (sym at ∙ none))

-- There is none.
pub returns-in_default-clause-put : goal.returns-in_default-clause-put
returns-in_default-clause-put c =
    let lookup = c.in_default.ensures.lookup in
    let past : length c.args.outgoing.now ≤ c.args.port = grind (arith, nat_tests) in
    let size = length-map c.args.outgoing.now (λ (link : LinkId). link.0) in
    let none = slice_get_past (numbers_of c.args.outgoing.now) c.args.port (omega arith) in
    λ link is. absurd (cc (sym none ∙ is))
