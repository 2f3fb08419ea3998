use Rattle.std.proofs.Common.{◌≡◌, ◌∙◌, length, map, sym, ap, arith}
use Rattle.std.proofs.lemmas.List.FromFn.{map-range_with_len_more}
use Rattle.std.specs.List.{range_with_len}
use Rattle.aeth_group.specs.Members.{GroupsData}
use Rattle.aeth_group.proofs.MemberLemmas.{connections-groups_of, length-groups_of}
use Rattle.aeth_report.specs.Sessions.{sessions_of}
use Rattle.aeth_reconf.proofs.timeline.Timeline.of.Goals as goal

-- The groups have the application's use cases.
pub sessions_over-requires-clause-spans : goal.sessions_over-requires-clause-spans
sessions_over-requires-clause-spans c =
    c.requires.spans ∙ sym (length-groups_of c.args.app.now)
    ∙ ap (λ (groups : GroupsData). length groups.uses) (sym c.requires.groups)

pub sessions_over-requires-clause-known : goal.sessions_over-requires-clause-known
sessions_over-requires-clause-known c =
    rw (c.rows.ensures, c.requires.groups, length-groups_of c.args.app.now) c.requires.known

-- One more connection.
pub loop-c-preserved : goal.loop-c-preserved
loop-c-preserved c =
    let more = map-range_with_len_more
    (λ n. sessions_of c.args.groups.now c.args.spans.now n c.args.switches.now) 0 c.loop-c.c
    c.loop-c.c (omega arith) in
    rw (c.in_ok-push.ensures.items, c.loop-c.invariant, c.in_ok-list.ensures, c.rows.ensures)
    (sym more)

-- All connections.
pub returns : goal.returns
returns c =
    let count : c.args.groups.now.connections ≡ length c.args.app.now.connections =
    ap (λ (groups : GroupsData). groups.connections) c.requires.groups
    ∙ connections-groups_of c.args.app.now in
    let all : c.loop-c.c ≡ c.args.groups.now.connections = omega arith in
    c.loop-c.invariant
    ∙ ap (λ n. map (λ k. sessions_of c.args.groups.now c.args.spans.now k c.args.switches.now)
    (range_with_len 0 n)) all
