use Rattle.std.proofs.Common.{◌∙◌, ◌++◌, All, sym, ap, subst, arith}
use Rattle.aeth_text.specs.Spelling.{text_of_lines}
use Rattle.aeth_tables.specs.TableText.{NamesConnection, queues_with, list_at}
use Rattle.aeth_tables.proofs.{OwnRows.list-own, TextLaws.lines_more}
use Rattle.aeth_tables.proofs.queues.push_queues.Goals as goal

pub push_queues_at-requires-clause-rows : goal.push_queues_at-requires-clause-rows
push_queues_at-requires-clause-rows c =
    let lists = c.args.lists.now in
    let ni = c.loop-ni.ni in
    let own = list-own lists ni c.index-lists-ni.result c.deref.result.now
    (omega (arith, c.loop-ni-test.true, c.nis-ni-end.ensures.nis, c.requires.count))
    c.index-lists-ni.is c.deref.ensures.value in
    subst (λ xs. All (NamesConnection c.args.app.now) xs) (sym own)
    (c.requires.rows ni (omega (arith, c.loop-ni-test.true, c.nis-ni-end.ensures.nis)))

-- One more interface.
pub loop-ni-preserved : goal.loop-ni-preserved
loop-ni-preserved c =
    let lists = c.args.lists.now in
    let ni = c.loop-ni.ni in
    let own = list-own lists ni c.index-lists-ni.result c.deref.result.now
    (omega (arith, c.loop-ni-test.true, c.nis-ni-end.ensures.nis, c.requires.count))
    c.index-lists-ni.is c.deref.ensures.value in
    lines_more (λ n. queues_with c.args.chip.now c.args.app.now (list_at lists n) n) ni c.args.out.now.items
    c.loop-ni.out.items c.push_queues_at.new.out.items c.loop-ni.invariant
    (c.in_ok-push_queues_at.ensures ∙ ap (λ xs. c.loop-ni.out.items
    ++ text_of_lines (queues_with c.args.chip.now c.args.app.now xs ni)) own)
