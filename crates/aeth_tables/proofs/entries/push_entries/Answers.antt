use Rattle.std.proofs.Common.{◌∙◌, ◌++◌, All, sym, ap, subst, arith}
use Rattle.aeth_text.specs.Spelling.{text_of_lines}
use Rattle.aeth_tables.specs.TableText.{HasTableOf, entries_with, list_at}
use Rattle.aeth_tables.proofs.{OwnRows.list-own, TextLaws.lines_more}
use Rattle.aeth_tables.proofs.entries.push_entries.Goals as goal

pub push_entries_at-requires-clause-rows : goal.push_entries_at-requires-clause-rows
push_entries_at-requires-clause-rows c =
    let lists = c.args.lists.now in
    let ni = c.loop-ni.ni in
    let own = list-own lists ni c.index-lists-ni.result c.deref.result.now
    (omega (arith, c.loop-ni-test.true, c.nis-ni-end.ensures.nis, c.requires.count))
    c.index-lists-ni.is c.deref.ensures.value in
    subst (λ xs. All (HasTableOf c.args.chip.now) xs) (sym own)
    (c.requires.rows ni (omega (arith, c.loop-ni-test.true, c.nis-ni-end.ensures.nis)))

-- One more interface.
pub loop-ni-preserved : goal.loop-ni-preserved
loop-ni-preserved c =
    let lists = c.args.lists.now in
    let ni = c.loop-ni.ni in
    let own = list-own lists ni c.index-lists-ni.result c.deref.result.now
    (omega (arith, c.loop-ni-test.true, c.nis-ni-end.ensures.nis, c.requires.count))
    c.index-lists-ni.is c.deref.ensures.value in
    lines_more (λ n. entries_with c.args.chip.now (list_at lists n) n) ni c.args.out.now.items
    c.loop-ni.out.items c.push_entries_at.new.out.items c.loop-ni.invariant
    (c.in_ok-push_entries_at.ensures ∙ ap (λ xs. c.loop-ni.out.items
    ++ text_of_lines (entries_with c.args.chip.now xs ni)) own)
