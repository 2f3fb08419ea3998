use Rattle.std.proofs.Common.{◌++◌, ◌∙◌, ℕ, List, ap, arith, sym}
use Rattle.aeth_audit.specs.declared.row.LinkRow.{LinkRow}
use Rattle.aeth_links.specs.{Carried.lines_of, Seen.rows_from}
use Rattle.aeth_links.proofs.SeenLemmas.{lines-end, lines-next, rows_from-all, rows_from-until}
use Rattle.aeth_links.proofs.text.push_rows.Goals as goal

-- No wire before the first one with a flit has a row.
pub rows-init : goal.rows-init
rows-init c =
    let next = c.next-link.ensures in
    let until = rows_from-until c.args.wires.now c.args.links c.args.cycle c.next-link.result 0
    c.next-link.result (omega arith) next.empty in
    record {
      lines = ap (λ (rows : List LinkRow). c.args.text.now.items ++ lines_of rows) (sym until);
      within = next.end;
    }

-- One line more is put behind the text.
pub rows-preserved : goal.rows-preserved
rows-preserved c =
    let wires = c.args.wires.now in
    let link = c.rows.link in
    let next = c.next-link-in-rows.ensures in
    let below = c.rows-test.true in
    record {
      lines = ap (λ (text : List ℕ). text
          ++ lines_of (rows_from wires c.args.links c.args.cycle c.next-link-in-rows.result))
          c.in_ok-push_flit.ensures
          ∙ lines-next wires c.args.links c.args.cycle c.rows.text.items link
          c.next-link-in-rows.result below next.from next.empty
          ∙ c.rows.invariant.lines;
      within = next.end;
    }

-- All lines stand behind the text.
pub returns : goal.returns
returns c =
    let wires = c.args.wires.now in
    let past = c.rows-test.false in
    sym (lines-end wires c.args.links c.args.cycle c.rows.text.items c.rows.link (omega arith))
    ∙ c.rows.invariant.lines
    ∙ ap (λ (rows : List LinkRow). c.args.text.now.items ++ lines_of rows)
    (rows_from-all wires c.args.links c.args.cycle)
