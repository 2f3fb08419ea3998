use Rattle.std.proofs.Common.{◌∙◌, ◌∷◌, [], append_assoc, map}
use Rattle.toml.specs.View.{table_view}
use Rattle.aeth_document.{specs.Arrays.tables_in, proofs.WalkLemmas.walked-append}
use Rattle.aeth_chip.specs.ChipFile.{unknown_end}
use Rattle.aeth_chip.proofs.links.links_of.Goals as goal

-- The delay of the first table that is left.
pub told_link-unknown-requires-clause-delay : goal.told_link-unknown-requires-clause-delay
told_link-unknown-requires-clause-delay c =
    let before = rw c.in-Some.ensures.steps at c.loop-table.invariant in
    before.delays.0

pub told_link-unknown-requires-clause-none : goal.told_link-unknown-requires-clause-none
told_link-unknown-requires-clause-none c = λ no_delays.
    let before = rw c.in-Some.ensures.steps at c.loop-table.invariant in
    (before.none no_delays).0

-- One more table.
pub loop-table-preserved : goal.loop-table-preserved
loop-table-preserved c =
    let before = rw c.in-Some.ensures.steps at c.loop-table.invariant in
    let shown = unknown_end c.args.names.now.routers c.args.names.now.nis in
    record {
      links = rw (c.in_ok-push.ensures.items, append_assoc, c.told_link-unknown.ensures.link)
          before.links;
      unknown = rw (c.check-walk.ensures, c.told_link-unknown.ensures.unknown)
          (walked-append c.loop-table.walk (shown (table_view c.in-Some.table.now) ∷ [])
          (map shown (tables_in c.next.new.self)) ∙ before.unknown);
      ends = c.told_link-unknown.ensures.ends;
      delays = before.delays.1;
      none = λ no_delays. (before.none no_delays).1;
    }
