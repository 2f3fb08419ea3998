use Rattle.std.proofs.Common.{ap, map}
use Rattle.aeth_text.specs.Spelling.{link_word}
use Rattle.aeth_text.proofs.PrintLaws.{front_longer, item_step}
use Rattle.aeth_base.proofs.Lists.{drop-slice_get}
use Rattle.aeth_text.proofs.printing.push_links.Goals as goal

-- One link more is printed.
pub loop-i-preserved : goal.loop-i-preserved
loop-i-preserved c = record {
  printed = item_step c.loop-i.out.items c.push_item.new.out.items c.loop-i.first _ _ _
      c.in_ok-push_item.ensures.ok
      (rw (ap (map link_word)
      (drop-slice_get c.args.path.now c.loop-i.i c.link.result c.link.ensures))
      at c.loop-i.invariant.printed);
  front = front_longer c.args.out.now.items c.loop-i.out.items c.push_item.new.out.items _
      c.loop-i.invariant.front c.in_ok-push_item.ensures.ok;
}
