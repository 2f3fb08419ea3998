use Rattle.std.proofs.Common.{◌+◌, ◌∙◌, sym, ap, arith}
use Rattle.aeth_chip.proofs.OffsetLemmas.{offset_step}
use Rattle.aeth_slots.specs.SlotSet.{rotated}
use Rattle.aeth_check.proofs.TakenLaws.{taken-more}
use Rattle.aeth_check.proofs.masks.take.Goals as goal

-- One more link.
pub loop-i-preserved : goal.loop-i-preserved
loop-i-preserved c = record {
  sum = ap (λ n. n + c.link-offset.result.delay) c.loop-i.invariant.sum
      ∙ sym (offset_step c.args.chip.now.links c.args.grant.now.path c.loop-i.i c.link-link.result
      c.link-offset.result c.link-link.ensures c.link-offset.ensures.link);
  few = omega (arith, c.loop-i.invariant.few, c.link-offset.ensures.delay.1);
  taken = taken-more c.args.chip.now.links c.args.grant.now c.loop-i.sets c.loop-i.i
      c.rotate.result (omega (arith, c.loop-i-test.true))
      (c.rotate.ensures ∙ ap (λ n. rotated n c.args.grant.now.slots) c.loop-i.invariant.sum)
      c.loop-i.invariant.taken;
}
