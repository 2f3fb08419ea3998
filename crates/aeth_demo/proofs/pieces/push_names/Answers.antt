use Rattle.std.proofs.Common.{arith}
use Rattle.aeth_demo.specs.Pieces.{name_at}
use Rattle.aeth_demo.proofs.Loops.{text-begin, text-end, text-more}
use Rattle.aeth_demo.proofs.pieces.push_names.Goals as goal

-- No text is there.
pub loop-place-init : goal.loop-place-init
loop-place-init c =
    text-begin (name_at c.args.letter.now c.args.first) c.args.text.now.items c.args.count

-- One text more is there.
pub loop-place-preserved : goal.loop-place-preserved
loop-place-preserved c =
    let below = c.loop-place-test.true in
    text-more (name_at c.args.letter.now c.args.first) _ _ _ c.args.count c.loop-place.place
    (omega arith) c.loop-place.invariant c.in_ok-push_name.ensures

-- All of them are there.
pub returns : goal.returns
returns c =
    let past = c.loop-place-test.false in
    text-end (name_at c.args.letter.now c.args.first) _ _ c.args.count c.loop-place.place
    (omega arith) c.loop-place.invariant
