use Rattle.std.proofs.Common.{◌≡◌, ◌==◌, ◌∙◌, ap, arith, false, sym, true}
use Rattle.std.proofs.lemmas.Bool.Decides.{nat_tests}
use Rattle.aeth_network.proofs.Passed.{behind-last, behind-other, passed-inside, passed-more}
use Rattle.aeth_network.proofs.places.behind.Goals as goal

-- At the first row of the cycle.
pub rows-init : goal.rows-init
rows-init g c =
    let begin = c.requires.from in
    let more = passed-more g.T.InCycle.cycle c.args.time c.args.rows.now in
    record { least = omega arith; most = omega arith }

-- One row of the cycle more.
pub rows-preserved : goal.rows-preserved
rows-preserved g c =
    let key = g.T.InCycle.cycle in
    let item = c.index-rows-place.result in
    let least = c.rows.invariant.least in
    let same : (key item == c.args.time) ≡ true = sym c.is_in.ensures ∙ c.if-is_in.true in
    let now : key item ≡ c.args.time = grind (arith, nat_tests) in
    record {
      least = omega arith;
      most = passed-inside key c.args.time c.args.rows.now c.rows.place item c.requires.order
          c.rows-test.true (ap key (sym c.index-rows-place.is) ∙ now);
    }

-- The row at the place is of a later cycle.
pub returns-else-is_in : goal.returns-else-is_in
returns-else-is_in g c =
    let key = g.T.InCycle.cycle in
    let item = c.index-rows-place.result in
    let same : (key item == c.args.time) ≡ false = sym c.is_in.ensures ∙ c.if-is_in.false in
    behind-other key c.args.time c.args.rows.now c.args.from c.rows.place c.requires.order
    c.requires.from c.rows.invariant.least c.rows.invariant.most item c.rows-test.true
    (λ at.
    let now : key item ≡ c.args.time = ap key c.index-rows-place.is ∙ at in
    grind (arith, nat_tests))

-- No row is left.
pub returns-after-rows : goal.returns-after-rows
returns-after-rows g c =
    behind-last g.T.InCycle.cycle c.args.time c.args.rows.now c.args.from c.rows.place
    c.requires.order
    c.requires.from c.rows.invariant.least c.rows.invariant.most c.rows-test.false
