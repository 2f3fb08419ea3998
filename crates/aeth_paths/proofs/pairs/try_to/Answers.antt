use Rattle.std.proofs.Common.{◌∙◌, ◌+◌, ◌<◌, ℕ, All, List, take, ap, arith, sym, subst, sum_by}
use Rattle.std.proofs.Common.{take_all}
use Rattle.std.proofs.lemmas.List.Elements.{All-nil}
use Rattle.aeth_base.specs.declared.ids.NiId.{NiId}
use Rattle.aeth_paths.specs.{Open.allowed_steps, Open.each_once, Pairs.IsOffered, Pairs.OfferedTo}
use Rattle.aeth_paths.specs.{Pairs.Tries, Walk.costs_of, Walk.path_in}
use Rattle.aeth_paths.proofs.OnceLemmas.{below_more, stands-Contains, sum-new, sum-old}
use Rattle.aeth_paths.proofs.TryLemmas.{tries-again, tries-more, tries-no}
use Rattle.aeth_paths.proofs.pairs.try_to.Goals.{then-not-holds_below, else-not-holds_below}
use Rattle.aeth_paths.proofs.pairs.try_to.Goals as goal

-- No receiver was tried.
pub loop-i-init : goal.loop-i-init
loop-i-init g c =
    let task = c.args.task.now in
    record {
      best = c.requires.best;
      tries = tries-no
          (IsOffered task.book.now task.ask c.args.crowded.now c.args.a)
          (costs_of task) (path_in c.args.best);
      below = All-nil (λ (n : NiId). n.0 < 0);
      steps = omega arith;
    }

-- One more was, or was one before.
pub loop-i-preserved : goal.loop-i-preserved
loop-i-preserved g c =
    let task = c.args.task.now in
    let crowded = c.args.crowded.now in
    let i = c.loop-i.i in
    let xs : List NiId = c.args.to.now in
    let d : NiId = record { 0 = 0 } in
    let best = path_in c.loop-i.best in
    let many : NiId → ℕ =
    allowed_steps task.chip.now task.book.now task.prices.now task.ask crowded c.args.a in
    let less : All (λ (n : NiId). n.0 < c.max-below.result) (take (i + 1) xs) =
    below_more xs i d c.loop-i.below c.max-below.result c.loop-i-test.true c.loop-i.invariant.below
    (omega (arith, c.max-below.ensures)) (omega (arith, c.max-below.ensures)) in
    elim c.if-not-holds_below.branch [
      | then-not-holds_below w ↦ record {
        best = rw w.best-is w.try_pair-best.ensures.best;
        tries = rw w.best-is (tries-more
            (IsOffered task.book.now task.ask c.args.crowded.now c.args.a)
            (costs_of task) (path_in c.args.best) best (path_in w.try_pair-best.result) xs i d
            c.loop-i-test.true c.loop-i.invariant.tries w.try_pair-best.ensures.tries);
        below = less;
        steps = omega (
          arith,
          w.steps-is,
          sum-new many xs i d c.loop-i-test.true (sym c.holds_below.ensures ∙ w.if-not-holds_below.true),
          c.loop-i.invariant.steps,
          w.try_pair-best.ensures.steps,
        );
      }
      | else-not-holds_below w ↦
          let again = sym c.holds_below.ensures ∙ w.if-not-holds_below.false in
          record {
            best = rw w.best-is c.loop-i.invariant.best;
            tries = rw w.best-is (tries-again
                (IsOffered task.book.now task.ask c.args.crowded.now c.args.a)
                (costs_of task) (path_in c.args.best) best xs i d c.loop-i-test.true
                (stands-Contains _ _ again) c.loop-i.invariant.tries);
            below = less;
            steps = omega (
              arith,
              w.steps-is,
              sum-old many xs i d c.loop-i-test.true again,
              c.loop-i.invariant.steps,
            );
          }
    ]

-- All were.
pub returns-clause-tries : goal.returns-clause-tries
returns-clause-tries g c =
    let task = c.args.task.now in
    let crowded = c.args.crowded.now in
    subst (λ (ns : List NiId). Tries (costs_of task) (path_in c.args.best) (path_in c.loop-i.best)
    (OfferedTo task.book.now task.ask crowded c.args.a ns))
    (take_all c.loop-i.i c.args.to.now c.loop-i-test.false) c.loop-i.invariant.tries

pub returns-clause-steps : goal.returns-clause-steps
returns-clause-steps g c =
    let task = c.args.task.now in
    let crowded = c.args.crowded.now in
    let many : NiId → ℕ =
    allowed_steps task.chip.now task.book.now task.prices.now task.ask crowded c.args.a in
    let all = ap (λ (ns : List NiId). sum_by many (each_once ns))
    (take_all c.loop-i.i c.args.to.now c.loop-i-test.false) in
    omega (arith, all, c.loop-i.invariant.steps)
