use Rattle.std.proofs.Common.{◌∙◌, ◌+◌, ◌<◌, ℕ, All, List, take, None, refl, ap, arith, sym, subst}
use Rattle.std.proofs.Common.{sum_by, take_all}
use Rattle.std.proofs.lemmas.List.Elements.{All-nil}
use Rattle.aeth_base.specs.declared.ids.NiId.{NiId}
use Rattle.aeth_paths.specs.{Open.allowed_steps, Open.each_once, Pairs.OfferedFrom, Pairs.OfferedTo}
use Rattle.aeth_paths.specs.{Pairs.Tries, Walk.costs_of, Walk.path_in}
use Rattle.aeth_paths.proofs.OnceLemmas.{below_more, stands-Contains, sum-new, sum-old}
use Rattle.aeth_paths.proofs.TryLemmas.{tries-again, tries-more, tries-no}
use Rattle.aeth_paths.proofs.pairs.try_senders.Goals.{then-not-holds_below, else-not-holds_below}
use Rattle.aeth_paths.proofs.pairs.try_senders.Goals as goal

-- No sender was tried.
pub loop-i-init : goal.loop-i-init
loop-i-init g c =
    let task = c.args.task.now in
    record {
      best = refl;
      tries = tries-no
          (λ (a : NiId). OfferedTo task.book.now task.ask c.args.crowded.now a c.args.to.now)
          (costs_of task) None;
      below = All-nil (λ (n : NiId). n.0 < 0);
      steps = omega arith;
    }

-- One more was, or was one before.
pub loop-i-preserved : goal.loop-i-preserved
loop-i-preserved g c =
    let task = c.args.task.now in
    let crowded = c.args.crowded.now in
    let i = c.loop-i.i in
    let xs : List NiId = c.args.from.now in
    let d : NiId = record { 0 = 0 } in
    let best = path_in c.loop-i.best in
    let many : NiId → ℕ =
    λ a. sum_by (allowed_steps task.chip.now task.book.now task.prices.now task.ask crowded a)
    (each_once c.args.to.now) in
    let less : All (λ (n : NiId). n.0 < c.max-below.result) (take (i + 1) xs) =
    below_more xs i d c.loop-i.below c.max-below.result c.loop-i-test.true c.loop-i.invariant.below
    (omega (arith, c.max-below.ensures)) (omega (arith, c.max-below.ensures)) in
    elim c.if-not-holds_below.branch [
      | then-not-holds_below w ↦ record {
        best = rw w.best-is w.try_to-best.ensures.best;
        tries = rw w.best-is (tries-more
            (λ (a : NiId). OfferedTo task.book.now task.ask c.args.crowded.now a c.args.to.now)
            (costs_of task) None best (path_in w.try_to-best.result) xs i d
            c.loop-i-test.true c.loop-i.invariant.tries w.try_to-best.ensures.tries);
        below = less;
        steps = omega (
          arith,
          w.steps-is,
          sum-new many xs i d c.loop-i-test.true (sym c.holds_below.ensures ∙ w.if-not-holds_below.true),
          c.loop-i.invariant.steps,
          w.try_to-best.ensures.steps,
        );
      }
      | else-not-holds_below w ↦
          let again = sym c.holds_below.ensures ∙ w.if-not-holds_below.false in
          record {
            best = rw w.best-is c.loop-i.invariant.best;
            tries = rw w.best-is (tries-again
                (λ (a : NiId). OfferedTo task.book.now task.ask c.args.crowded.now a c.args.to.now)
                (costs_of task) None best xs i d c.loop-i-test.true
                (stands-Contains _ _ again) c.loop-i.invariant.tries);
            below = less;
            steps = omega (
              arith,
              w.steps-is,
              sum-old many xs i d c.loop-i-test.true again,
              c.loop-i.invariant.steps,
            );
          }
    ]

-- All were.
pub returns-clause-tries : goal.returns-clause-tries
returns-clause-tries g c =
    let task = c.args.task.now in
    let crowded = c.args.crowded.now in
    subst (λ (ns : List NiId). Tries (costs_of task) None (path_in c.loop-i.best)
    (OfferedFrom task.book.now task.ask crowded ns c.args.to.now))
    (take_all c.loop-i.i c.args.from.now c.loop-i-test.false) c.loop-i.invariant.tries

pub returns-clause-steps : goal.returns-clause-steps
returns-clause-steps g c =
    let task = c.args.task.now in
    let crowded = c.args.crowded.now in
    let many : NiId → ℕ =
    λ a. sum_by (allowed_steps task.chip.now task.book.now task.prices.now task.ask crowded a)
    (each_once c.args.to.now) in
    let all = ap (λ (ns : List NiId). sum_by many (each_once ns))
    (take_all c.loop-i.i c.args.from.now c.loop-i-test.false) in
    omega (arith, all, c.loop-i.invariant.steps)
