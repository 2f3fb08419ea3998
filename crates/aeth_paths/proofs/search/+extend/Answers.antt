use Rattle.std.proofs.Common.{◌≡◌, ◌∙◌, ◌+◌, ◌-◌, ◌++◌, ◌∷◌, [], ℕ, List, Some, length, sym, ap}
use Rattle.std.proofs.Common.{arith, rules, length-append, slice_get}
use Rattle.std.proofs.lemmas.Option.{slice_get_within}
use Rattle.aeth_base.{specs.declared.ids.LinkId.LinkId, proofs.Members.Contains-slice_get}
use Rattle.aeth_chip.specs.{LeastOnward.least_from, declared.node.Link.Link}
use Rattle.aeth_paths.specs.{Search.Field, Search.by_turn, Search.completions, Search.first_from}
use Rattle.aeth_paths.specs.{Search.keep, Task.links_from, Walk.costs_of, Walk.field_of}
use Rattle.aeth_paths.specs.{Walk.path_in, Walk.priced, declared.search.Turn.Turn}
use Rattle.aeth_paths.proofs.StepLemmas.{all-left, all-ports, along-longer, best-end, best-step}
use Rattle.aeth_paths.proofs.StepLemmas.{completions-none, link-below, priced-again, stands-goes}
use Rattle.aeth_paths.proofs.StepLemmas.{steps-away, steps-end, steps-longer, steps_over}
use Rattle.aeth_paths.proofs.search.+extend.Goals.{in-Away, in-Ends, in-Goes}
use Rattle.aeth_paths.proofs.search.+extend.Goals as goal

-- No link may follow.
pub returns-then-left-eq0-clause-best : goal.returns-then-left-eq0-clause-best
returns-then-left-eq0-clause-best g t c =
    let f = field_of c.args.task.now c.args.goal.now in
    c.requires.best
    ∙ ap (λ paths. priced (costs_of c.args.task.now) (first_from f (path_in c.args.best) paths))
    (sym (completions-none f c.args.left c.args.prefix.now.end c.args.prefix.now.path
    c.if-left-eq0.true))

-- All links were followed: there is no further one.
pub returns-in_default-clause-best : goal.returns-in_default-clause-best
returns-in_default-clause-best g t c =
    let f = field_of c.args.task.now c.args.goal.now in
    best-end f c.args.left c.args.prefix.now.end c.args.prefix.now.path (path_in c.args.best)
    c.loop-place.place c.loop-place.best (omega arith)
    (all-left c.args.task.now c.args.prefix.now.end c.loop-place.place c.requires.task
    c.in_default.ensures) c.loop-place.invariant.best

pub returns-in_default-clause-steps : goal.returns-in_default-clause-steps
returns-in_default-clause-steps g t c =
    let f = field_of c.args.task.now c.args.goal.now in
    steps-end f (least_from c.args.task.now.chip.now c.args.goal.now.ni) c.args.left
    c.args.prefix.now.end c.args.prefix.now.path c.loop-place.place c.args.steps.now
    c.loop-place.steps (omega arith)
    (c.is_hopeless.ensures.open c.if-is_hopeless.false) c.loop-place.invariant.within
    (all-left c.args.task.now c.args.prefix.now.end c.loop-place.place c.requires.task
    c.in_default.ensures)
    (c.loop-place.invariant.steps)

-- The link leaves the end, and a further one may follow.
pub turn_for-requires-clause-link : goal.turn_for-requires-clause-link
turn_for-requires-clause-link g t c =
    Contains-slice_get (links_from c.args.task.now.chip.now.links c.args.prefix.now.end)
    c.loop-place.place c.in-Some.link (sym c.in-Some.ensures)

pub turn_for-requires-clause-best : goal.turn_for-requires-clause-best
turn_for-requires-clause-best g t c =
    priced-again (costs_of c.args.task.now) _ c.loop-place.best c.loop-place.invariant.best

-- The link is one of the chip.
pub grown-whole-requires-clause-link : goal.grown-whole-requires-clause-link
grown-whole-requires-clause-link g t c =
    link-below c.args.task.now.chip.now.links c.args.prefix.now.end c.in-Some.link
    (Contains-slice_get (links_from c.args.task.now.chip.now.links c.args.prefix.now.end)
    c.loop-place.place c.in-Some.link (sym c.in-Some.ensures))

pub grown-longer-requires-clause-link : goal.grown-longer-requires-clause-link
grown-longer-requires-clause-link g t c =
    link-below c.args.task.now.chip.now.links c.args.prefix.now.end c.in-Some.link
    (Contains-slice_get (links_from c.args.task.now.chip.now.links c.args.prefix.now.end)
    c.loop-place.place c.in-Some.link (sym c.in-Some.ensures))

pub consider-best-requires-clause-best : goal.consider-best-requires-clause-best
consider-best-requires-clause-best g t c =
    priced-again (costs_of c.args.task.now) _ c.loop-place.best c.loop-place.invariant.best

-- What the longer list must be.
pub extend-best-requires : goal.extend-best-requires
extend-best-requires g t c lives kept =
    let f = field_of c.args.task.now c.args.goal.now in
    let path = c.args.prefix.now.path in
    let longer = c.grown-longer.result in
    let known = c.grown-longer.ensures in
    let more : length longer.path ≡ length path + 1 =
    ap (λ (p : List LinkId). length p) known.path ∙ length-append path (c.in-Some.link ∷ []) in (
      search (rules, c.decreases),
      (
        kept,
        (
          c.requires.task,
          (
            c.requires.goal,
            (
              known.prefix,
              (
                known.node,
                (
                  stands-goes f path longer.path c.in-Some.link longer.end c.in-Goes.ensures known.path
                      known.end,
                  (
                    priced-again (costs_of c.args.task.now) _ c.loop-place.best
                        c.loop-place.invariant.best,
                    omega (arith, more, c.requires.room),
                  ),
                ),
              ),
            ),
          ),
        ),
      ),
    )

-- One more link was followed.
pub loop-place-preserved : goal.loop-place-preserved
loop-place-preserved g t c =
    let task = c.args.task.now in
    let f : Field = field_of task c.args.goal.now in
    let path = c.args.prefix.now.path in
    let links = f.leaving c.args.prefix.now.end in
    let place = c.loop-place.place in
    let link = c.in-Some.link in
    let left : ℕ = c.args.left - 1 in
    let at : slice_get links place ≡ Some link =
    ap (λ (ls : List Link). slice_get (links_from ls c.args.prefix.now.end) place)
    c.requires.task.book ∙ sym c.in-Some.ensures in
    let inside = slice_get_within links place link at in
    let step = best-step f path (completions f left) (path_in c.args.best) links place link
    c.loop-place.best c.match-turn_for.best at c.loop-place.invariant.best in
    let over = steps_over f (least_from task.chip.now c.args.goal.now.ni) left path in
    let few = steps-away over links place link c.args.steps.now c.loop-place.steps
    c.match-turn_for.steps at in
    elim c.match-turn_for.branch [
      | in-Away w ↦ record {
        within = omega (arith, inside);
        best = step (w.best-is ∙ w.in-Away.ensures left);
        steps = few (omega (arith, w.steps-is)) c.loop-place.invariant.steps;
      }
      | in-Ends w ↦ record {
        within = omega (arith, inside);
        best = step (w.best-is ∙ w.consider-best.ensures
            ∙ ap (λ (p : List LinkId). priced f.cost (keep f (path_in c.loop-place.best) p))
            w.grown-whole.ensures.path
            ∙ ap (λ (t : Turn). priced f.cost (first_from f (path_in c.loop-place.best)
            (by_turn t ((path ++ link ∷ []) ∷ [])
            (completions f left (f.to link) (path ++ link ∷ []))))) (sym w.in-Ends.ensures));
        steps = few (omega (arith, w.steps-is, w.grown-whole.ensures.steps))
            c.loop-place.invariant.steps;
      }
      | in-Goes w ↦
          let longer = w.grown-longer.result in
          let known = w.grown-longer.ensures in
          record {
            within = omega (arith, inside);
            best = step (w.best-is ∙ w.extend-best.ensures.best
                ∙ ap (λ ps. priced f.cost (first_from f (path_in c.loop-place.best) ps))
                (along-longer f path link w.in-Goes.ensures longer.end longer.path known.end
                known.path left));
            steps = few (omega (
              arith,
              w.steps-is,
              w.extend-best.ensures.steps,
              known.steps,
              steps-longer f path link w.in-Goes.ensures longer.end longer.path known.end known.path
                  (least_from task.chip.now c.args.goal.now.ni) left,
            )) c.loop-place.invariant.steps;
          }
    ]

-- No node has more links.
pub returns-clause-best : goal.returns-clause-best
returns-clause-best g t c =
    let f = field_of c.args.task.now c.args.goal.now in
    best-end f c.args.left c.args.prefix.now.end c.args.prefix.now.path (path_in c.args.best)
    c.loop-place.place c.loop-place.best (omega arith)
    (all-ports c.args.task.now c.args.prefix.now.end c.loop-place.place c.requires.task
    c.requires.node c.loop-place-test.false) c.loop-place.invariant.best

pub returns-clause-steps : goal.returns-clause-steps
returns-clause-steps g t c =
    let f = field_of c.args.task.now c.args.goal.now in
    steps-end f (least_from c.args.task.now.chip.now c.args.goal.now.ni) c.args.left
    c.args.prefix.now.end c.args.prefix.now.path c.loop-place.place c.args.steps.now
    c.loop-place.steps (omega arith)
    (c.is_hopeless.ensures.open c.if-is_hopeless.false) c.loop-place.invariant.within
    (all-ports c.args.task.now c.args.prefix.now.end c.loop-place.place c.requires.task
    c.requires.node c.loop-place-test.false)
    (c.loop-place.invariant.steps)
