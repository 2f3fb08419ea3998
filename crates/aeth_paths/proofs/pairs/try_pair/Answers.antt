use Rattle.std.proofs.Common.{◌≡◌, ◌∙◌, false, eqb, List, [], Option, None, Some, ℕ, sym, ap, subst}
use Rattle.std.proofs.Common.{arith, eq-eqb, ne_eqb}
use Rattle.std.proofs.lemmas.Bool.{and_from, and_left, and_right, both_ways}
use Rattle.aeth_base.proofs.TestLemmas.{IsTrue_from_true}
use Rattle.aeth_base.specs.{Limits.max_path_links, declared.ids.LinkId.LinkId}
use Rattle.aeth_chip.specs.{declared.node.Link.Link, declared.node.Node.Node}
use Rattle.aeth_chip.specs.{declared.node.Node.TheVariants.Ni, Chip.IsNode, Paths.IsDistance}
use Rattle.aeth_chip.specs.{Paths.IsLinkFrom, LeastOnward.least_from}
use Rattle.aeth_paths.specs.{Open.is_crowded, Open.open_steps, Task.field, Pairs.IsOffered}
use Rattle.aeth_paths.specs.{Pairs.Tries, Search.completions, Search.first_from, Walk.costs_of}
use Rattle.aeth_paths.specs.{Walk.path_in}
use Rattle.aeth_paths.proofs.{EndLemmas.from-inside, EnterLemmas.to-inside}
use Rattle.aeth_paths.proofs.{HopelessLemmas.no-direct, StepLemmas.path_in-priced}
use Rattle.aeth_paths.proofs.{TryLemmas.steps-allowed, TryLemmas.tries-none, TryLemmas.tries-pair}
use Rattle.aeth_paths.proofs.{pairs.try_pair.Goals.After-start-begun}
use Rattle.aeth_paths.proofs.{pairs.try_pair.Goals.else-a-b-via-then-a-b+else-holds}
use Rattle.aeth_paths.proofs.{pairs.try_pair.Goals.else-a-b-via-else-a-b}
use Rattle.aeth_paths.proofs.pairs.try_pair.Given as given
use Rattle.aeth_paths.proofs.pairs.try_pair.Goals as goal

-- One crowded interface is no pair.
pub returns-then-holds-clause-tries : goal.returns-then-holds-clause-tries
returns-then-holds-clause-tries g c =
    tries-none (costs_of c.args.task.now) (path_in c.args.best)
    (IsOffered c.args.task.now.book.now c.args.task.now.ask c.args.crowded.now c.args.a c.args.b)
    (λ path offered. both_ways _ offered.room
    (and_from _ _ (eq-eqb c.args.a.0 c.args.b.0 c.if-a-b.true)
    (sym c.holds.ensures ∙ c.if-holds.true)))

-- No path leads there.
pub returns-in_default-clause-tries : goal.returns-in_default-clause-tries
returns-in_default-clause-tries g c =
    let task = c.args.task.now in
    tries-none (costs_of task) (path_in c.args.best)
    (IsOffered task.book.now task.ask c.args.crowded.now c.args.a c.args.b)
    (λ path offered.
    let far = subst (λ (ls : List Link). IsDistance ls c.args.a c.args.b None)
    (c.requires.task.far ∙ sym c.requires.task.book) c.in_default.ensures.distance in
    far path offered.admissible.is_path)

-- The receiver is an interface of the chip.
pub may_enter-requires-clause-ni : goal.may_enter-requires-clause-ni
may_enter-requires-clause-ni g c =
    let far = subst (λ (ls : List Link). IsDistance ls c.args.a c.args.b (Some c.in-Some.distance))
    c.requires.task.far c.in-Some.ensures.distance in
    to-inside c.args.task.now.chip.now c.args.a c.args.b far.path c.requires.task.is_chip far.has

-- No path that ends there is live.
pub returns-then-not-may_enter-clause-tries : goal.returns-then-not-may_enter-clause-tries
returns-then-not-may_enter-clause-tries g c =
    let task = c.args.task.now in
    tries-none (costs_of task) (path_in c.args.best)
    (IsOffered task.book.now task.ask c.args.crowded.now c.args.a c.args.b)
    (λ path offered. both_ways _
    (c.may_enter.ensures c.if-not-may_enter.true c.args.a path offered.admissible.is_path)
    offered.live)

-- The sender is an interface of the chip.
pub search-requires-clause-node : goal.search-requires-clause-node
search-requires-clause-node g c =
    let chip = c.args.task.now.chip.now in
    let far = subst (λ (ls : List Link). IsDistance ls c.args.a c.args.b (Some c.in-Some.distance))
    c.requires.task.far c.in-Some.ensures.distance in
    subst (IsNode chip.routers chip.nis) (sym c.start-begun.ensures.end)
    (from-inside chip c.args.a c.args.b far.path c.requires.task.is_chip far.has)

-- The pair isn't one crowded interface.
room : (g : given.Over) (c : goal.After-start-begun g)
    → is_crowded c.args.crowded.now c.args.a c.args.b ≡ false
room g c = elim c.else-a-b.branch [
  | else-a-b-via-then-a-b+else-holds w ↦
      and_right (eqb c.args.a.0 c.args.b.0) _ (sym w.holds.ensures ∙ w.if-holds.false)
  | else-a-b-via-else-a-b w ↦
      and_left (eqb c.args.a.0 c.args.b.0) _ (ne_eqb c.args.a.0 c.args.b.0 w.if-a-b.false)
]

-- No path of the pair is better than what was best.
pub returns-then-is_hopeless-clause-tries : goal.returns-then-is_hopeless-clause-tries
returns-then-is_hopeless-clause-tries g c =
    let task = c.args.task.now in
    let ask = task.ask in
    let f = field task.book.now task.prices.now ask c.args.b c.min-most.result in
    let best = path_in c.args.best in
    let far = subst (λ (ls : List Link). IsDistance ls c.args.a c.args.b (Some c.in-Some.distance))
    (c.requires.task.far ∙ sym c.requires.task.book) c.in-Some.ensures.distance in
    let apart : (link : LinkId)
    → IsLinkFrom task.book.now.links link (Ni c.args.a) (Ni c.args.b) → ⊥ =
    λ link. subst (λ (ls : List Link). IsLinkFrom ls link (Ni c.args.a) (Ni c.args.b) → ⊥)
    (sym c.requires.task.book)
    (no-direct task.chip.now c.requires.task.is_chip c.args.a c.args.b link) in
    let none : first_from f best (completions f max_path_links (Ni c.args.a) []) ≡ best =
    sym (ap (λ (n : Node). first_from f best (completions f max_path_links n c.start-begun.result.path))
    c.start-begun.ensures.end
    ∙ ap (λ (p : List LinkId). first_from f best (completions f max_path_links (Ni c.args.a) p))
    c.start-begun.ensures.path)
    ∙ c.is_hopeless.ensures.none (IsTrue_from_true _ c.if-is_hopeless.true) max_path_links in
    subst (λ (o : Option (List LinkId)). Tries (costs_of task) best o
    (IsOffered task.book.now ask c.args.crowded.now c.args.a c.args.b)) none
    (tries-pair task.book.now task.prices.now ask c.args.crowded.now c.args.a c.args.b
    c.in-Some.distance c.min-most.result far c.min-most.ensures apart
    (room g (goal.at.returns-then-is_hopeless-clause-tries g c).After-start-begun) best)

-- All paths of the pair were tried.
pub returns-clause-tries : goal.returns-clause-tries
returns-clause-tries g c =
    let task = c.args.task.now in
    let ask = task.ask in
    let f = field task.book.now task.prices.now ask c.args.b c.min-most.result in
    let far = subst (λ (ls : List Link). IsDistance ls c.args.a c.args.b (Some c.in-Some.distance))
    (c.requires.task.far ∙ sym c.requires.task.book) c.in-Some.ensures.distance in
    let apart : (link : LinkId)
    → IsLinkFrom task.book.now.links link (Ni c.args.a) (Ni c.args.b) → ⊥ =
    λ link. subst (λ (ls : List Link). IsLinkFrom ls link (Ni c.args.a) (Ni c.args.b) → ⊥)
    (sym c.requires.task.book)
    (no-direct task.chip.now c.requires.task.is_chip c.args.a c.args.b link) in
    let all : path_in c.search.result
    ≡ first_from f (path_in c.args.best) (completions f max_path_links (Ni c.args.a) []) =
    ap path_in c.search.ensures.best ∙ path_in-priced (costs_of task) _
    ∙ ap (λ (n : Node). first_from f (path_in c.args.best)
    (completions f max_path_links n c.start-begun.result.path)) c.start-begun.ensures.end
    ∙ ap (λ (p : List LinkId). first_from f (path_in c.args.best)
    (completions f max_path_links (Ni c.args.a) p)) c.start-begun.ensures.path in
    subst (λ (o : Option (List LinkId)). Tries (costs_of task) (path_in c.args.best) o
    (IsOffered task.book.now ask c.args.crowded.now c.args.a c.args.b)) (sym all)
    (tries-pair task.book.now task.prices.now ask c.args.crowded.now c.args.a c.args.b
    c.in-Some.distance c.min-most.result far c.min-most.ensures apart
    (room g (goal.at.returns-clause-tries g c).After-start-begun) (path_in c.args.best))

-- Its lists are those of the pair.
pub returns-clause-steps : goal.returns-clause-steps
returns-clause-steps g c =
    let task = c.args.task.now in
    let chip = task.chip.now in
    let most : ℕ = c.min-most.result in
    let far = subst (λ (ls : List Link). IsDistance ls c.args.a c.args.b (Some c.in-Some.distance))
    c.requires.task.far c.in-Some.ensures.distance in
    let steps : Node → List LinkId → ℕ =
    open_steps (field task.book.now task.prices.now task.ask c.args.b most)
    (least_from chip c.args.b) max_path_links in
    let end = ap (λ (n : Node). steps n c.start-begun.result.path) c.start-begun.ensures.end in
    let none = ap (steps (Ni c.args.a)) c.start-begun.ensures.path in
    let all = steps-allowed chip c.requires.task.is_chip task.book.now task.prices.now task.ask
    c.args.crowded.now c.args.a c.args.b c.in-Some.distance most far c.min-most.ensures
    (room g (goal.at.returns-clause-steps g c).After-start-begun) in
    omega (arith, c.search.ensures.steps, end, none, all)
