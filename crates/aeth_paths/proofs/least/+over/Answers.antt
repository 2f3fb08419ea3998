use Rattle.std.proofs.Common.{◌≡◌, ◌∙◌, ◌-◌, ◌*◌, ◌+◌, ◌<◌, ◌≤◌, ℕ, List, Contains, Some, get_or}
use Rattle.std.proofs.Common.{rules, length, slice_get, refl, sym, ap, subst, inl, inr, arith}
use Rattle.std.proofs.lemmas.{Bool.cases_lt, Option.same_Some, Option.slice_get-get_or}
use Rattle.aeth_base.{proofs.Members.Contains-slice_get, specs.declared.ids.LinkId.LinkId}
use Rattle.aeth_chip.specs.{Chip.IsNode, Limits.max_routers, Nodes.sends_on, Paths.to_in}
use Rattle.aeth_chip.specs.{Paths.to_of, declared.node.Link.Link}
use Rattle.aeth_chip.specs.{declared.node.Node.TheVariants.Router}
use Rattle.aeth_paths.specs.{Least.CostsAtLeast, Least.OverCosts, Least.field_to, Search.Field}
use Rattle.aeth_paths.specs.{Task.links_from}
use Rattle.aeth_paths.proofs.LeastLemmas.{lowest-over, over-away, over-none, over-router}
use Rattle.aeth_paths.proofs.LeastLemmas.{put-router, read-least, same-links}
use Rattle.aeth_paths.proofs.StepLemmas.{link-below}
use Rattle.aeth_paths.proofs.least.+over.Goals.{After-link, After-outgoing-links}
use Rattle.aeth_paths.proofs.least.+over.Goals as goal

-- Where the link ends.
ends : {t : ℕ} (c : goal.After-link t)
    → c.link.result.to ≡ to_of c.args.task.now.book.now.links c.args.link
ends c =
    sym (ap to_in (ap (λ (ls : List Link). slice_get ls c.args.link.0) c.requires.task.book
    ∙ c.link.ensures.link))

-- It is another interface.
pub returns-else-ni-target-clause-over : goal.returns-else-ni-target-clause-over
returns-else-ni-target-clause-over t c =
    over-away (field_to c.args.task.now c.args.target.now) c.args.link c.in-Ni.ni c.args.target.now.ni
    c.args.left _ (sym (ends (goal.at.returns-else-ni-target-clause-over t c).After-link) ∙ c.in-Ni.is)
    refl c.if-ni-target.false

-- The entry stands in the table.
pub returns-then-known-gt0-clause-over : goal.returns-then-known-gt0-clause-over
returns-then-known-gt0-clause-over t c =
    let task = c.args.task.now in
    let f : Field = field_to task c.args.target.now in
    let router = c.in-Router.router in
    let inside = subst (IsNode task.chip.now.routers task.chip.now.nis) c.in-Router.is
    c.link.ensures.to in
    over-router f c.args.link router c.args.target.now.ni c.args.left c.cost_of-then-known-gt0.result
    (get_or c.args.least.now (c.args.left * max_routers + router.0) 0) c.saturating_add.result
    (sym (ends (goal.at.returns-then-known-gt0-clause-over t c).After-link) ∙ c.in-Router.is) refl
    (λ path. read-least f c.args.least.now c.requires.least router c.args.left path
    (omega (arith, c.routers-routers.ensures.most, inside, c.routers-routers.ensures.routers)))
    c.cost_of-then-known-gt0.ensures.within
    (omega (arith, c.saturating_add.ensures))

-- Nothing leads on in time.
pub returns-then-not-may_lead-clause-over : goal.returns-then-not-may_lead-clause-over
returns-then-not-may_lead-clause-over t c =
    over-none (field_to c.args.task.now c.args.target.now) c.args.link c.in-Router.router
    c.args.target.now.ni c.args.left _
    (sym (ends (goal.at.returns-then-not-may_lead-clause-over t c).After-link) ∙ c.in-Router.is) refl
    (c.may_lead.ensures.none c.if-not-may_lead.true c.args.target.now.most)

-- The links that leave the router.
leaves : {t : ℕ} (c : goal.After-outgoing-links t)
    → links_from c.args.task.now.chip.now.links (Router c.in-Router.router)
    ≡ c.outgoing-links.result.now
leaves c =
    same-links c.outgoing-links.result.now
    (sends_on (Router c.in-Router.router) c.args.task.now.chip.now.links) c.outgoing-links.ensures

-- The link is one of the chip, and one link fewer may follow.
pub over-requires : goal.over-requires
over-requires t c =
    let links = c.outgoing-links.result.now in
    let at = slice_get-get_or links c.loop-i.i (record { 0 = 0 }) c.loop-i-test.true in
    let some = c.may_lead.ensures.some in
    let below = link-below c.args.task.now.chip.now.links (Router c.in-Router.router) _
    (subst (λ (ls : List LinkId). Contains ls (get_or links c.loop-i.i (record { 0 = 0 })))
    (sym (leaves (goal.at.over-requires t c).After-outgoing-links)) (Contains-slice_get links c.loop-i.i _ at)) in (
      search (rules, c.decreases, some, c.if-not-may_lead.false),
      (
        c.requires.task,
        (
          c.loop-i.invariant.links,
          (
            c.loop-i.invariant.costs,
            (
              c.loop-i.invariant.size,
              (c.loop-i.invariant.least, (below, omega (arith, c.requires.left))),
            ),
          ),
        ),
      ),
    )

-- One more link was looked at.
pub loop-i-preserved : goal.loop-i-preserved
loop-i-preserved t c =
    let f : Field = field_to c.args.task.now c.args.target.now in
    let links = c.outgoing-links.result.now in
    let i = c.loop-i.i in
    let d : LinkId = record { 0 = 0 } in
    record {
      links = c.over.ensures.links;
      costs = c.over.ensures.costs;
      size = c.over.ensures.size;
      least = c.over.ensures.least;
      lowest = λ k link below at node path rest walks few. elim (cases_lt k i) [
        | inl before ↦
            omega (
              arith,
              c.min-lowest.ensures,
              c.loop-i.invariant.lowest k link before at node path rest walks few,
            )
        | inr last ↦
            let same : k ≡ i = omega (arith, last, below) in
            let here : slice_get links i ≡ Some link =
            subst (λ n. slice_get links n ≡ Some link) same at in
            let is : get_or links i d ≡ link =
            sym (same_Some _ _ (sym here ∙ slice_get-get_or links i d c.loop-i-test.true)) in
            let cheap = subst (λ (l : LinkId). OverCosts f l (c.args.left - 1) c.over.result) is
            c.over.ensures.over node path rest walks few in
            omega (arith, c.min-lowest.ensures, cheap)
      ];
    }

-- What leads on from the router.
leads-on : {t : ℕ} (c : goal.After-outgoing-links t) (i cost : ℕ)
    → length c.outgoing-links.result.now ≤ i
    → ((k : ℕ) (link : LinkId) → k < i → slice_get c.outgoing-links.result.now k ≡ Some link
    → OverCosts (field_to c.args.task.now c.args.target.now) link (c.args.left - 1) cost)
    → (path : List LinkId) → CostsAtLeast (field_to c.args.task.now c.args.target.now)
    (Router c.in-Router.router) path c.args.left cost
leads-on c i cost all each =
    lowest-over (field_to c.args.task.now c.args.target.now) (Router c.in-Router.router)
    c.outgoing-links.result.now c.args.left cost i
    (ap (λ (ls : List Link). links_from ls (Router c.in-Router.router)) c.requires.task.book ∙ leaves c)
    all each

-- Its entry stands in the table.
pub returns-clause-least : goal.returns-clause-least
returns-clause-least t c =
    let task = c.args.task.now in
    let inside = subst (IsNode task.chip.now.routers task.chip.now.nis) c.in-Router.is
    c.link.ensures.to in
    let below : c.in-Router.router.0 < max_routers =
    omega (arith, c.routers-routers.ensures.most, inside, c.routers-routers.ensures.routers) in
    put-router (field_to task c.args.target.now) c.loop-i.least c.loop-i.invariant.least
    c.in-Router.router c.args.left c.loop-i.lowest below
    (omega (arith, c.requires.left, below, c.loop-i.invariant.size))
    (leads-on (goal.at.returns-clause-least t c).After-outgoing-links c.loop-i.i c.loop-i.lowest
    (omega (arith, c.loop-i-test.false)) c.loop-i.invariant.lowest)

-- The link's own cost, and what leads on.
pub returns-clause-over : goal.returns-clause-over
returns-clause-over t c =
    let task = c.args.task.now in
    over-router (field_to task c.args.target.now) c.args.link c.in-Router.router
    c.args.target.now.ni c.args.left c.cost_of-2.result c.loop-i.lowest c.saturating_add-2.result
    (sym (ends (goal.at.returns-clause-over t c).After-link) ∙ c.in-Router.is) refl
    (leads-on (goal.at.returns-clause-over t c).After-outgoing-links c.loop-i.i c.loop-i.lowest
    (omega (arith, c.loop-i-test.false)) c.loop-i.invariant.lowest)
    c.cost_of-2.ensures.within
    (omega (arith, c.saturating_add-2.ensures))
