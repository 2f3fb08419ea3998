-- Steps of the search: one more link of those that leave a node, and how many steps it may take.
use Rattle.std.proofs.Common.{◌≡◌, ◌∙◌, ◌+◌, ◌-◌, ◌<◌, ◌≤◌, ◌++◌, ℕ, zero, suc, true, cond, List}
use Rattle.std.proofs.Common.{[], ◌∷◌, Contains, length, take, Option, Some, slice_get, sym, refl}
use Rattle.std.proofs.Common.{ap, subst, arith, None, inl, inr, sum_by, append-nil, take_all}
use Rattle.std.proofs.lemmas.{Bool.and_parts, Bool.cond-true, Bool.false≢true, Bool.or_right}
use Rattle.std.proofs.lemmas.{Grind.flat_map-append, List.length-map, List.Concat.flat_map-cons}
use Rattle.std.proofs.lemmas.{Option.none-some, Option.slice_get_cases, Option.slice_get_within}
use Rattle.std.specs.List.{flat_map}
use Rattle.aeth_base.specs.declared.ids.LinkId.{LinkId}
use Rattle.aeth_chip.specs.declared.node.Link.{Link}
use Rattle.aeth_chip.specs.declared.node.Node.{Node, TheVariants.Ni, TheVariants.Router}
use Rattle.aeth_chip.specs.Chip.{ChipData, IsChip, IsNode}
use Rattle.aeth_chip.specs.Limits.{max_ports}
use Rattle.aeth_chip.specs.Nodes.{begins_at, is_router, same_node, sends_on}
use Rattle.aeth_chip.proofs.NodeLemmas.{length-numbers_from, same_node-refl}
use Rattle.aeth_chip.proofs.WireLemmas.{sum_by-take_more}
use Rattle.aeth_group.proofs.ListLemmas.{take-at}
use Rattle.aeth_paths.specs.{declared.priced.Priced.Priced, declared.search.Turn.TheVariants.Goes}
use Rattle.aeth_paths.specs.{Open.is_open, Open.open_steps, Search.Field, Search.along}
use Rattle.aeth_paths.specs.{Search.by_turn, Search.completions, Search.first_from, Search.is_new}
use Rattle.aeth_paths.specs.{Search.passes, Search.turn_of, Task.links_from}
use Rattle.aeth_paths.specs.{declared.prefix.Task.Task, Walk.IsTask, Walk.Stands, Walk.path_in}
use Rattle.aeth_paths.specs.{Walk.priced}
use Rattle.aeth_paths.proofs.{JoinLemmas.leaving-begins, JoinLemmas.passes-push}
use Rattle.aeth_paths.proofs.{FirstLemmas.first_from-append, WalkLemmas.turn-goes}

-- The path of a priced best is the best.
pub path_in-priced : (cost : LinkId → ℕ) (best : Option (List LinkId))
    → path_in (priced cost best) ≡ best
path_in-priced cost =
    elim [ None ↦ refl | Some path ↦ refl ]

-- A priced best is that of its own path.
pub priced-again : (cost : LinkId → ℕ) (best : Option (List LinkId)) (now : Option Priced)
    → now ≡ priced cost best → now ≡ priced cost (path_in now)
priced-again cost best now is =
    is ∙ ap (priced cost) (sym (path_in-priced cost best) ∙ ap path_in (sym is))

-- Over no links nothing goes on.
pub completions-none : (f : Field) (left : ℕ) (node : Node) (path : List LinkId) → left ≡ 0
    → completions f left node path ≡ []
unfolding completions
completions-none f left node path is = rw is refl

-- Over some, the links that leave the node do.
pub completions-some : (f : Field) (left : ℕ) (node : Node) (path : List LinkId) → 0 < left
    → completions f left node path
    ≡ flat_map (along f path (completions f (left - 1))) (f.leaving node)
unfolding completions
completions-some f zero node path some = absurd (omega (arith, some))
completions-some f (suc left) node path some =
    let less : suc left - 1 ≡ left = omega arith in
    rw less refl

-- One more link of those that leave the node.
pub along-more : (f : Field) (path : List LinkId) (more : Node → List LinkId → List (List LinkId))
    (first : Option (List LinkId)) (links : List LinkId) (place : ℕ) (link : LinkId)
    → slice_get links place ≡ Some link
    → first_from f first (flat_map (along f path more) (take (place + 1) links))
    ≡ first_from f (first_from f first (flat_map (along f path more) (take place links)))
    (along f path more link)
along-more f path more first links place link at =
    let one : flat_map (along f path more) (link ∷ []) ≡ along f path more link =
    flat_map-cons (along f path more) link [] ∙ append-nil (along f path more link) in
    ap (λ ls. first_from f first (flat_map (along f path more) ls)) (take-at links place link at)
    ∙ ap (first_from f first) (flat_map-append (along f path more) (take place links) (link ∷ []))
    ∙ first_from-append f first (flat_map (along f path more) (take place links))
    (flat_map (along f path more) (link ∷ []))
    ∙ ap (first_from f (first_from f first (flat_map (along f path more) (take place links)))) one

-- ---- how many steps

-- The steps of the list that is longer by a link, if it goes to a new router.
abbrev pub steps_over : Field → (Node → Option ℕ) → ℕ → List LinkId → LinkId → ℕ
steps_over f least left path link = cond (is_new f path (f.to link))
    (open_steps f least left (f.to link) (path ++ link ∷ [])) 0

-- At an open list they are the links that leave its end, and those of the longer lists.
pub open_steps-open : (f : Field) (least : Node → Option ℕ) (left : ℕ) (node : Node)
    (path : List LinkId) → 0 < left → is_open f least node path ≡ true
    → open_steps f least left node path
    ≡ length (f.leaving node) + sum_by (steps_over f least (left - 1) path) (f.leaving node)
unfolding open_steps
open_steps-open f least zero node path some opens = absurd (omega (arith, some))
open_steps-open f least (suc left) node path some opens =
    let less : suc left - 1 ≡ left = omega arith in
    rw less (ap (λ n. n + sum_by (steps_over f least left path) (f.leaving node))
    (cond-true (is_open f least node path) (length (f.leaving node)) 0 opens))

-- A link to a new router takes the steps of the longer list.
pub steps_over-goes : (f : Field) (least : Node → Option ℕ) (left : ℕ) (path : List LinkId)
    (link : LinkId) → turn_of f path link ≡ Goes
    → steps_over f least left path link ≡ open_steps f least left (f.to link) (path ++ link ∷ [])
steps_over-goes f least left path link goes =
    cond-true (is_new f path (f.to link)) _ 0 (turn-goes f path link goes)

-- ---- the loop over the links that leave a node

-- One more link: what is best now.
pub best-step : (f : Field) (path : List LinkId) (more : Node → List LinkId → List (List LinkId))
    (first : Option (List LinkId)) (links : List LinkId) (place : ℕ) (link : LinkId)
    (old new : Option Priced) → slice_get links place ≡ Some link
    → old ≡ priced f.cost (first_from f first (flat_map (along f path more) (take place links)))
    → new ≡ priced f.cost (first_from f (path_in old) (along f path more link))
    → new
    ≡ priced f.cost (first_from f first (flat_map (along f path more) (take (place + 1) links)))
best-step f path more first links place link old new at was gives =
    let best : Option (List LinkId) =
    first_from f first (flat_map (along f path more) (take place links)) in
    gives
    ∙ ap (λ o. priced f.cost (first_from f o (along f path more link)))
    (ap path_in was ∙ path_in-priced f.cost best)
    ∙ ap (priced f.cost) (sym (along-more f path more first links place link at))

-- A longer list has the paths that go on over its last link, and their steps.
module _ (f : Field) (path : List LinkId) (link : LinkId) (goes : turn_of f path link ≡ Goes)
    (end : Node) (longer : List LinkId) (ends : end ≡ f.to link)
    (is : longer ≡ path ++ link ∷ []) where
  pub along-longer : (left : ℕ)
      → completions f left end longer ≡ along f path (completions f left) link
  along-longer left =
      ap (λ (n : Node). completions f left n longer) ends
      ∙ ap (completions f left (f.to link)) is
      ∙ ap (λ t. by_turn t ((path ++ link ∷ []) ∷ [])
      (completions f left (f.to link) (path ++ link ∷ []))) (sym goes)

  pub steps-longer : (least : Node → Option ℕ) (left : ℕ)
      → open_steps f least left end longer ≡ steps_over f least left path link
  steps-longer least left =
      ap (λ (n : Node). open_steps f least left n longer) ends
      ∙ ap (open_steps f least left (f.to link)) is
      ∙ sym (steps_over-goes f least left path link goes)

-- All links: the best of all paths that go on.
pub best-end : (f : Field) (left : ℕ) (node : Node) (path : List LinkId)
    (first : Option (List LinkId)) (place : ℕ) (now : Option Priced) → 0 < left
    → length (f.leaving node) ≤ place
    → now ≡ priced f.cost (first_from f first (flat_map (along f path (completions f (left - 1)))
    (take place (f.leaving node))))
    → now ≡ priced f.cost (first_from f first (completions f left node path))
best-end f left node path first place now some all is =
    is
    ∙ ap (λ ls. priced f.cost (first_from f first
    (flat_map (along f path (completions f (left - 1))) ls)))
    (take_all place (f.leaving node) all)
    ∙ ap (λ ps. priced f.cost (first_from f first ps))
    (sym (completions-some f left node path some))

-- One more link: the steps so far.
pub steps-away : (g : LinkId → ℕ) (links : List LinkId) (place : ℕ) (link : LinkId)
    (first old new : ℕ) → slice_get links place ≡ Some link → new ≤ old + 1 + g link
    → old ≤ first + place + sum_by g (take place links)
    → new ≤ first + (place + 1) + sum_by g (take (place + 1) links)
steps-away g links place link first old new at few was =
    omega (arith, sum_by-take_more g links place link at, few, was)

-- All links: the steps of all lists that go on.
pub steps-end : (f : Field) (least : Node → Option ℕ) (left : ℕ) (node : Node)
    (path : List LinkId) (place old now : ℕ) → 0 < left → is_open f least node path ≡ true
    → place ≤ length (f.leaving node) → length (f.leaving node) ≤ place
    → now ≤ old + place + sum_by (steps_over f least (left - 1) path) (take place (f.leaving node))
    → now ≤ old + open_steps f least left node path
steps-end f least left node path place old now some opens within all was =
    let whole = take_all place (f.leaving node) all in
    omega (
      arith,
      open_steps-open f least left node path some opens,
      ap (sum_by (steps_over f least (left - 1) path)) whole,
    )

-- A link that leaves a node is a link of the chip.
pub link-below : (links : List Link) (node : Node) (link : LinkId)
    → Contains (links_from links node) link → link.0 < length links
link-below links node link leaves =
    let goes = leaving-begins links link node leaves in
    slice_get_within links link.0 goes.link goes.is

-- No more links leave a node than a router has ports.
pub few-leave : (chip : ChipData) (node : Node) → IsChip chip → IsNode chip.routers chip.nis node
    → length (links_from chip.links node) ≤ max_ports
few-leave chip (Router r) is inside =
    omega (
      arith,
      (is.ports r inside).sends,
      length-numbers_from (begins_at (Router r)) 0 chip.links,
      length-map {B = LinkId} (sends_on (Router r) chip.links) (λ n. record { 0 = n }),
    )
few-leave chip (Ni n) is inside =
    omega (
      arith,
      ap (λ (ls : List ℕ). length ls) (is.single n inside).sends,
      length-map {B = LinkId} (sends_on (Ni n) chip.links) (λ n. record { 0 = n }),
    )

-- A link to a new router stands at this router.
pub stands-goes : (f : Field) (path longer : List LinkId) (link : LinkId) (node : Node)
    → turn_of f path link ≡ Goes → longer ≡ path ++ link ∷ [] → node ≡ f.to link
    → Stands f.to node longer
stands-goes f path longer link node goes is_longer ends =
    let new = turn-goes f path link goes in
    let (router, fresh) = and_parts (is_router (f.to link)) _ new in
    let go : (n : Node) → n ≡ f.to link → is_router n ≡ true → Stands f.to n longer =
    elim [
      | Router r ↦ λ same is_it.
          ap (λ (p : List LinkId). passes f.to p (Router r)) is_longer
          ∙ passes-push f.to path link (Router r)
          ∙ or_right (passes f.to path (Router r)) _
          (subst (λ (m : Node). same_node m (Router r) ≡ true) same (same_node-refl (Router r)))
      | Ni n ↦ λ same is_it. absurd (false≢true is_it)
    ]
    in go node ends (ap is_router ends ∙ router)

-- Where no link has the place, all are before it.
pub all-left : (task : Task) (node : Node) (place : ℕ) → IsTask task
    → None ≡ slice_get (links_from task.chip.now.links node) place
    → length (links_from task.book.now.links node) ≤ place
all-left task node place is none =
    subst (λ (ls : List Link). length (links_from ls node) ≤ place) (sym is.book)
    (elim (slice_get_cases (links_from task.chip.now.links node) place).1 [
      | inl found ↦ absurd (none-some found.0 (none ∙ found.2))
      | inr past ↦ past.0
    ])

-- No more links leave a node than a router has ports.
pub all-ports : (task : Task) (node : Node) (place : ℕ) → IsTask task
    → IsNode task.chip.now.routers task.chip.now.nis node → max_ports ≤ place
    → length (links_from task.book.now.links node) ≤ place
all-ports task node place is inside ports =
    subst (λ (ls : List Link). length (links_from ls node) ≤ place) (sym is.book)
    (omega (arith, few-leave task.chip.now node is.is_chip inside, ports))
