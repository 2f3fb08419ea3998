-- Tables of least costs: what an entry tells, and that a further one may be put in.
use Rattle.std.proofs.Common.{◌≡◌, ◌∙◌, ◌+◌, ◌-◌, ◌*◌, ◌/◌, ◌%◌, ◌<◌, ◌≤◌, ◌++◌, ℕ, true, List, []}
use Rattle.std.proofs.Common.{◌∷◌, Contains, Some, slice_get, get_or, get_or-set_other}
use Rattle.std.proofs.Common.{get_or-set_same, length, length-append, map, replicate, set, refl}
use Rattle.std.proofs.Common.{sym, ap, subst, inl, inr, arith, sum_by}
use Rattle.std.proofs.lemmas.Bool.{and_parts, cases_eq, cases_lt, false≢true, or_right}
use Rattle.std.proofs.lemmas.List.{get_or-replicate, get_or_past, length-replicate}
use Rattle.std.proofs.lemmas.List.Sums.{sum_by-append, sum_by-cons}
use Rattle.std.proofs.lemmas.Option.{slice_get-get_or}
use Rattle.aeth_base.specs.declared.ids.{LinkId.LinkId, NiId.NiId, RouterId.RouterId}
use Rattle.aeth_chip.{specs.Limits.max_routers, specs.Nodes.is_router, specs.Nodes.same_node}
use Rattle.aeth_chip.{specs.declared.node.Node.Node, specs.declared.node.Node.TheVariants.Ni}
use Rattle.aeth_chip.{specs.declared.node.Node.TheVariants.Router, proofs.NodeLemmas.same_node-refl}
use Rattle.aeth_paths.specs.{Least.AreLeast, Least.AreWithin, Least.CostsAtLeast, Least.NoneWalks}
use Rattle.aeth_paths.specs.{Least.OverCosts, Least.PathsCost, Search.Field, Search.Walks}
use Rattle.aeth_paths.specs.{Search.passes, Search.turn_of, declared.search.Turn.TheVariants.Goes}
use Rattle.aeth_paths.proofs.JoinLemmas.{passes-push, walks-first, walks-none}
use Rattle.aeth_paths.proofs.WalkLemmas.{turn-goes}

-- Each entry of a table of one number is this number.
pub all-same : (count place number : ℕ) → get_or (replicate count number) place number ≡ number
all-same count place number = elim (cases_lt place count) [
  | inl below ↦ get_or-replicate count place number number below
  | inr past ↦
      get_or_past (replicate count number) place number
      (omega (arith, past, length-replicate count number))
]

-- A table without costs has no entry that is too high.
pub zeros-within : (cost : LinkId → ℕ) (count : ℕ) → AreWithin cost (replicate count 0)
zeros-within cost count number = omega (arith, all-same count number 0)

pub zeros-least : (f : Field) (count : ℕ) → AreLeast f (replicate count 0)
zeros-least f count place path rest walks few = omega (arith, all-same count place 0)

-- The cost of a link may be put in.
pub put-within : (cost : LinkId → ℕ) (table : List ℕ) (place own : ℕ) → place < length table
    → AreWithin cost table → own ≡ cost (record { 0 = place })
    → AreWithin cost (set table place own)
put-within cost table place own within are is number = elim (cases_eq number place) [
  | inl same ↦ rw same (omega (arith, get_or-set_same table place own 0 within, is))
  | inr other ↦ omega (arith, get_or-set_other table place number own 0 other, are number)
]

module _ (f : Field) (table : List ℕ) (are : AreLeast f table) where
  -- A further least cost may be put in.
  pub put-least : (place own : ℕ) → place < length table
      → ((path : List LinkId) → CostsAtLeast f (Router (record { 0 = place % max_routers })) path
      (place / max_routers) own)
      → AreLeast f (set table place own)
  put-least place own within least other path rest walks few = elim (cases_eq other place) [
    | inl same ↦
        let at = ap (λ k. get_or (set table place own) k 0) same
        ∙ get_or-set_same table place own 0 within in
        let own_is = least path rest
        (subst (λ k. Walks f (Router (record { 0 = k % max_routers })) path rest) same walks)
        (subst (λ k. length rest ≤ k / max_routers) same few) in
        omega (arith, at, own_is)
    | inr different ↦
        omega (
          arith,
          get_or-set_other table place other own 0 different,
          are other path rest walks few,
        )
  ]

  -- So may that of a router and of a number of links.
  pub put-router : (r : RouterId) (left own : ℕ) → r.0 < max_routers
      → left * max_routers + r.0 < length table
      → ((path : List LinkId) → CostsAtLeast f (Router r) path left own)
      → AreLeast f (set table (left * max_routers + r.0) own)
  put-router r left own below within least =
      let place : ℕ = left * max_routers + r.0 in
      let router : place % max_routers ≡ r.0 = omega (arith, below) in
      let row : place / max_routers ≡ left = omega (arith, below) in
      put-least place own within (λ path rest walks few. least path rest
      (subst (λ k. Walks f (Router (record { 0 = k })) path rest) router walks)
      (subst (λ k. length rest ≤ k) row few))

  -- The entry of a router and of a number of links.
  pub read-least : (r : RouterId) (left : ℕ) (path : List LinkId) → r.0 < max_routers
      → CostsAtLeast f (Router r) path left (get_or table (left * max_routers + r.0) 0)
  read-least r left path below rest walks few =
      let place : ℕ = left * max_routers + r.0 in
      let router : place % max_routers ≡ r.0 = omega (arith, below) in
      let row : place / max_routers ≡ left = omega (arith, below) in
      are place path rest
      (subst (λ k. Walks f (Router (record { 0 = k })) path rest) (sym router) walks)
      (subst (λ k. length rest ≤ k) (sym row) few)

-- What a link and those that lead on from its end cost.
pub over-least : (f : Field) (node : Node) (path rest : List LinkId) (link : LinkId)
    (left own onward cost : ℕ) → Walks f node path (link ∷ rest) → length rest ≤ left
    → (f.to link ≡ f.goal → onward ≡ 0)
    → (is_router (f.to link) ≡ true → (longer : List LinkId)
    → CostsAtLeast f (f.to link) longer left onward)
    → own ≤ f.cost link → cost ≤ onward + own → cost ≤ sum_by f.cost (link ∷ rest)
over-least f node path rest link left own onward cost walks few ends leads within is =
    let whole = sum_by-cons f.cost link rest in
    elim (walks-first f node path link rest walks) [
      | inl (none, goal) ↦ omega (arith, whole, ends goal, within, is)
      | inr on ↦
          let router = (and_parts (is_router (f.to link)) _ on.new).0 in
          omega (
            arith,
            whole,
            leads router (path ++ link ∷ []) rest on.walks few,
            within,
            is,
          )
    ]

-- Interfaces that are one have one number.
abbrev number-of : Node → ℕ
number-of (Ni n) = n.0
number-of (Router r) = 0

-- A link to an interface that isn't the goal leads no further.
pub over-away : (f : Field) (link : LinkId) (ni goal : NiId) (left cost : ℕ) → f.to link ≡ Ni ni
    → f.goal ≡ Ni goal → (ni.0 ≡ goal.0 → ⊥) → OverCosts f link left cost
over-away f link ni goal left cost ends is other node path rest walks few =
    elim (walks-first f node path link rest walks) [
      | inl (none, at) ↦ absurd (other (ap number-of (sym ends ∙ at ∙ is)))
      | inr on ↦ absurd (false≢true (sym (ap is_router ends)
          ∙ (and_parts (is_router (f.to link)) _ on.new).0))
    ]

-- A link to a router costs its own cost and what leads on.
pub over-router : (f : Field) (link : LinkId) (r : RouterId) (goal : NiId) (left own onward cost : ℕ)
    → f.to link ≡ Router r → f.goal ≡ Ni goal
    → ((path : List LinkId) → CostsAtLeast f (Router r) path left onward)
    → own ≤ f.cost link → cost ≤ onward + own → OverCosts f link left cost
over-router f link r goal left own onward cost ends is leads within sum node path rest walks few =
    over-least f node path rest link left own onward cost walks few
    (λ at. let never : Router r ≡ Ni goal = sym ends ∙ at ∙ is in absurd (cc never))
    (λ router longer. subst (λ (n : Node). CostsAtLeast f n longer left onward) (sym ends)
    (leads longer))
    within sum

-- A link to a router from which nothing leads on in time.
pub over-none : (f : Field) (link : LinkId) (r : RouterId) (goal : NiId) (left cost : ℕ)
    → f.to link ≡ Router r → f.goal ≡ Ni goal → NoneWalks f (Router r) left
    → OverCosts f link left cost
over-none f link r goal left cost ends is none node path rest walks few =
    elim (walks-first f node path link rest walks) [
      | inl (nothing, at) ↦
          let never : Router r ≡ Ni goal = sym ends ∙ at ∙ is in
          absurd (cc never)
      | inr on ↦
          let stands : passes f.to (path ++ link ∷ []) (Router r) ≡ true =
          passes-push f.to path link (Router r)
          ∙ or_right (passes f.to path (Router r)) _
          (subst (λ (n : Node). same_node n (Router r) ≡ true) (sym ends)
          (same_node-refl (Router r))) in
          absurd (none (path ++ link ∷ []) rest stands
          (subst (λ (n : Node). Walks f n (path ++ link ∷ []) rest) ends on.walks) few)
    ]

-- What leads on from a node over its links.
pub lowest-over : (f : Field) (node : Node) (links : List LinkId) (left lowest i : ℕ)
    → f.leaving node ≡ links → length links ≤ i
    → ((k : ℕ) (link : LinkId) → k < i → slice_get links k ≡ Some link
    → OverCosts f link (left - 1) lowest)
    → (path : List LinkId) → CostsAtLeast f node path left lowest
lowest-over f node links left lowest i leaves all each path [] walks few =
    walks-none f node path walks
lowest-over f node links left lowest i leaves all each path (link ∷ rest) walks few =
    let (k, within, at) = subst (λ (ls : List LinkId). Contains ls link) leaves walks.joined.0 in
    each k link (omega (arith, within, all)) (slice_get-get_or links k link within ∙ ap Some at) node
    path rest walks (omega (arith, few))

-- Links by their numbers are the links.
numbered : (links : List LinkId)
    → map (λ n. record { 0 = n }) (map (λ (link : LinkId). link.0) links) ≡ links
numbered [] = refl
numbered (link ∷ links) = ap (λ (ls : List LinkId). link ∷ ls) (numbered links)

-- A link of a router's list is one that leaves it.
pub same-links : (links : List LinkId) (numbers : List ℕ)
    → map (λ (link : LinkId). link.0) links ≡ numbers
    → map (λ n. record { 0 = n }) numbers ≡ links
same-links links numbers is =
    ap (map (λ n. record { 0 = n })) (sym is) ∙ numbered links

-- The paths that go on over a link to a new router cost at least its cost and what leads on.
pub paths-cost : (f : Field) (path : List LinkId) (link : LinkId) (before own onward cost left : ℕ)
    → turn_of f path link ≡ Goes → before ≡ sum_by f.cost path → own ≤ f.cost link
    → f.most ≤ length path + 1 + left
    → (is_router (f.to link) ≡ true → (longer : List LinkId)
    → CostsAtLeast f (f.to link) longer left onward)
    → cost ≤ before + own + onward
    → PathsCost f (f.to link) (path ++ link ∷ []) cost
paths-cost f path link before own onward cost left goes is within room leads sum rest walks fits =
    let router = (and_parts (is_router (f.to link)) _ (turn-goes f path link goes)).0 in
    omega (
      arith,
      sum,
      is,
      within,
      sum_by-append f.cost path (link ∷ []),
      sum_by-cons f.cost link [],
      leads router (path ++ link ∷ []) rest walks (omega (
        arith,
        room,
        fits,
        length-append path (link ∷ []),
      )),
    )
