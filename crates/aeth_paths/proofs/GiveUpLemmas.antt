-- The three causes for which a list is given up: no path that goes on from it changes the best.
use Rattle.std.proofs.Common.{◌≡◌, ◌∙◌, ◌+◌, ◌<◌, ◌≤◌, ◌++◌, ℕ, Bool, true, false, cond, leb, List}
use Rattle.std.proofs.Common.{[], ◌∷◌, length, Contains, Option, Some, sym, refl, subst, arith}
use Rattle.std.proofs.Common.{length-append, sum_by, leb-true}
use Rattle.std.proofs.lemmas.Bool.{and_left, and_parts, and_right, cond-false, lt-leb}
use Rattle.std.proofs.lemmas.List.Sums.{sum_by-append, sum_by-cons}
use Rattle.aeth_base.specs.declared.ids.LinkId.{LinkId}
use Rattle.aeth_chip.specs.{Joined.IsJoined, declared.node.Node.Node}
use Rattle.aeth_paths.specs.{Least.PathsCost, Search.Field, Search.Walks, Search.better}
use Rattle.aeth_paths.specs.{Search.completions, Search.is_better, Search.is_candidate, Search.keep}
use Rattle.aeth_paths.specs.{Walk.GainsNothing, Walk.is_before}
use Rattle.aeth_paths.proofs.{FirstLemmas.first_from-stays, OrderLemmas.better-before}
use Rattle.aeth_paths.proofs.{WalkLemmas.completion-walks}

-- Each link that leaves a node costs something.
abbrev pub AllCost : Field → Type 0
AllCost f = (node : Node) (link : LinkId) → Contains (f.leaving node) link → 1 ≤ f.cost link

-- A path that is no candidate changes nothing.
keep-none : (f : Field) (best : Option (List LinkId)) (path : List LinkId)
    → is_candidate f path ≡ false → keep f best path ≡ best
keep-none f best path none = cond-false (is_candidate f path) (better f best path) best none

module _ (f : Field) (best : Option (List LinkId)) (node : Node) (path : List LinkId) where
  -- Where each list that walks on is no candidate, nothing is gained.
  gains-none : ((rest : List LinkId) → Walks f node path rest
      → keep f best (path ++ rest) ≡ best) → GainsNothing f best node path
  gains-none each left =
      first_from-stays f best (completions f left node path) (λ found has.
      let on = completion-walks f left node path found has in
      subst (λ (p : List LinkId). keep f best p ≡ best) (sym on.whole) (each on.rest on.walks))

  -- No path leads to the goal.
  pub nowhere-none : ((rest : List LinkId) → Walks f node path rest → ⊥)
      → GainsNothing f best node path
  nowhere-none never = gains-none (λ rest walks. absurd (never rest walks))

  -- The free starts are dead.
  pub dead-none : ((rest : List LinkId) → f.live (path ++ rest) ≡ false)
      → GainsNothing f best node path
  dead-none dead = gains-none (λ rest walks. keep-none f best (path ++ rest)
      (and_right (leb (length (path ++ rest)) f.most) (f.live (path ++ rest)) (dead rest)))

  -- The goal is too far.
  pub far-none : (more : ℕ) → ((rest : List LinkId) → Walks f node path rest → more ≤ length rest)
      → f.most < length path + more → GainsNothing f best node path
  far-none more near far = gains-none (λ rest walks. keep-none f best (path ++ rest)
      (and_left (leb (length (path ++ rest)) f.most) (f.live (path ++ rest))
      (lt-leb (length (path ++ rest)) f.most
      (omega (arith, length-append path rest, near rest walks)))))

-- Links that leave nodes cost at least as much as they are.
cost-length : (f : Field) (node : Node) (rest : List LinkId) → AllCost f
    → IsJoined (λ link from. Contains (f.leaving from) link) f.to node rest
    → length rest ≤ sum_by f.cost rest
cost-length f node [] costs joined = omega arith
cost-length f node (link ∷ rest) costs (has, joined) =
    omega (
      arith,
      costs node link has,
      sum_by-cons f.cost link rest,
      cost-length f (f.to link) rest costs joined,
    )

-- With a least number of links that are still needed, paths that go on cost at least as much as the
-- list and these links.
pub fewest-cost : (f : Field) (node : Node) (path : List LinkId) (more cost : ℕ) → AllCost f
    → ((rest : List LinkId) → Walks f node path rest → more ≤ length rest)
    → cost ≤ sum_by f.cost path + more → PathsCost f node path cost
fewest-cost f node path more cost costs near cheap rest walks fits =
    omega (arith, cheap, near rest walks, cost-length f node rest costs walks.joined)

-- Where no path that goes on comes before the best, nothing is gained.
beaten-none : (f : Field) (best : List LinkId) (node : Node) (path : List LinkId)
    → ((rest : List LinkId) → Walks f node path rest → length (path ++ rest) ≤ f.most
    → is_better f (path ++ rest) best ≡ false)
    → GainsNothing f (Some best) node path
beaten-none f best node path after =
    gains-none f (Some best) node path (λ rest walks.
    let go : (b : Bool) → is_candidate f (path ++ rest) ≡ b
    → cond b (cond (is_better f (path ++ rest) best) (Some (path ++ rest)) (Some best)) (Some best)
    ≡ Some best =
    elim [
      | true ↦ λ is. cond-false (is_better f (path ++ rest) best) (Some (path ++ rest)) (Some best)
          (after rest walks (leb-true (length (path ++ rest)) f.most
          (and_parts (leb (length (path ++ rest)) f.most) (f.live (path ++ rest)) is).0))
      | false ↦ λ is. refl
    ]
    in go (is_candidate f (path ++ rest)) refl)

-- With the least cost of the paths that go on, and with the links that are still needed, none of
-- these comes before the best.
pub outdone-none : (f : Field) (best : List LinkId) (node : Node) (path : List LinkId)
    (more cost links : ℕ)
    → ((rest : List LinkId) → Walks f node path rest → more ≤ length rest)
    → PathsCost f node path cost → links ≤ length path + more
    → ((its : ℕ) (rest : List LinkId) → cost ≤ its → links ≤ length (path ++ rest)
    → is_before its (path ++ rest) (sum_by f.cost best) best ≡ false)
    → GainsNothing f (Some best) node path
outdone-none f best node path more cost links near dear short outdone =
    beaten-none f best node path (λ rest walks fits.
    let long = near rest walks in
    better-before f (path ++ rest) best
    ∙ outdone (sum_by f.cost (path ++ rest)) rest
    (omega (
      arith,
      sum_by-append f.cost path rest,
      dear rest walks (omega (arith, length-append path rest, fits)),
    ))
    (omega (arith, length-append path rest, long)))
