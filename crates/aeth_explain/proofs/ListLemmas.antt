-- Lists of links in the order of a dictionary: what is in them, the lists below a list, and what
-- of them are shortest cuts.
use Rattle.std.proofs.Common.{◌≡◌, ◌∙◌, ◌+◌, ◌-◌, ◌<◌, ◌≤◌, ◌++◌, ◌&&◌, ℕ, zero, suc, Bool, true}
use Rattle.std.proofs.Common.{false, not, List, [], ◌∷◌, length, map, take, Contains, refl, sym, ap}
use Rattle.std.proofs.Common.{subst, arith, append_assoc, length-append, append-nil}
use Rattle.std.proofs.Math.Seq.{take-append_seam}
use Rattle.std.proofs.lemmas.List.Concat.{flat_map-cons}
use Rattle.std.specs.List.{flat_map, range_with_len}
use Rattle.aeth_base.specs.declared.ids.LinkId.{LinkId}
use Rattle.aeth_base.proofs.Members.{Contains-flat_map, Contains-here, Contains-map, Contains-there}
use Rattle.aeth_base.proofs.Ranges.{Contains-range}
use Rattle.aeth_group.{proofs.ListLemmas.any_from_passes, specs.Members.GroupsData}
use Rattle.aeth_chip.specs.{Chip.ChipData, Paths.to_of, declared.node.Link.Link}
use Rattle.aeth_chip.specs.{declared.node.Node.Node, declared.node.Node.TheVariants.Router}
use Rattle.aeth_chip.specs.{declared.node.Node.TheVariants.Ni}
use Rattle.aeth_paths.specs.{Task.links_from, Trials.TrialData}
use Rattle.aeth_explain.specs.TryPaths.{is_dead, onward_lists}
use Rattle.aeth_explain.specs.Certificate.{goes_on, is_first_cut, shorter_fronts}

-- Links that go on from a node through routers.
abbrev pub GoesOn : List Link → Node → List LinkId → Type 0
GoesOn links node [] = Unit {0}
GoesOn links (Ni ni) (link ∷ rest) = ⊥
GoesOn links (Router router) (link ∷ rest) =
    Contains (links_from links (Router router)) link × GoesOn links (to_of links link) rest

-- The lists that begin with a link.
abbrev pub behind_link : List Link → ℕ → LinkId → List (List LinkId)
behind_link links most link = map (λ rest. link ∷ rest) (onward_lists links most (to_of links link))

-- Such links are among the lists that go on from the node.
pub onward-has : (links : List Link) (most : ℕ) (node : Node) (rest : List LinkId)
    → length rest ≤ most → GoesOn links node rest → Contains (onward_lists links most node) rest
unfolding onward_lists
onward-has links zero node [] few goes = Contains-here [] []
onward-has links (suc most) (Ni ni) [] few goes = Contains-here [] []
onward-has links (suc most) (Router router) [] few goes =
    Contains-here [] (flat_map (behind_link links most) (links_from links (Router router)))
onward-has links zero node (link ∷ rest) few goes = absurd (omega (arith, few))
onward-has links (suc most) (Ni ni) (link ∷ rest) few goes = absurd goes
onward-has links (suc most) (Router router) (link ∷ rest) few goes =
    Contains-there [] (flat_map (behind_link links most) (links_from links (Router router)))
    (link ∷ rest)
    (Contains-flat_map (behind_link links most) (links_from links (Router router)) link
    (link ∷ rest) goes.0
    (Contains-map (λ rest. link ∷ rest) (onward_lists links most (to_of links link)) rest
    (onward-has links most (to_of links link) rest (omega (arith, few)) goes.1)))

-- ---- the lists below a list

-- Lists behind a list that goes on over one link.
over_link : (path : List LinkId) (link : LinkId) (lists : List (List LinkId))
    → map (λ rest. path ++ rest) (map (λ rest. link ∷ rest) lists)
    ≡ map (λ rest. (path ++ link ∷ []) ++ rest) lists
over_link path link [] = refl
over_link path link (rest ∷ lists) =
    ap (λ first. first ∷ map (λ rest. path ++ rest) (map (λ rest. link ∷ rest) lists))
    (sym (append_assoc path (link ∷ []) rest))
    ∙ ap (λ others. ((path ++ link ∷ []) ++ rest) ∷ others) (over_link path link lists)

map-append : {X Y : Type 0} (f : X → Y) (xs ys : List X) → map f (xs ++ ys) ≡ map f xs ++ map f ys
map-append f [] ys = refl
map-append f (x ∷ xs) ys = ap (λ rest. f x ∷ rest) (map-append f xs ys)

over_links : (links : List Link) (most : ℕ) (path : List LinkId) (out : List LinkId)
    → map (λ rest. path ++ rest) (flat_map (behind_link links most) out)
    ≡ flat_map (λ link. map (λ rest. (path ++ link ∷ []) ++ rest)
    (onward_lists links most (to_of links link))) out
over_links links most path [] = refl
over_links links most path (link ∷ out) =
    ap (map (λ rest. path ++ rest)) (flat_map-cons (behind_link links most) link out)
    ∙ map-append (λ rest. path ++ rest) (behind_link links most link)
    (flat_map (behind_link links most) out)
    ∙ ap (λ front. front ++ map (λ rest. path ++ rest) (flat_map (behind_link links most) out))
    (over_link path link (onward_lists links most (to_of links link)))
    ∙ ap (λ back. map (λ rest. (path ++ link ∷ []) ++ rest)
    (onward_lists links most (to_of links link)) ++ back)
    (over_links links most path out)
    ∙ sym (flat_map-cons (λ link. map (λ rest. (path ++ link ∷ []) ++ rest)
    (onward_lists links most (to_of links link))) link out)

-- The lists below a list that ends at a router: itself, and those below it with each outgoing link.
pub lists-step : (links : List Link) (most : ℕ) (node : Node) (path : List LinkId)
    (out : List LinkId)
    → onward_lists links (suc most) node ≡ [] ∷ flat_map (behind_link links most) out
    → map (λ rest. path ++ rest) (onward_lists links (suc most) node)
    ≡ path ∷ flat_map (λ link. map (λ rest. (path ++ link ∷ []) ++ rest)
    (onward_lists links most (to_of links link))) out
lists-step links most node path out is =
    ap (map (λ rest. path ++ rest)) is
    ∙ ap (λ first. first ∷ map (λ rest. path ++ rest) (flat_map (behind_link links most) out))
    (append-nil path)
    ∙ ap (λ others. path ∷ others) (over_links links most path out)

-- ---- what is put down below a dead list

-- A shorter front of a list is among its shorter fronts.
pub front-among : (n : ℕ) (list : List LinkId) → 1 ≤ n → n < length list
    → Contains (shorter_fronts list) (take n list)
front-among n list some below =
    let same : (n - 1) + 1 ≡ n = omega (arith, some) in
    subst (λ k. Contains (shorter_fronts list) (take k list)) same
    (Contains-map (λ k. take (k + 1) list) (range_with_len 0 (length list - 1)) (n - 1)
    (Contains-range 0 (length list - 1) (n - 1) (omega arith) (omega (arith, some, below))))

module _ (chip : ChipData) (groups : GroupsData) (trial : TrialData) where
  -- No list that goes on from a dead one is a shortest cut.
  pub dead-passed : (path rest : List LinkId) → 1 ≤ length path → 1 ≤ length rest
      → is_dead chip groups trial path ≡ true
      → is_first_cut chip groups trial (path ++ rest) ≡ false
  dead-passed path rest some more dead =
      let sum = length-append path rest in
      let front = subst (Contains (shorter_fronts (path ++ rest))) (take-append_seam path rest)
      (front-among (length path) (path ++ rest) some (omega (arith, sum, more))) in
      let found = any_from_passes (is_dead chip groups trial) (shorter_fronts (path ++ rest)) path
      front dead in
      let go : (whole goes : Bool) → ((whole && false) && goes) ≡ false =
      elim [ true ↦ λ goes. refl | false ↦ λ goes. refl ]
      in ap (λ b. (is_dead chip groups trial (path ++ rest) && not b) && goes_on chip groups trial
      (path ++ rest)) found
      ∙ go (is_dead chip groups trial (path ++ rest)) (goes_on chip groups trial (path ++ rest))
