-- The first open path of some lists: of lists one after another, and of those below a list.
use Rattle.std.proofs.Common.{◌<◌, arith, length, ◌≡◌, ◌∙◌, ◌+◌, ◌++◌, ◌&&◌, ℕ, zero, suc, Bool}
use Rattle.std.proofs.Common.{true, false, not, List, [], ◌∷◌, Option, None, Some, filter, take}
use Rattle.std.proofs.Common.{drop, eqb, refl, sym, ap, slice_get, append-nil, take-append-drop}
use Rattle.std.proofs.Math.Bool.{and-false}
use Rattle.std.proofs.lemmas.{Bool.and_from, Bool.and_parts, Grind.flat_map-append}
use Rattle.std.proofs.lemmas.{List.Elements.filter-append}
use Rattle.std.specs.List.{flat_map}
use Rattle.aeth_base.proofs.{Filters.filter-all_fail, Filters.filter-no, Filters.filter-yes}
use Rattle.aeth_base.proofs.{Lists.drop-slice_get, Lists.take-slice_get, Members.map-Contains}
use Rattle.aeth_base.specs.declared.ids.{LinkId.LinkId, NiId.NiId, RouterId.RouterId}
use Rattle.aeth_chip.specs.Chip.{ChipData}
use Rattle.aeth_chip.specs.Paths.{to_of}
use Rattle.aeth_chip.specs.declared.node.Node.{Node, TheVariants.Ni, TheVariants.Router}
use Rattle.aeth_group.proofs.ListLemmas.{any_from_passes, passes_from_any}
use Rattle.aeth_paths.specs.{Trials.TrialData, Task.links_from}
use Rattle.aeth_explain.specs.{Cuts.begins_with, Fronts.first_open, Fronts.lists_below}
use Rattle.aeth_explain.specs.{TryPaths.may_take, TryPaths.onward_lists, Verdict.is_covered}
use Rattle.aeth_explain.specs.{Verdict.is_open}
use Rattle.aeth_explain.proofs.ListLemmas.{lists-step}

-- ---- the first that passes

-- The first that passes a test, if one does.
abbrev pub first_of : {A : Type 0} → (A → Bool) → List A → Option A
first_of test xs = slice_get (filter test xs) 0

some-then : {A : Type 0} (xs ys : List A) (x : A) → slice_get xs 0 ≡ Some x
    → slice_get (xs ++ ys) 0 ≡ Some x
some-then [] ys x at = absurd (cc at)
some-then (y ∷ xs) ys x at = at

none-then : {A : Type 0} (xs ys : List A) → slice_get xs 0 ≡ None
    → slice_get (xs ++ ys) 0 ≡ slice_get ys 0
none-then [] ys at = refl
none-then (x ∷ xs) ys at = absurd (cc at)

module _ {A : Type 0} (test : A → Bool) where
  -- Of lists one after another.
  pub first-some : (xs ys : List A) (x : A) → first_of test xs ≡ Some x
      → first_of test (xs ++ ys) ≡ Some x
  first-some xs ys x at =
      ap (λ zs. slice_get zs 0) (filter-append test xs ys)
      ∙ some-then (filter test xs) (filter test ys) x at

  pub first-none : (xs ys : List A) → first_of test xs ≡ None
      → first_of test (xs ++ ys) ≡ first_of test ys
  first-none xs ys at =
      ap (λ zs. slice_get zs 0) (filter-append test xs ys)
      ∙ none-then (filter test xs) (filter test ys) at

  module _ {X : Type 0} (f : X → List A) (xs : List X) where
    -- The lists of one more.
    pub one-more : (i : ℕ) (x : X) → slice_get xs i ≡ Some x
        → flat_map f (take (i + 1) xs) ≡ flat_map f (take i xs) ++ f x
    one-more i x at =
        ap (flat_map f) (take-slice_get xs i x at) ∙ flat_map-append f (take i xs) (x ∷ [])
        ∙ ap (λ ys. flat_map f (take i xs) ++ ys) (append-nil (f x))

    -- Where none passes in the lists so far nor in the next, none does in one more.
    pub first-next : (i : ℕ) (x : X) → slice_get xs i ≡ Some x
        → first_of test (flat_map f (take i xs)) ≡ None → first_of test (f x) ≡ None
        → first_of test (flat_map f (take (i + 1) xs)) ≡ None
    first-next i x at before now =
        ap (first_of test) (one-more i x at)
        ∙ first-none (flat_map f (take i xs)) (f x) before ∙ now

    -- Where one is first in the next, it is of all.
    pub first-found : (i : ℕ) (x : X) (y : A) → slice_get xs i ≡ Some x
        → first_of test (flat_map f (take i xs)) ≡ None → first_of test (f x) ≡ Some y
        → first_of test (flat_map f xs) ≡ Some y
    first-found i x y at before now =
        let here : first_of test (flat_map f (take (i + 1) xs)) ≡ Some y =
        ap (first_of test) (one-more i x at)
        ∙ first-none (flat_map f (take i xs)) (f x) before ∙ now in
        ap (λ ys. first_of test (flat_map f ys)) (sym (take-append-drop (i + 1) xs))
        ∙ ap (first_of test) (flat_map-append f (take (i + 1) xs) (drop (i + 1) xs))
        ∙ first-some (flat_map f (take (i + 1) xs)) (flat_map f (drop (i + 1) xs)) y here

-- ---- covered lists

-- One link after the other.
pub begins-step : (front path : List LinkId) (i : ℕ) (link first : LinkId)
    → slice_get front i ≡ Some link → slice_get path i ≡ Some first
    → begins_with (drop i front) (drop i path)
    ≡ (eqb link.0 first.0 && begins_with (drop (i + 1) front) (drop (i + 1) path))
begins-step front path i link first on its =
    ap (λ xs. begins_with xs (drop i path)) (drop-slice_get front i link on)
    ∙ ap (begins_with (link ∷ drop (i + 1) front)) (drop-slice_get path i first its)

-- No path begins with a longer list.
pub begins-long : (front path : List LinkId) → length path < length front
    → begins_with front path ≡ false
begins-long [] path long = absurd (omega (arith, long))
begins-long (link ∷ front) [] long = refl
begins-long (link ∷ front) (first ∷ path) long =
    let go : (b : Bool) → (b && false) ≡ false = elim [ true ↦ refl | false ↦ refl ] in
    ap (λ b. eqb link.0 first.0 && b) (begins-long front path (omega (arith, long)))
    ∙ go (eqb link.0 first.0)

begins-on : (front path rest : List LinkId) → begins_with front path ≡ true
    → begins_with front (path ++ rest) ≡ true
begins-on [] path rest is = refl
begins-on (link ∷ front) [] rest is = absurd (cc is)
begins-on (link ∷ front) (first ∷ path) rest is =
    let (same, later) = and_parts (eqb link.0 first.0) (begins_with front path) is in
    and_from _ _ same (begins-on front path rest later)

-- What goes on from a covered list is covered.
pub covered-on : (cuts : List (List LinkId)) (path rest : List LinkId)
    → is_covered cuts path ≡ true → is_covered cuts (path ++ rest) ≡ true
covered-on cuts path rest is =
    let found = passes_from_any (λ cut. begins_with cut path) cuts is in
    any_from_passes (λ cut. begins_with cut (path ++ rest)) cuts found.item found.is_in
    (begins-on found.item path rest found.passes)

-- ---- lists below a list

module _ (chip : ChipData) (trial : TrialData) (cuts : List (List LinkId)) where
  abbrev test : List LinkId → Bool
  test = is_open chip trial cuts

  -- Where nothing that goes on from a list is open, nothing below it is.
  pub none-below : (left : ℕ) (node : Node) (path : List LinkId)
      → ((rest : List LinkId) → test (path ++ rest) ≡ false)
      → first_open chip trial cuts (lists_below chip.links left node path) ≡ None
  none-below left node path fails =
      ap (λ ps. slice_get ps 0) (filter-all_fail test (lists_below chip.links left node path)
      (λ p has.
      let (rest, same, among) = map-Contains (λ rest. path ++ rest)
      (onward_lists chip.links left node) p has in
      ap test (sym same) ∙ fails rest))

  -- Nothing that goes on from a covered list is open.
  pub covered-closed : (path : List LinkId) → is_covered cuts path ≡ true → (rest : List LinkId)
      → test (path ++ rest) ≡ false
  covered-closed path is rest =
      ap (λ b. may_take chip trial (path ++ rest) && not b) (covered-on cuts path rest is)
      ∙ and-false (may_take chip trial (path ++ rest))

  -- Below an interface there is the list alone.
  pub below-ni : (left : ℕ) (ni : NiId) (path : List LinkId)
      → lists_below chip.links left (Ni ni) path ≡ path ∷ []
  unfolding onward_lists
  below-ni zero ni path = ap (λ p. p ∷ []) (append-nil path)
  below-ni (suc left) ni path = ap (λ p. p ∷ []) (append-nil path)

  -- Below a router, where no more links may follow, too.
  pub below-none : (node : Node) (path : List LinkId)
      → lists_below chip.links 0 node path ≡ path ∷ []
  unfolding onward_lists
  below-none node path = ap (λ p. p ∷ []) (append-nil path)

  -- Below a router there are the list and those below it with each outgoing link.
  pub below-router : (left : ℕ) (r : RouterId) (path : List LinkId)
      → lists_below chip.links (suc left) (Router r) path
      ≡ path ∷ flat_map (λ link. lists_below chip.links left (to_of chip.links link)
      (path ++ link ∷ [])) (links_from chip.links (Router r))
  unfolding onward_lists
  below-router left r path =
      lists-step chip.links left (Router r) path (links_from chip.links (Router r)) refl

  -- A list that isn't open isn't first.
  pub first-behind : (path : List LinkId) (lists : List (List LinkId)) → test path ≡ false
      → first_open chip trial cuts (path ∷ lists) ≡ first_open chip trial cuts lists
  first-behind path lists fails = ap (λ ps. slice_get ps 0) (filter-no test path lists fails)

  -- One that is, is.
  pub first-here : (path : List LinkId) (lists : List (List LinkId)) → test path ≡ true
      → first_open chip trial cuts (path ∷ lists) ≡ Some path
  first-here path lists passes = ap (λ ps. slice_get ps 0) (filter-yes test path lists passes)
