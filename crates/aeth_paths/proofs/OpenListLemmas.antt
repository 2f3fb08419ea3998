-- The bound on steps counts, over all lists of links, the links that leave the ends of the open
-- ones.
use Rattle.std.proofs.Common.{◌≡◌, ◌∙◌, ◌+◌, ◌++◌, ◌&&◌, ℕ, zero, suc, Bool, true, false, cond}
use Rattle.std.proofs.Common.{List, [], ◌∷◌, Option, Some, filter, length, map, slice_get, refl}
use Rattle.std.proofs.Common.{sym, ap, arith, inl, inr, zero-add, sum_by, append-nil, append_assoc}
use Rattle.std.proofs.lemmas.{Bool.cases_Bool, List.length_push, List.Concat.flat_map-cons}
use Rattle.std.proofs.lemmas.{List.Sums.sum_by-append, List.Sums.sum_by-cons}
use Rattle.std.specs.List.{flat_map, range_with_len}
use Rattle.aeth_base.{specs.Limits.max_path_links, specs.declared.ids.LinkId.LinkId}
use Rattle.aeth_base.{specs.declared.ids.NiId.NiId, proofs.Lists.sum_by-map}
use Rattle.aeth_chip.specs.{Joined.end_of, LeastDistance.link_ids, Nodes.begins_at}
use Rattle.aeth_chip.specs.{Nodes.numbers_from, PathTests.link_passes, declared.node.Link.Link}
use Rattle.aeth_chip.specs.{declared.node.Node.Node, declared.node.Node.TheVariants.Ni}
use Rattle.aeth_book.specs.Book.{BookData}
use Rattle.aeth_paths.specs.{declared.request.Request.Request, Open.is_open, Open.open_steps}
use Rattle.aeth_paths.specs.{OpenLists.goes_on, OpenLists.leaves_from, OpenLists.leaving_links}
use Rattle.aeth_paths.specs.{OpenLists.lists_below, Search.Field, Search.is_new, Task.field}
use Rattle.aeth_paths.specs.{Task.links_from}
use Rattle.aeth_paths.proofs.StepLemmas.{steps_over}

-- ---- sums

module _ {X : Type 0} where
  sum-flat_map : {Y : Type 0} (g : Y → ℕ) (h : X → List Y) (xs : List X)
      → sum_by g (flat_map h xs) ≡ sum_by (λ x. sum_by g (h x)) xs
  sum-flat_map g h [] = refl
  sum-flat_map g h (x ∷ xs) =
      ap (sum_by g) (flat_map-cons h x xs) ∙ sum_by-append g (h x) (flat_map h xs)
      ∙ ap (λ n. sum_by g (h x) + n) (sum-flat_map g h xs)
      ∙ sym (sum_by-cons (λ y. sum_by g (h y)) x xs)

  sum-same : (g h : X → ℕ) → ((x : X) → g x ≡ h x) → (xs : List X) → sum_by g xs ≡ sum_by h xs
  sum-same g h same [] = refl
  sum-same g h same (x ∷ xs) =
      let first = same x in let rest = sum-same g h same xs in
      omega (arith, sum_by-cons g x xs, sum_by-cons h x xs, first, rest)

  sum-none : (xs : List X) → sum_by (λ x. 0) xs ≡ 0
  sum-none [] = refl
  sum-none (x ∷ xs) =
      let rest = sum-none xs in omega (arith, sum_by-cons (λ (y : X). 0) x xs, rest)

  -- The sum over those that pass.
  sum-filter : (test : X → Bool) (g : X → ℕ) (xs : List X)
      → sum_by (λ x. cond (test x) (g x) 0) xs ≡ sum_by g (filter test xs)
  sum-filter test g [] = refl
  sum-filter test g (x ∷ xs) =
      let cases : (b : Bool) → cond b (g x) 0 + sum_by g (filter test xs)
      ≡ sum_by g (cond b (x ∷ filter test xs) (filter test xs)) =
      elim [
        | true ↦ sym (sum_by-cons g x (filter test xs))
        | false ↦ zero-add (sum_by g (filter test xs))
      ] in
      sum_by-cons (λ y. cond (test y) (g y) 0) x xs
      ∙ ap (λ n. cond (test x) (g x) 0 + n) (sum-filter test g xs) ∙ cases (test x)

  -- A sum of which two tests decide.
  sum-where : (a b : Bool) (g : X → ℕ) (xs : List X)
      → sum_by (λ x. cond a (cond b (g x) 0) 0) xs ≡ cond a (cond b (sum_by g xs) 0) 0
  sum-where true true g xs = refl
  sum-where true false g xs = sum-none xs
  sum-where false b g xs = sum-none xs

put-two : (a b c d : Bool) (n : ℕ)
    → cond (a && b && c && d) n 0 ≡ cond a (cond b (cond (c && d) n 0) 0) 0
put-two true true c d n = refl
put-two true false c d n = refl
put-two false b c d n = refl

-- ---- the links that leave a node

abbrev link_at : ℕ → LinkId
link_at n = record { 0 = n }

at-end : (before links : List Link) (link : Link)
    → slice_get (before ++ link ∷ links) (length before) ≡ Some link
at-end [] links link = refl
at-end (x ∷ before) links link = at-end before links link

numbered : (test : Link → Bool) (before links : List Link)
    → map link_at (numbers_from (length before) test links)
    ≡ filter (λ (l : LinkId). link_passes test (slice_get (before ++ links) l.0))
    (map link_at (range_with_len (length before) (length links)))
numbered test before [] = refl
numbered test before (link ∷ links) =
    let longer = numbered test (before ++ link ∷ []) links in
    let rest = rw (length_push before link, append_assoc before (link ∷ []) links) at longer in
    elim (cases_Bool (test link)) [
      | inl is ↦ rw (at-end before links link, is) (ap (λ ls. link_at (length before) ∷ ls) rest)
      | inr isnt ↦ rw (at-end before links link, isnt) rest
    ]

-- Those that leave a node are the links of the chip that pass the test.
leaving-filter : (links : List Link) (node : Node)
    → links_from links node ≡ filter (leaves_from links node) (link_ids links)
leaving-filter links node = numbered (begins_at node) [] links

-- ---- the count

module _ (links : List Link) (f : Field)
    (leaving : (node : Node) → f.leaving node ≡ filter (leaves_from links node) (link_ids links))
    (least : Node → Option ℕ) where
  abbrev ids : List LinkId
  ids = link_ids links

  -- What lists that begin with a link count is what those count that go on from it.
  step : (left : ℕ) (node : Node) (path : List LinkId)
      → ((n : Node) (p : List LinkId) → open_steps f least left n p
      ≡ sum_by (leaving_links links f least n p) (lists_below left ids))
      → (x : LinkId)
      → sum_by (λ rest. leaving_links links f least node path (x ∷ rest)) (lists_below left ids)
      ≡ cond (leaves_from links node x) (steps_over f least left path x) 0
  step left node path rest x =
      let longer : List LinkId = path ++ x ∷ [] in
      let on : List LinkId → ℕ = leaving_links links f least (f.to x) longer in
      let leaves = leaves_from links node x in
      let new = is_new f path (f.to x) in
      sum-same (λ ys. leaving_links links f least node path (x ∷ ys))
      (λ ys. cond leaves (cond new (on ys) 0) 0)
      (λ ys. put-two leaves new (goes_on links f (f.to x) longer ys)
      (is_open f least (end_of f.to (f.to x) ys) (path ++ x ∷ ys))
      (length (f.leaving (end_of f.to (f.to x) ys)))
      ∙ ap (λ p. cond leaves (cond new (cond (goes_on links f (f.to x) longer ys
      && is_open f least (end_of f.to (f.to x) ys) p)
      (length (f.leaving (end_of f.to (f.to x) ys))) 0) 0) 0)
      (sym (append_assoc path (x ∷ []) ys))) (lists_below left ids)
      ∙ sum-where leaves new on (lists_below left ids)
      ∙ ap (λ n. cond leaves (cond new n 0) 0) (sym (rest (f.to x) longer))

  pub counted : (left : ℕ) (node : Node) (path : List LinkId)
      → open_steps f least left node path
      ≡ sum_by (leaving_links links f least node path) (lists_below left ids)
  unfolding open_steps
  counted zero node path = refl
  counted (suc left) node path =
      let over = leaving_links links f least node path in
      let some : List (List LinkId) =
      flat_map (λ x. map (λ rest. x ∷ rest) (lists_below left ids)) ids in
      let here : over [] ≡ cond (is_open f least node path) (length (f.leaving node)) 0 =
      ap (λ p. cond (is_open f least node p) (length (f.leaving node)) 0) (append-nil path) in
      let behind : sum_by over some ≡ sum_by (steps_over f least left path) (f.leaving node) =
      sum-flat_map over (λ x. map (λ rest. x ∷ rest) (lists_below left ids)) ids
      ∙ sum-same _ _ (λ x. sum_by-map over (λ rest. x ∷ rest) (lists_below left ids)
      ∙ step left node path (counted left) x) ids
      ∙ sum-filter (leaves_from links node) (steps_over f least left path) ids
      ∙ ap (sum_by (steps_over f least left path)) (sym (leaving node)) in
      sym (sum_by-cons over [] some ∙ ap (λ n. n + sum_by over some) here
      ∙ ap (λ n. cond (is_open f least node path) (length (f.leaving node)) 0 + n) behind)

-- The steps from an interface are those over all lists of fewer links than a path may have.
pub open_steps-counted : (book : BookData) (prices : List ℕ) (ask : Request) (a b : NiId) (most : ℕ)
    (least : Node → Option ℕ)
    → open_steps (field book prices ask b most) least max_path_links (Ni a) []
    ≡ sum_by (leaving_links book.links (field book prices ask b most) least (Ni a) [])
    (lists_below max_path_links (link_ids book.links))
open_steps-counted book prices ask a b most least =
    counted book.links (field book prices ask b most) (leaving-filter book.links) least
    max_path_links (Ni a) []
