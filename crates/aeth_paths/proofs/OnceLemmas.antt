-- Lists of interfaces, each once: a further one that stands in the list before adds nothing.
use Rattle.std.proofs.Common.{◌≡◌, ◌∙◌, ◌+◌, ◌<◌, ◌≤◌, ◌++◌, ℕ, suc, All, Bool, true, false, cond}
use Rattle.std.proofs.Common.{◌||◌, List, [], ◌∷◌, Contains, filter, not, eqb, get_or, length, take}
use Rattle.std.proofs.Common.{sym, ap, subst, inl, inr, arith, refl, sum_by, eq-eqb, eqb-true}
use Rattle.std.proofs.Common.{ne_eqb, append-nil}
use Rattle.std.proofs.lemmas.Bool.{cases_Bool, false≢true, or_from}
use Rattle.std.proofs.lemmas.List.{take_more, Elements.All-push, Elements.All-weaker}
use Rattle.std.proofs.lemmas.List.{Elements.filter-append, Sums.sum_by-append, Sums.sum_by-cons}
use Rattle.std.specs.List.{list_any}
use Rattle.aeth_base.specs.declared.ids.NiId.{NiId}
use Rattle.aeth_group.proofs.ListLemmas.{passes_from_any}
use Rattle.aeth_paths.specs.Open.{each_once}

-- Whether an interface is in a list.
abbrev pub stands_in : List NiId → NiId → Bool
stands_in ns n = list_any (λ (m : NiId). eqb m.0 n.0) ns

-- Whether it is another one.
abbrev differs : NiId → NiId → Bool
differs k m = not (eqb m.0 k.0)

-- One that isn't in the list stands behind those of the list; one that is adds nothing.
once-new : (ns : List NiId) (n : NiId) → stands_in ns n ≡ false
    → each_once (ns ++ n ∷ []) ≡ each_once ns ++ n ∷ []
once-new [] n new = refl
once-new (k ∷ ns) n new = elim (cases_Bool (eqb k.0 n.0)) [
  | inl same ↦ absurd (false≢true (sym new ∙ ap (λ b. b || stands_in ns n) same))
  | inr other ↦
      let rest : stands_in ns n ≡ false = sym (ap (λ b. b || stands_in ns n) other) ∙ new in
      let apart : eqb n.0 k.0 ≡ false =
      ne_eqb n.0 k.0 (λ is. false≢true (sym other ∙ eq-eqb k.0 n.0 (sym is))) in
      ap (λ (ms : List NiId). k ∷ filter (differs k) ms) (once-new ns n rest)
      ∙ ap (λ (ms : List NiId). k ∷ ms) (filter-append (differs k) (each_once ns) (n ∷ [])
      ∙ ap (λ b. filter (differs k) (each_once ns) ++ cond (not b) (n ∷ []) []) apart)
]

once-old : (ns : List NiId) (n : NiId) → stands_in ns n ≡ true
    → each_once (ns ++ n ∷ []) ≡ each_once ns
once-old [] n old = absurd (false≢true old)
once-old (k ∷ ns) n old = elim (cases_Bool (stands_in ns n)) [
  | inl later ↦ ap (λ (ms : List NiId). k ∷ filter (differs k) ms) (once-old ns n later)
  | inr not_later ↦ elim (cases_Bool (eqb k.0 n.0)) [
    | inl same ↦
        let here : eqb n.0 k.0 ≡ true = eq-eqb n.0 k.0 (sym (eqb-true k.0 n.0 same)) in
        ap (λ (ms : List NiId). k ∷ filter (differs k) ms) (once-new ns n not_later)
        ∙ ap (λ (ms : List NiId). k ∷ ms) (filter-append (differs k) (each_once ns) (n ∷ [])
        ∙ ap (λ b. filter (differs k) (each_once ns) ++ cond (not b) (n ∷ []) []) here
        ∙ append-nil (filter (differs k) (each_once ns)))
    | inr other ↦ absurd (false≢true (sym not_later
        ∙ sym (ap (λ b. b || stands_in ns n) other) ∙ old))
  ]
]

-- One more interface of a list, of which another number is summed up.
module _ (g : NiId → ℕ) (ns : List NiId) (i : ℕ) (d : NiId) (within : i < length ns) where
  pub sum-new : stands_in (take i ns) (get_or ns i d) ≡ false
      → sum_by g (each_once (take (i + 1) ns))
      ≡ sum_by g (each_once (take i ns)) + g (get_or ns i d)
  sum-new new =
      let n : NiId = get_or ns i d in
      let one : sum_by g (n ∷ []) ≡ g n = sum_by-cons g n [] ∙ omega arith in
      ap (λ ms. sum_by g (each_once ms)) (take_more ns i d within)
      ∙ ap (sum_by g) (once-new (take i ns) n new)
      ∙ sum_by-append g (each_once (take i ns)) (n ∷ [])
      ∙ ap (λ k. sum_by g (each_once (take i ns)) + k) one

  pub sum-old : stands_in (take i ns) (get_or ns i d) ≡ true
      → sum_by g (each_once (take (i + 1) ns)) ≡ sum_by g (each_once (take i ns))
  sum-old old =
      ap (λ ms. sum_by g (each_once ms)) (take_more ns i d within)
      ∙ ap (sum_by g) (once-old (take i ns) (get_or ns i d) old)

-- A list of interfaces below a number has none that isn't.
pub none_below : (ns : List NiId) (below : ℕ) (n : NiId) → All (λ m. m.0 < below) ns → below ≤ n.0
    → stands_in ns n ≡ false
none_below [] below n all past = refl
none_below (k ∷ ns) below n all past =
    let first : k.0 < below = all 0 k (omega arith) in
    or_from _ _ (ne_eqb k.0 n.0 (λ same. absurd (omega (arith, first, same, past))))
    (none_below ns below n (λ i d within. all (suc i) d (omega arith)) past)

-- A number that one more interface is below too.
pub below_more : (ns : List NiId) (i : ℕ) (d : NiId) (below next : ℕ) → i < length ns
    → All (λ (m : NiId). m.0 < below) (take i ns) → below ≤ next → (get_or ns i d).0 < next
    → All (λ (m : NiId). m.0 < next) (take (i + 1) ns)
below_more ns i d below next within all less one =
    subst (All (λ (m : NiId). m.0 < next)) (sym (take_more ns i d within))
    (All-push (λ (m : NiId). m.0 < next) (take i ns) (get_or ns i d)
    (All-weaker (λ (m : NiId). m.0 < below) (λ (m : NiId). m.0 < next)
    (λ m low. omega (arith, low, less)) (take i ns) all) one)

-- One that is in a list is an element of it.
pub stands-Contains : (ns : List NiId) (n : NiId) → stands_in ns n ≡ true → Contains ns n
stands-Contains ns n found =
    let one = passes_from_any (λ (m : NiId). eqb m.0 n.0) ns found in
    let same : one.item ≡ n = ap (λ k. record { 0 = k }) (eqb-true one.item.0 n.0 one.passes) in
    subst (Contains ns) same one.is_in
