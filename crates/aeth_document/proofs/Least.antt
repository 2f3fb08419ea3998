-- The least of some keys.
use Rattle.std.proofs.Common.{◌≡◌, ◌∙◌, sym, ap, ℕ, List, [], ◌∷◌, ◌++◌, map, fold, Option, Some}
use Rattle.std.proofs.Common.{None, Less, Equal, Greater, Ordering, nat_cmp, refl, inl, inr, String}
use Rattle.std.proofs.Common.{Global, string_bytes, append-nil}
use Rattle.std.proofs.lemmas.{Bool.cases_Bool, List.Sums.fold-append, Option.same_Some}
use Rattle.std.proofs.lemmas.{Cmp.nat_list_cmp_total}
use Rattle.std.specs.{List.AllByRecursion, List.Sorted.IsStrictlySortedBy}
use Rattle.std.specs.{Cmp.Lexicographic.slice_cmp, Map.keys_of, String.string_cmp}
use Rattle.toml.specs.{View.members_view, declared.value.Value.Value, Data.Data}
use Rattle.aeth_document.specs.Keys.{Fields, lesser, misfit_keys, first_of, is_expected, least}
use Rattle.aeth_document.specs.Keys.{entries_of}

-- The key comes before each of these.
abbrev pub IsBelow : List ℕ → List (List ℕ) → Type 0
IsBelow k ks = AllByRecursion (λ y. slice_cmp nat_cmp k y ≡ Less) ks

not_below : (b k : List ℕ) → slice_cmp nat_cmp b k ≡ Less → lesser (Some b) k ≡ Some b
not_below b k h = rw (nat_list_cmp_total.antisymm k b, h)

pub fold_lesser-IsBelow : (b : List ℕ) (ks : List (List ℕ)) → IsBelow b ks
    → fold lesser (Some b) ks ≡ Some b
fold_lesser-IsBelow b [] h = refl
fold_lesser-IsBelow b (k ∷ ks) h = ap (λ x. fold lesser x ks) (not_below b k h.0)
    ∙ fold_lesser-IsBelow b ks h.1

-- Fewer keys are below too.
pub IsBelow-misfit_keys : (fields : Fields) (b : List ℕ) (es : List (List ℕ × Data))
    → IsBelow b (map (λ e. e.0) es) → IsBelow b (misfit_keys fields es)
IsBelow-misfit_keys fields b [] h = tt
IsBelow-misfit_keys fields b (e ∷ es) h =
    elim (cases_Bool (is_expected fields e)) [
      | inl fits ↦ rw fits (IsBelow-misfit_keys fields b es h.1)
      | inr misfit ↦ rw misfit (h.0, IsBelow-misfit_keys fields b es h.1)
    ]

IsBelow-more : (b k : List ℕ) (ks : List (List ℕ)) → slice_cmp nat_cmp b k ≡ Less → IsBelow k ks
    → IsBelow b ks
IsBelow-more b k [] below h = tt
IsBelow-more b k (y ∷ ys) below h =
    (nat_list_cmp_total.trans b k y below h.0, IsBelow-more b k ys below h.1)

IsBelow-same : (b k : List ℕ) (ks : List (List ℕ)) → slice_cmp nat_cmp b k ≡ Equal → IsBelow k ks
    → IsBelow b ks
IsBelow-same b k [] same h = tt
IsBelow-same b k (y ∷ ys) same h =
    (nat_list_cmp_total.congr b k y same ∙ h.0, IsBelow-same b k ys same h.1)

-- A key, and then one that is below all others.
step_by : (o : Ordering) (b k : List ℕ) (ks : List (List ℕ)) → slice_cmp nat_cmp b k ≡ o
    → IsBelow k ks → fold lesser (lesser (Some b) k) ks ≡ lesser (Some b) k
step_by Less b k ks e h = rw (not_below b k e) (fold_lesser-IsBelow b ks (IsBelow-more b k ks e h))
step_by Equal b k ks e h =
    rw (nat_list_cmp_total.antisymm k b, e) (fold_lesser-IsBelow b ks (IsBelow-same b k ks e h))
step_by Greater b k ks e h = rw (nat_list_cmp_total.antisymm k b, e) (fold_lesser-IsBelow k ks h)

pub fold_lesser-first : (best : Option (List ℕ)) (k : List ℕ) (ks : List (List ℕ)) → IsBelow k ks
    → fold lesser best (k ∷ ks) ≡ lesser best k
fold_lesser-first None k ks h = fold_lesser-IsBelow k ks h
fold_lesser-first (Some b) k ks h = step_by (slice_cmp nat_cmp b k) b k ks refl h

-- Where the keys ascend, the first misfit is the least.
pub least_misfit : (fields : Fields) (best : Option (List ℕ)) (es : List (List ℕ × Data))
    (k : List ℕ) → IsStrictlySortedBy (slice_cmp nat_cmp) (map (λ e. e.0) es)
    → first_of (misfit_keys fields es) ≡ Some k
    → fold lesser best (misfit_keys fields es) ≡ lesser best k
unfolding IsStrictlySortedBy
least_misfit fields best [] k h e = absurd (cc e)
least_misfit fields best (x ∷ es) k h e =
    elim (cases_Bool (is_expected fields x)) [
      | inl fits ↦ rw fits (least_misfit fields best es k h.1 (rw fits at e))
      | inr misfit ↦
          let same : x.0 ≡ k = same_Some _ _ (rw misfit at e) in
          rw misfit (fold_lesser-first best x.0 (misfit_keys fields es)
          (IsBelow-misfit_keys fields x.0 es h.0) ∙ ap (lesser best) same)
    ]

pub least-append_misfits : (fields : Fields) (missing : List (List ℕ)) (es : List (List ℕ × Data))
    (k : List ℕ) → IsStrictlySortedBy (slice_cmp nat_cmp) (map (λ e. e.0) es)
    → Some k ≡ first_of (misfit_keys fields es)
    → lesser (least missing) k ≡ least (missing ++ misfit_keys fields es)
least-append_misfits fields missing es k h e =
    sym (fold-append lesser None missing (misfit_keys fields es)
    ∙ least_misfit fields (least missing) es k h (sym e))

above : (k : String Global) (es : List (String Global × Value))
    → AllByRecursion (λ y. string_cmp k y ≡ Less) (keys_of es)
    → IsBelow (string_bytes k) (map (λ e. e.0) (entries_of (members_view es)))
above k [] h = tt
above k (e ∷ es) h = (h.0, above k es h.1)

-- The keys of a table ascend.
pub ascending : (es : List (String Global × Value)) → IsStrictlySortedBy string_cmp (keys_of es)
    → IsStrictlySortedBy (slice_cmp nat_cmp) (map (λ e. e.0) (entries_of (members_view es)))
unfolding IsStrictlySortedBy
ascending [] h = tt
ascending (e ∷ es) h = (above e.0 es h.0, ascending es h.1)

-- Where no key fits badly, the least of the missing ones is the least of all.
pub least-append_none : (missing misfits : List (List ℕ)) → None ≡ first_of misfits
    → least (missing ++ misfits) ≡ least missing
least-append_none missing [] none = ap least (append-nil missing)
least-append_none missing (k ∷ ks) none = absurd (cc none)
