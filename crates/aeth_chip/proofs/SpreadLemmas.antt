-- Laws of a step of the search: which places got a level, and how many have none.
use Rattle.std.proofs.Common.{◌≡◌, ◌⊎◌, ◌∙◌, ◌+◌, ◌<◌, ◌≤◌, ℕ, zero, suc, List, [], ◌∷◌, Option}
use Rattle.std.proofs.Common.{Some, None, length, get_or, slice_get, refl, sym, ap, subst, inl, inr}
use Rattle.std.proofs.Common.{arith, zero-add, ◌-◌, ◌/◌, ◌%◌, ◌^◌}
use Rattle.std.proofs.lemmas.Bool.{cases_eq, cases_lt}
use Rattle.std.proofs.lemmas.Option.{same_Some, slice_get-get_or}
use Rattle.std.specs.{Int.bit_at, List.slice_set}
use Rattle.aeth_base.proofs.Lists.{slice_get-slice_set_other, slice_get-slice_set_same}
use Rattle.aeth_chip.specs.Levels.{HasBit, HasLevel, MarksFrom, MarksLevel, half_places}
use Rattle.aeth_chip.proofs.MaskLemmas.{bit-cases, has-high, has-low, high-has, low-has}

-- How many places have no level.
abbrev pub count_none : List (Option ℕ) → ℕ
count_none [] = 0
count_none (None ∷ levels) = suc (count_none levels)
count_none (Some level ∷ levels) = count_none levels

-- A place has a level or none.
pub level-cases : (levels : List (Option ℕ)) (place : ℕ) → place < length levels
    → (slice_get levels place ≡ Some None) ⊎ ((k : ℕ) × HasLevel levels place k)
level-cases levels place within =
    let go : (o : Option ℕ) → get_or levels place None ≡ o
    → (slice_get levels place ≡ Some None) ⊎ ((k : ℕ) × HasLevel levels place k) =
    elim [
      | None ↦ λ is. inl (slice_get-get_or levels place None within ∙ ap Some is)
      | Some k ↦ λ is. inr (k, slice_get-get_or levels place None within ∙ ap Some is)
    ] in
    go (get_or levels place None) refl

-- No place has both.
pub level-apart : (levels : List (Option ℕ)) (place k : ℕ) → HasLevel levels place k
    → slice_get levels place ≡ Some None → ⊥
level-apart levels place k at none =
    let same : None ≡ Some k = same_Some None (Some k) (sym none ∙ at) in cc

-- A place has one level.
pub level-same : (levels : List (Option ℕ)) (place k n : ℕ) → HasLevel levels place k
    → HasLevel levels place n → k ≡ n
level-same levels place k n at is = same_Some k n (same_Some (Some k) (Some n) (sym at ∙ is))

-- Where places without a level got one, the others keep theirs.
pub marks-kept : (set level : ℕ) (old new : List (Option ℕ)) → MarksLevel set level old new
    → ((place : ℕ) → HasBit set place → slice_get old place ≡ Some None)
    → (place k : ℕ) → HasLevel old place k → HasLevel new place k
marks-kept set level old new marks none place k at = elim (bit-cases set place) [
  | inl one ↦ absurd (level-apart old place k at (none place one))
  | inr other ↦ marks.away place other ∙ at
]

-- A level is an old one or that of the set.
pub marks-cases : (set level : ℕ) (old new : List (Option ℕ)) → MarksLevel set level old new
    → (place k : ℕ) → HasLevel new place k → HasLevel old place k ⊎ ((k ≡ level) × HasBit set place)
marks-cases set level old new marks place k at = elim (bit-cases set place) [
  | inl one ↦ inr (level-same new place k level at (marks.here place one), one)
  | inr other ↦ inl (sym (marks.away place other) ∙ at)
]

-- A place got a level that it has, or another one has it already.
pub level-set : (levels : List (Option ℕ)) (at place level : ℕ) → at < length levels
    → (place ≡ at) ⊎ HasLevel levels place level
    → HasLevel (slice_set levels at (Some level)) place level
level-set levels at place level within got = elim (cases_eq place at) [
  | inl same ↦
      ap (slice_get (slice_set levels at (Some level))) same
      ∙ slice_get-slice_set_same levels at (Some level) within
  | inr apart ↦ elim got [
    | inl same ↦ absurd (apart same)
    | inr has ↦ slice_get-slice_set_other levels at place (Some level) apart ∙ has
  ]
]

-- The lower half of a set got its level, and then the upper half.
pub marks-halves : (set level : ℕ) (old mid new : List (Option ℕ))
    → MarksFrom (set % 2 ^ half_places) 0 level old mid → MarksFrom (set / 2 ^ half_places) half_places level mid new
    → MarksLevel set level old new
marks-halves set level old mid new first second = record {
  size = second.size ∙ first.size;
  here = λ place has. elim (cases_lt place half_places) [
    | inl low ↦
        second.away place (λ i bit same. absurd (omega arith))
        ∙ subst (λ (p : ℕ). HasLevel mid p level) (zero-add place)
        (first.here place (has-low set place low has))
    | inr high ↦
        let back : half_places + (place - half_places) ≡ place = omega arith in
        subst (λ (p : ℕ). HasLevel new p level) back
        (second.here (place - half_places) (has-high set place high has))
  ];
  away = λ place none.
      second.away place (λ i bit same.
      let has = ap (bit_at set) same ∙ high-has set i bit in omega (arith, has, none))
      ∙ first.away place (λ i bit same.
      let has = ap (bit_at set) (same ∙ zero-add i) ∙ (low-has set i bit).1 in
      omega (arith, has, none));
}

-- Where levels are kept, no more places have none.
pub count-kept : (old new : List (Option ℕ)) → length new ≡ length old
    → ((place k : ℕ) → HasLevel old place k → HasLevel new place k)
    → count_none new ≤ count_none old
count-kept [] [] size kept = omega arith
count-kept [] (y ∷ new) size kept = absurd (omega arith)
count-kept (x ∷ old) [] size kept = absurd (omega arith)
count-kept (None ∷ old) (None ∷ new) size kept =
    let rest = count-kept old new (omega arith) (λ place k at. kept (suc place) k at) in omega arith
count-kept (None ∷ old) (Some j ∷ new) size kept =
    let rest = count-kept old new (omega arith) (λ place k at. kept (suc place) k at) in omega arith
count-kept (Some i ∷ old) (None ∷ new) size kept =
    let none : None ≡ Some i = same_Some None (Some i) (kept 0 i refl) in cc
count-kept (Some i ∷ old) (Some j ∷ new) size kept =
    count-kept old new (omega arith) (λ place k at. kept (suc place) k at)

-- Where one got a level besides, fewer have none.
pub count-less : (old new : List (Option ℕ)) (place k : ℕ) → length new ≡ length old
    → ((place k : ℕ) → HasLevel old place k → HasLevel new place k)
    → slice_get old place ≡ Some None → HasLevel new place k
    → count_none new + 1 ≤ count_none old
count-less [] new place k size kept was at = let none : None ≡ Some None = was in cc
count-less (x ∷ old) [] place k size kept was at = absurd (omega arith)
count-less (Some i ∷ old) (y ∷ new) zero k size kept was at =
    let none : Some i ≡ None = same_Some (Some i) None was in cc
count-less (None ∷ old) (None ∷ new) zero k size kept was at =
    let none : None ≡ Some k = same_Some None (Some k) at in cc
count-less (None ∷ old) (Some j ∷ new) zero k size kept was at =
    let rest = count-kept old new (omega arith) (λ place k at. kept (suc place) k at) in omega arith
count-less (None ∷ old) (None ∷ new) (suc place) k size kept was at =
    let rest = count-less old new place k (omega arith) (λ p n is. kept (suc p) n is) was at in
    omega arith
count-less (None ∷ old) (Some j ∷ new) (suc place) k size kept was at =
    let rest = count-less old new place k (omega arith) (λ p n is. kept (suc p) n is) was at in
    omega arith
count-less (Some i ∷ old) (None ∷ new) (suc place) k size kept was at =
    let none : None ≡ Some i = same_Some None (Some i) (kept 0 i refl) in cc
count-less (Some i ∷ old) (Some j ∷ new) (suc place) k size kept was at =
    count-less old new place k (omega arith) (λ p n is. kept (suc p) n is) was at
