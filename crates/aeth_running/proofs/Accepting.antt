-- Lists that are walked one after the other: what was written last at a number, and until when what
-- goes one after the other accepts.
use Rattle.std.proofs.Common.{◌≡◌, ◌≤◌, ◌<◌, ◌∙◌, ℕ, suc, ◌+◌, ◌||◌, Bool, List, [], ◌∷◌, ◌&&◌, All}
use Rattle.std.proofs.Common.{filter, fold, get_or, length, map, refl, sym, ap, inl, inr, arith}
use Rattle.std.proofs.Common.{◌==◌, nat_le, nat_lt, slice_index, slice_set, eqb-true, le-leb}
use Rattle.std.proofs.Common.{le-ltb, lt-ltb, get_or-set_other, get_or-set_same, length-set}
use Rattle.std.proofs.lemmas.Bool.{cases_Bool, cases_lt, eqb-false, lt-leb}
use Rattle.std.specs.List.{AllPairs, list_any, zip}

-- Of items beside what is shown of them those that pass a test, with what is shown.
pub shown-beside : {X Y : Type 0} (show : X → Y) (test : X → Bool) (xs : List X)
    → map (λ (one : X × Y). one.1) (filter (λ (one : X × Y). test one.0) (zip xs (map show xs)))
    ≡ map show (filter test xs)
shown-beside show test [] = refl
shown-beside {X} {Y} show test (x ∷ xs) =
    let rest = shown-beside show test xs in
    elim (cases_Bool (test x)) [
      | inl is ↦ rw is (ap (λ (ys : List Y). show x ∷ ys) rest)
      | inr isnt ↦ rw isnt rest
    ]

-- What was written last at a number, by items that write each at its own.
pub written-last : {X : Type 0} (number value : X → ℕ) (n : ℕ) (list : List ℕ) (xs : List X)
    → n < length list
    → slice_index (fold (λ (all : List ℕ) x. slice_set all (number x) (value x)) list xs) n
    ≡ fold (λ (last : ℕ) x. value x) (slice_index list n) (filter (λ x. number x == n) xs)
written-last number value n list [] within = refl
written-last {X} number value n list (x ∷ xs) within =
    let next = slice_set list (number x) (value x) in
    let size = length-set list (number x) (value x) in
    let rest = written-last number value n next xs (omega arith) in
    let last = λ (start : ℕ). fold (λ (last : ℕ) y. value y) start (filter (λ y. number y == n) xs) in
    elim (cases_Bool (number x == n)) [
      | inl own ↦
          let same = eqb-true (number x) n own in
          rw own (rest ∙ ap last (ap (λ k. get_or (slice_set list k (value x)) n 0) same
          ∙ get_or-set_same list n (value x) 0 within))
      | inr other ↦
          let differs = eqb-false (number x) n other in
          rw other (rest ∙ ap last (get_or-set_other list (number x) n (value x) 0
          (λ e. differs (sym e))))
    ]

module _ {X : Type 0} (go until : X → ℕ) (t : ℕ) where
  -- Whether one accepts in cycle t.
  abbrev pub accepts : X → Bool
  accepts x = nat_le (go x) t && nat_lt t (until x)

  -- Until when the one accepts that went last by then.
  abbrev pub last_until : ℕ → List X → ℕ
  last_until before xs =
      fold (λ (last : ℕ) x. until x) before (filter (λ x. nat_lt (go x) (t + 1)) xs)

  -- One of them accepts exactly where the last does, where each goes once those before accept no more.
  pub last-accepts : (before : ℕ) (xs : List X) → AllPairs (λ x y. until x ≤ go y) xs
      → All (λ x. before ≤ go x) xs
      → nat_lt t (last_until before xs) ≡ (nat_lt t before || list_any accepts xs)
  last-accepts before [] apart first =
      elim (cases_Bool (nat_lt t before)) [ inl is ↦ rw is refl | inr isnt ↦ rw isnt refl ]
  last-accepts before (x ∷ xs) apart first =
      let here = first 0 x (omega arith) in
      let others : AllPairs (λ y z. until y ≤ go z) xs = λ i j default below within.
      apart (suc i) (suc j) default (omega arith) (omega arith) in
      elim (cases_lt t (go x)) [
        | inl early ↦
            let rest = last-accepts before xs others (λ k d within. first (suc k) d (omega arith)) in
            rw (le-ltb (go x) (t + 1) (omega arith), lt-leb (go x) t early) rest
        | inr gone ↦
            let rest = last-accepts (until x) xs others
            (λ k d within. apart 0 (suc k) d (omega arith) (omega arith)) in
            rw (
              lt-ltb (go x) (t + 1) (omega arith),
              le-leb (go x) t gone,
              le-ltb t before (omega arith),
            ) rest
      ]
