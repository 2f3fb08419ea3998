-- Laws of tables of marks: what one more mark changes, and how a table is closed by marking.
use Rattle.std.proofs.Common.{◌≡◌, ◌≢◌, ◌∙◌, ◌<◌, ◌+◌, ◌⊎◌, ◌&&◌, ℕ, zero, suc, Bool, true, false}
use Rattle.std.proofs.Common.{not, cond, List, length, slice_get, get_or, set, replicate, refl, sym}
use Rattle.std.proofs.Common.{ap, subst, inl, inr, arith, ltb, unwrap_or, lt-ltb, ltb-true}
use Rattle.std.proofs.lemmas.{Bool.and_from, Bool.and_parts, Bool.and_right, Bool.cases_Bool}
use Rattle.std.proofs.lemmas.{Bool.cases_eq, Bool.cases_lt, Bool.OnTrue_at, Bool.OnFalse_at}
use Rattle.std.proofs.lemmas.{Bool.OnFalse_from, List.Sums.sum_by-set, Option.slice_get-get_or}
use Rattle.std.proofs.Math.ListN.{length-set}
use Rattle.std.specs.Bool.{OnFalse}
use Rattle.aeth_base.proofs.Lists.{slice_get-slice_set_same, slice_get-slice_set_other}
use Rattle.aeth_app.specs.{App.is_marked, Limits.max_uses}
use Rattle.aeth_group.specs.Marks.{Extends, Spreads, marked, pair_place, places, unmarked}
use Rattle.aeth_group.specs.Marks.{with_mark}

-- ---- one more mark

-- A marked pair lies in the table.
record IsMarked (marks : List Bool) (u v : ℕ) : Type 0 where
  first : u < max_uses
  second : v < max_uses
  is : is_marked marks (pair_place u v) ≡ true

marked_parts : (marks : List Bool) (u v : ℕ) → marked marks u v ≡ true → IsMarked marks u v
marked_parts marks u v is =
    let outer = and_parts (ltb u max_uses && ltb v max_uses) (is_marked marks (pair_place u v)) is in
    let inner = and_parts (ltb u max_uses) (ltb v max_uses) outer.0 in
    record {
      first = ltb-true u max_uses inner.0;
      second = ltb-true v max_uses inner.1;
      is = outer.1;
    }

marked_from : (marks : List Bool) (u v : ℕ) → IsMarked marks u v → marked marks u v ≡ true
marked_from marks u v is =
    and_from _ _ (and_from _ _ (lt-ltb u max_uses is.first) (lt-ltb v max_uses is.second)) is.is

-- A marked pair lies in a row of the table.
pub marked_first : (marks : List Bool) (u v : ℕ) → marked marks u v ≡ true → u < max_uses
marked_first marks u v is = (marked_parts marks u v is).first

-- A marked pair lies in a column of the table.
pub marked_second : (marks : List Bool) (u v : ℕ) → marked marks u v ≡ true → v < max_uses
marked_second marks u v is = (marked_parts marks u v is).second

-- Nothing is marked in a list without marks.
is_marked-none : (count place : ℕ) → is_marked (replicate count false) place ≡ false
is_marked-none zero place = refl
is_marked-none (suc count) zero = refl
is_marked-none (suc count) (suc place) = is_marked-none count place

-- No pair is marked in a table without marks.
pub marked-none : (u v : ℕ) → marked (replicate places false) u v ≡ false
marked-none u v = and_right _ _ (is_marked-none places (pair_place u v))

-- A pair in the table is marked where its place is.
pub marked-at_place : (marks : List Bool) (u v : ℕ) (default : Bool) → length marks ≡ places
    → u < max_uses → v < max_uses → get_or marks (pair_place u v) default ≡ marked marks u v
marked-at_place marks u v default long first second =
    let at = ap (λ o. unwrap_or o false)
    (slice_get-get_or marks (pair_place u v) default (omega arith)) in
    rw (lt-ltb u max_uses first, lt-ltb v max_uses second) (sym at)

-- The pair is marked now.
pub marked-with_mark_same : (marks : List Bool) (u v : ℕ) → length marks ≡ places → u < max_uses
    → v < max_uses → marked (with_mark marks u v) u v ≡ true
marked-with_mark_same marks u v long first second = marked_from (with_mark marks u v) u v (record {
  first = first;
  second = second;
  is = ap (λ o. unwrap_or o false)
      (slice_get-slice_set_same marks (pair_place u v) true (omega arith));
})

-- At another place nothing changed.
is_marked-other : (marks : List Bool) (place other : ℕ) → other ≢ place
    → is_marked (set marks place true) other ≡ is_marked marks other
is_marked-other marks place other apart =
    ap (λ o. unwrap_or o false) (slice_get-slice_set_other marks place other true apart)

-- A marked pair stays marked.
pub marked-with_mark_kept : (marks : List Bool) (u v a b : ℕ) → length marks ≡ places → u < max_uses
    → v < max_uses → marked marks a b ≡ true → marked (with_mark marks u v) a b ≡ true
marked-with_mark_kept marks u v a b long first second is =
    let old = marked_parts marks a b is in
    let low = old.first in
    let right = old.second in
    elim (cases_eq (pair_place a b) (pair_place u v)) [
      | inl same ↦ marked_from (with_mark marks u v) a b (record {
        first = old.first;
        second = old.second;
        is = ap (λ o. unwrap_or o false)
            (ap (slice_get (with_mark marks u v)) same
            ∙ slice_get-slice_set_same marks (pair_place u v) true (omega arith));
      })
      | inr apart ↦ marked_from (with_mark marks u v) a b (record {
        first = old.first;
        second = old.second;
        is = is_marked-other marks (pair_place u v) (pair_place a b) apart ∙ old.is;
      })
    ]

-- A pair that is marked now was marked before, or is the new one.
pub marked-with_mark_cases : (marks : List Bool) (u v a b : ℕ) → u < max_uses → v < max_uses
    → marked (with_mark marks u v) a b ≡ true
    → (marked marks a b ≡ true) ⊎ ((a ≡ u) × (b ≡ v))
marked-with_mark_cases marks u v a b first second is =
    let new = marked_parts (with_mark marks u v) a b is in
    let low = new.first in
    let right = new.second in
    elim (cases_eq (pair_place a b) (pair_place u v)) [
      | inl same ↦ inr (omega arith, omega arith)
      | inr apart ↦ inl (marked_from marks a b (record {
        first = new.first;
        second = new.second;
        is = sym (is_marked-other marks (pair_place u v) (pair_place a b) apart) ∙ new.is;
      }))
    ]

-- A table is as long as it becomes with one more mark.
pub length-before : (old new : List Bool) (u v : ℕ) → new ≡ with_mark old u v
    → length new ≡ places → length old ≡ places
length-before old new u v is long =
    sym (length-set old (pair_place u v) true) ∙ ap length (sym is) ∙ long

-- The table lacks one mark fewer.
pub unmarked-with_mark : (marks : List Bool) (u v : ℕ) → length marks ≡ places → u < max_uses
    → v < max_uses → marked marks u v ≡ false → unmarked (with_mark marks u v) < unmarked marks
unmarked-with_mark marks u v long first second is =
    let place = pair_place u v in
    let lack : Bool → ℕ = λ mark. cond (not mark) 1 0 in
    let one : unmarked (with_mark marks u v) + lack (get_or marks place true) ≡ unmarked marks + 0 =
    sum_by-set lack marks place true true (omega arith) in
    let lacked : lack (get_or marks place true) ≡ 1 =
    ap lack (marked-at_place marks u v true long first second ∙ is) in
    omega arith

-- ---- more marks

-- No mark was added.
pub extends-refl : (marks : List Bool) → Extends marks marks
extends-refl marks = record {
  kept = λ u v is. is;
  least = λ test transitive within. within;
}

-- Marks were added twice.
pub extends-then : (a b c : List Bool) → Extends a b → Extends b c → Extends a c
extends-then a b c first second = record {
  kept = λ u v is. second.kept u v (first.kept u v is);
  least = λ test transitive within.
      second.least test transitive (first.least test transitive within);
}

-- A pair to which two marks lead was marked.
extends-with_mark : (marks : List Bool) (u w v : ℕ) → length marks ≡ places → u < max_uses → v < max_uses
    → marked marks u w ≡ true → marked marks w v ≡ true → Extends marks (with_mark marks u v)
extends-with_mark marks u w v long first second to onward = record {
  kept = λ a b is. marked-with_mark_kept marks u v a b long first second is;
  least = λ test transitive within a b is.
      elim (marked-with_mark_cases marks u v a b first second is) [
        | inl old ↦ within a b old
        | inr same ↦ ap (λ p. test p b) same.0 ∙ ap (λ q. test u q) same.1
            ∙ transitive u w v (within u w to) (within w v onward)
      ];
}

-- No mark was added.
pub spreads-refl : (marks : List Bool) → Spreads marks marks false
spreads-refl marks = record { extends = extends-refl marks; fewer = tt; same = refl }

-- Marks were added to marks that may have been added.
spreads-more : (a b c : List Bool) (added : Bool) → Spreads a b added → Extends b c
    → unmarked c < unmarked b → Spreads a c true
spreads-more a b c added first second fewer = record {
  extends = extends-then a b c first.extends second;
  fewer = elim (cases_Bool added) [
    | inl more ↦ let before = OnTrue_at more first.fewer in omega arith
    | inr none ↦ subst (λ (marks : List Bool). unmarked c < unmarked marks)
        (OnFalse_at none first.same) fewer
  ];
  same = tt;
}

-- ---- all that a second is marked with

-- A first is marked with all below a bound that a second is marked with, unless a mark was added.
pub record Leading (old new : List Bool) (added : Bool) (u w bound : ℕ) : Type 0 where
  pub spreads : Spreads old new added
  pub first : marked new u w ≡ true
  pub led : OnFalse added
      ((v : ℕ) → v < bound → marked new w v ≡ true → marked new u v ≡ true)

-- One more that was marked.
pub leading-mark : (old new : List Bool) (added : Bool) (u w v next : ℕ)
    → Leading old new added u w v → length new ≡ places → u < max_uses → v < max_uses
    → marked new w v ≡ true → marked new u v ≡ false
    → Leading old (with_mark new u v) true u w next
leading-mark old new added u w v next before long first second onward lacks =
    let extends = extends-with_mark new u w v long first second before.first onward in
    record {
      spreads = spreads-more old new (with_mark new u v) added before.spreads extends
          (unmarked-with_mark new u v long first second lacks);
      first = extends.kept u w before.first;
      led = tt;
    }

-- One more that needed no mark.
pub leading-skip : (old new : List Bool) (added : Bool) (u w v : ℕ) → Leading old new added u w v
    → (marked new w v ≡ true → marked new u v ≡ true) → Leading old new added u w (v + 1)
leading-skip old new added u w v before needless = record {
  spreads = before.spreads;
  first = before.first;
  led = OnFalse_from added _ (λ none a low onward. elim (cases_lt a v) [
    | inl early ↦ OnFalse_at none before.led a early onward
    | inr late ↦
        let last : a ≡ v = omega arith in
        ap (marked new u) last ∙ needless (sym (ap (marked new w) last) ∙ onward)
  ]);
}

-- Marks were added, if any, to marks that may have been added.
pub spreads-both : (a b c : List Bool) (added : Bool) → Spreads a b added → Spreads b c true
    → Spreads a c true
spreads-both a b c added first second =
    spreads-more a b c added first second.extends second.fewer
