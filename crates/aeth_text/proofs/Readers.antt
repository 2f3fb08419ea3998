-- Readers and their writers: what a reader reads is what its writer writes, both ways. The laws go
-- from fields to lists and lines.
use Rattle.std.proofs.Common.{◌≡◌, ◌∙◌, ℕ, Bool, true, false, cond, List, [], ◌∷◌, map, Option}
use Rattle.std.proofs.Common.{Some, None, refl, sym, ap, subst, option_map}
use Rattle.std.proofs.lemmas.{Bool.cond-true, Option.same_Some, Option.none-some}
use Rattle.std.proofs.lemmas.{Slice.Eq.bytes_eq-Decides}
use Rattle.std.specs.{List.AllByRecursion, Str.bytes_eq}
use Rattle.aeth_base.proofs.Lists.{option_map-some}
use Rattle.aeth_text.specs.Grammar.{all_of, both, field, headed, kept, last_field}

-- A reader and a writer of the values that have P: what was written is read again, and what is read
-- was written so. What is written is Good.
pub record ReadsBack {W X : Type 0} (Good : W → Type 0) (read : W → Option X) (write : X → W)
    (P : X → Type 0) : Type 0 where
  pub again : (x : X) → P x → read (write x) ≡ Some x
  pub only : (w : W) (x : X) → read w ≡ Some x → (write x ≡ w) × P x
  pub good : (x : X) → P x → Good (write x)

-- ---- Options

-- A value under a test, where there is one.
pub kept_some : {X : Type 0} (test : X → Bool) (o : Option X) (x : X) → kept test o ≡ Some x
    → (o ≡ Some x) × (test x ≡ true)
kept_some test None x e = absurd (none-some x e)
kept_some test (Some y) x e =
    let cases : (b : Bool) → test y ≡ b → cond b (Some y) None ≡ Some x
    → (Some y ≡ Some x) × (test x ≡ true) =
    elim [
      | true ↦ λ is same. (same, ap test (sym (same_Some y x same)) ∙ is)
      | false ↦ λ is same. absurd (none-some x same)
    ]
    in cases (test y) refl e

-- Two values, where there are both.
pub both_some : {X Y : Type 0} (a : Option X) (b : Option Y) (p : X × Y) → both a b ≡ Some p
    → (a ≡ Some p.0) × (b ≡ Some p.1)
both_some None b p e = absurd (none-some p e)
both_some (Some x) None p e = absurd (none-some p e)
both_some {X} {Y} (Some x) (Some y) p e =
    let same : (x, y) ≡ p = same_Some (x, y) p e in
    (ap (λ (q : X × Y). Some q.0) same, ap (λ (q : X × Y). Some q.1) same)

-- ---- Values under a test, and values that are seen otherwise

-- A value under a test.
pub reads_kept : {W X : Type 0} {Good : W → Type 0} {read : W → Option X} {write : X → W}
    {P : X → Type 0} (test : X → Bool) → ReadsBack Good read write P
    → ReadsBack Good (λ w. kept test (read w)) write (λ x. P x × (test x ≡ true))
reads_kept {read} {write} test reads = record {
  again = λ x has. rw (reads.again x has.0) (cond-true (test x) (Some x) None has.1);
  only = λ w x e. let (is, passes) = kept_some test (read w) x e in
      let (same, has) = reads.only w x is in (same, (has, passes));
  good = λ x has. reads.good x has.0;
}

-- A value that is seen otherwise.
pub reads_as : {W X Y : Type 0} {Good : W → Type 0} {read : W → Option X} {write : X → W}
    {P : X → Type 0} (f : X → Y) (g : Y → X) → ((x : X) → g (f x) ≡ x) → ((y : Y) → f (g y) ≡ y)
    → ReadsBack Good read write P
    → ReadsBack Good (λ w. option_map f (read w)) (λ y. write (g y)) (λ y. P (g y))
reads_as {read} {write} {P} f g there back reads = record {
  again = λ y has. rw (reads.again (g y) has) (ap (λ z. Some z) (back y));
  only = λ w y e. let (x, is, made) = option_map-some f (read w) y e in
      let (same, has) = reads.only w x is in
      let is_x : x ≡ g y = sym (there x) ∙ ap g made in
      (ap write (sym is_x) ∙ same, subst P is_x has);
  good = λ y has. reads.good (g y) has;
}

-- ---- The words of a line

only_last : {X : Type 0} {Good : List ℕ → Type 0} (read : List ℕ → Option X) (write : X → List ℕ)
    (P : X → Type 0) → ReadsBack Good read write P → (ws : List (List ℕ)) (x : X)
    → last_field read ws ≡ Some x → ((write x ∷ []) ≡ ws) × P x
only_last read write P reads [] x e = absurd (none-some x e)
only_last read write P reads (w ∷ []) x e =
    let (same, has) = reads.only w x e in (ap (λ (v : List ℕ). v ∷ []) same, has)
only_last read write P reads (w ∷ v ∷ ws) x e = absurd (none-some x e)

-- A last field.
pub reads_last : {X : Type 0} {Good : List ℕ → Type 0} {read : List ℕ → Option X}
    {write : X → List ℕ} {P : X → Type 0} → ReadsBack Good read write P
    → ReadsBack (AllByRecursion Good) (last_field read) (λ x. write x ∷ []) P
reads_last {read} {write} {P} reads = record {
  again = reads.again;
  only = only_last read write P reads;
  good = λ x has. (reads.good x has, tt);
}

only_field : {X Y : Type 0} {Good : List ℕ → Type 0} (read : List ℕ → Option X)
    (write : X → List ℕ) (P : X → Type 0) (more : List (List ℕ) → Option Y)
    (write_more : Y → List (List ℕ)) (Q : Y → Type 0) → ReadsBack Good read write P
    → ReadsBack (AllByRecursion Good) more write_more Q → (ws : List (List ℕ)) (p : X × Y)
    → field read more ws ≡ Some p → ((write p.0 ∷ write_more p.1) ≡ ws) × (P p.0 × Q p.1)
only_field read write P more write_more Q reads later [] p e = absurd (none-some p e)
only_field read write P more write_more Q reads later (w ∷ ws) p e =
    let (first, rest) = both_some (read w) (more ws) p e in
    let (same, has) = reads.only w p.0 first in
    let (same_rest, has_rest) = later.only ws p.1 rest in
    (rw (same, same_rest) refl, (has, has_rest))

-- A field before others.
pub reads_field : {X Y : Type 0} {Good : List ℕ → Type 0} {read : List ℕ → Option X}
    {write : X → List ℕ} {P : X → Type 0} {more : List (List ℕ) → Option Y}
    {write_more : Y → List (List ℕ)} {Q : Y → Type 0} → ReadsBack Good read write P
    → ReadsBack (AllByRecursion Good) more write_more Q
    → ReadsBack (AllByRecursion Good) (field read more) (λ (p : X × Y). write p.0 ∷ write_more p.1)
    (λ p. P p.0 × Q p.1)
reads_field {read} {write} {P} {more} {write_more} {Q} reads later = record {
  again = λ p has. rw (reads.again p.0 has.0, later.again p.1 has.1) refl;
  only = only_field read write P more write_more Q reads later;
  good = λ p has. (reads.good p.0 has.0, later.good p.1 has.1);
}

bytes_eq_same : (word : List ℕ) → bytes_eq word word ≡ true
bytes_eq_same word = (bytes_eq-Decides word word).1 refl

only_headed : {X : Type 0} {Good : List ℕ → Type 0} (first : List ℕ)
    (more : List (List ℕ) → Option X) (write : X → List (List ℕ)) (P : X → Type 0)
    → ReadsBack (AllByRecursion Good) more write P → (ws : List (List ℕ)) (x : X)
    → headed first more ws ≡ Some x → ((first ∷ write x) ≡ ws) × P x
only_headed first more write P reads [] x e = absurd (none-some x e)
only_headed first more write P reads (w ∷ ws) x e =
    let cases : (b : Bool) → bytes_eq w first ≡ b → cond b (more ws) None ≡ Some x
    → ((first ∷ write x) ≡ (w ∷ ws)) × P x =
    elim [
      | true ↦ λ is same.
          let word : w ≡ first = (bytes_eq-Decides w first).0 is in
          let (rest, has) = reads.only ws x same in
          (rw (word, rest) refl, has)
      | false ↦ λ is same. absurd (none-some x same)
    ]
    in cases (bytes_eq w first) refl e

-- A first word before fields.
pub reads_headed : {X : Type 0} {Good : List ℕ → Type 0} {more : List (List ℕ) → Option X}
    {write : X → List (List ℕ)} {P : X → Type 0} (first : List ℕ) → Good first
    → ReadsBack (AllByRecursion Good) more write P
    → ReadsBack (AllByRecursion Good) (headed first more) (λ x. first ∷ write x) P
reads_headed {more} {write} {P} first fits reads = record {
  again = λ x has. rw (bytes_eq_same first) (reads.again x has);
  only = only_headed first more write P reads;
  good = λ x has. (fits, reads.good x has);
}

-- ---- Lists

all_again : {X : Type 0} {Good : List ℕ → Type 0} (read : List ℕ → Option X)
    (write : X → List ℕ) (P : X → Type 0) → ReadsBack Good read write P → (xs : List X)
    → AllByRecursion P xs → all_of read (map write xs) ≡ Some xs
all_again read write P reads [] has = refl
all_again read write P reads (x ∷ xs) has =
    rw (reads.again x has.0, all_again read write P reads xs has.1) refl

all_only : {X : Type 0} {Good : List ℕ → Type 0} (read : List ℕ → Option X)
    (write : X → List ℕ) (P : X → Type 0) → ReadsBack Good read write P → (ws : List (List ℕ))
    (xs : List X) → all_of read ws ≡ Some xs → (map write xs ≡ ws) × AllByRecursion P xs
all_only read write P reads [] xs e =
    let none : [] ≡ xs = same_Some [] xs e in
    subst (λ ys. (map write ys ≡ []) × AllByRecursion P ys) none (refl, tt)
all_only {X} read write P reads (w ∷ ws) xs e =
    let (p, is, made) = option_map-some (λ (p : X × List X). p.0 ∷ p.1)
    (both (read w) (all_of read ws)) xs e in
    let (first, rest) = both_some (read w) (all_of read ws) p is in
    let (same, has) = reads.only w p.0 first in
    let (same_rest, has_rest) = all_only read write P reads ws p.1 rest in
    subst (λ ys. (map write ys ≡ (w ∷ ws)) × AllByRecursion P ys) made
    (rw (same, same_rest) refl, (has, has_rest))

all_good : {X : Type 0} {Good : List ℕ → Type 0} (read : List ℕ → Option X)
    (write : X → List ℕ) (P : X → Type 0) → ReadsBack Good read write P → (xs : List X)
    → AllByRecursion P xs → AllByRecursion Good (map write xs)
all_good read write P reads [] has = tt
all_good read write P reads (x ∷ xs) has =
    (reads.good x has.0, all_good read write P reads xs has.1)

-- All words of a list.
pub reads_all : {X : Type 0} {Good : List ℕ → Type 0} {read : List ℕ → Option X}
    {write : X → List ℕ} {P : X → Type 0} → ReadsBack Good read write P
    → ReadsBack (AllByRecursion Good) (all_of read) (map write) (AllByRecursion P)
reads_all {read} {write} {P} reads = record {
  again = all_again read write P reads;
  only = all_only read write P reads;
  good = all_good read write P reads;
}
