-- A record takes at least one byte, and after it the machine stands between two records.
use Rattle.std.proofs.Common.{◌≡◌, ◌∙◌, ◌++◌, ◌+◌, ◌<◌, ◌≤◌, ℕ, zero, suc, Bool, true, false, ◌==◌}
use Rattle.std.proofs.Common.{List, [], ◌∷◌, length, Option, Some, None, refl, sym, ap, arith}
use Rattle.std.proofs.Common.{add-one, if◌then◌else◌}
use Rattle.std.proofs.lemmas.{Bool.false≢true, Option.same_Some}
use Rattle.csv.specs.Machine.{Read, step, in_field, start_field, is_end, ends_at_end, ends_with}
use Rattle.csv.specs.Machine.{fields_after, field_after, next_record, line_feed, carriage_return}
use Rattle.csv.specs.Reading.{default_config, records_from, records_next}
use Rattle.csv.specs.declared.parser.{State.State, Action.Action}
use Rattle.csv.specs.declared.parser.State.TheVariants as st
use Rattle.csv.specs.declared.parser.Action.TheVariants as act
use Rattle.csv.specs.declared.parser.Terminator.TheVariants as term

-- a step that ends a record leads between two
abbrev EndsWell : State × Action → Type 0
EndsWell q = is_end q.1 ≡ true → ends_at_end q.0 ≡ false

pick : (b : Bool) (x y : State × Action) → EndsWell x → EndsWell y → EndsWell (if b then x else y)
pick true x y p q = p
pick false x y p q = q

skips : (s : State) → EndsWell (s, act.Skip)
skips s h = absurd (false≢true h)

copies : (s : State) → EndsWell (s, act.Copy)
copies s h = absurd (false≢true h)

at_cr : (b : Bool) → ends_at_end (if b then st.AfterCr else st.StartRecord) ≡ false
at_cr true = refl
at_cr false = refl

in_field-EndsWell : (c : ℕ) → EndsWell (in_field default_config c)
in_field-EndsWell c = pick (c == 44) _ _ (λ h. absurd (false≢true h)) (pick
    (ends_with term.CRLF c) _ _ (λ h. at_cr (c == carriage_return)) (copies st.InField))

start_field-EndsWell : (c : ℕ) → EndsWell (start_field default_config c)
start_field-EndsWell c = pick (c == 34) _ _ (skips st.InQuoted) (in_field-EndsWell c)

step-EndsWell : (s : State) (c : ℕ) → EndsWell (step default_config s c)
step-EndsWell st.StartRecord c = pick (ends_with term.CRLF c) _ _ (skips st.StartRecord)
    (start_field-EndsWell c)
step-EndsWell st.StartField c = start_field-EndsWell c
step-EndsWell st.InField c = in_field-EndsWell c
step-EndsWell st.InQuoted c = pick (c == 34) _ _ (skips st.AfterQuote) (copies st.InQuoted)
step-EndsWell st.InEscape c = copies st.InQuoted
step-EndsWell st.AfterQuote c = pick (c == 34) _ _ (copies st.InQuoted) (in_field-EndsWell c)
step-EndsWell st.InComment c = pick (c == line_feed) _ _ (skips st.StartRecord) (skips st.InComment)
step-EndsWell st.AfterCr c = pick (c == line_feed) _ _ (skips st.StartRecord) (pick
    (ends_with term.CRLF c) _ _ (skips st.StartRecord) (start_field-EndsWell c))

-- what a read leaves
pub record Leaves (p : Read) (xs : List ℕ) : Type 0 where
  pub between : ends_at_end p.1 ≡ false
  pub bytes : length p.2 ≤ length xs

at_end : (b : Bool) (fields : List (List ℕ)) (p : Read)
    → (if b then Some (fields, st.StartRecord, []) else None) ≡ Some p → Leaves p []
at_end true fields p h =
    let e : (fields, st.StartRecord, []) ≡ p = same_Some _ _ h in
    let none : length p.2 ≡ 0 = ap (λ (q : Read). length q.2) (sym e) in
    record { between = ap (λ (q : Read). ends_at_end q.1) (sym e); bytes = omega arith }
at_end false fields p h = absurd (cc h)

ended : (s : State) (c : ℕ) (fields : List (List ℕ)) (field rest : List ℕ) (p : Read) (b : Bool)
    → is_end (step default_config s c).1 ≡ b
    → (next_record default_config (step default_config s c).0 (fields_after
    (step default_config s c).1 fields field) (field_after
    (step default_config s c).1 c field) rest ≡ Some p → Leaves p rest)
    → (if b then Some (
      fields_after (step default_config s c).1 fields field,
      (step default_config s c).0,
      rest,
    ) else next_record default_config (step default_config s c).0
    (fields_after (step default_config s c).1 fields field) (field_after
    (step default_config s c).1 c field) rest) ≡ Some p
    → Leaves p rest
ended s c fields field rest p true is later h =
    let e : (
      fields_after (step default_config s c).1 fields field,
      (step default_config s c).0,
      rest,
    ) ≡ p = same_Some _ _ h in
    let same : length p.2 ≡ length rest = ap (λ (q : Read). length q.2) (sym e) in
    record {
      between = ap (λ (q : Read). ends_at_end q.1) (sym e) ∙ step-EndsWell s c is;
      bytes =
          omega arith;
    }
ended s c fields field rest p false is later h = later h

longer : (p : Read) (c : ℕ) (rest : List ℕ) → Leaves p rest → Leaves p (c ∷ rest)
longer p c rest h = let bytes = h.bytes in record { between = h.between; bytes = omega arith }

pub next_leaves : (s : State) (fields : List (List ℕ)) (field xs : List ℕ) (p : Read)
    → next_record default_config s fields field xs ≡ Some p → Leaves p xs
unfolding next_record
next_leaves s fields field [] p h = at_end (ends_at_end s) (fields ++ field ∷ []) p h
next_leaves s fields field (c ∷ rest) p h =
    longer p c rest (ended s c fields field rest p (is_end (step default_config s c).1) refl
    (next_leaves (step default_config s c).0 _ _ rest p) h)

-- between two records a record takes a byte
pub next_shorter : (s : State) (xs : List ℕ) (p : Read) → ends_at_end s ≡ false
    → next_record default_config s [] [] xs ≡ Some p → length p.2 < length xs
unfolding next_record
next_shorter s [] p between h = absurd (cc (rw between at h))
next_shorter s (c ∷ rest) p between h =
    let l = (ended s c [] [] rest p (is_end (step default_config s c).1) refl (next_leaves
    (step default_config s c).0 _ _ rest p) h).bytes in
    omega arith

-- the records after the next one, by another number of turns
same_next : (n m : ℕ) (s : State) (xs : List ℕ) (o : Option Read) → ends_at_end s ≡ false
    → next_record default_config s [] [] xs ≡ o
    → ((t : State) (ys : List ℕ) → ends_at_end t ≡ false → length ys < length xs
    → records_from default_config n t ys ≡ records_from default_config m t ys)
    → records_next (records_from default_config n) o ≡ records_next
    (records_from default_config m) o
same_next n m s xs None between e later = refl
same_next n m s xs (Some p) between e later = ap (λ rs. p.0 ∷ rs) (later p.1 p.2
    (next_leaves s [] [] xs p e).between (next_shorter s xs p between e))

-- more turns than bytes are enough
pub records_from_enough : (n m : ℕ) (s : State) (xs : List ℕ) → ends_at_end s ≡ false
    → length xs < n → length xs < m → records_from default_config n s xs ≡ records_from
    default_config m s xs
unfolding records_from
records_from_enough zero m s xs between a b = absurd (omega arith)
records_from_enough (suc n) zero s xs between a b = absurd (omega arith)
records_from_enough (suc n) (suc m) s xs between a b =
    same_next n m s xs (next_record default_config s [] [] xs) between refl
    (λ t ys h less. records_from_enough n m t ys h (omega arith) (omega arith))

pub records_from-one : (n : ℕ) (s : State) (xs : List ℕ)
    → records_from default_config (n + 1) s xs ≡ records_next (records_from default_config n)
    (next_record default_config s [] [] xs)
unfolding records_from
records_from-one n s xs = rw add-one
