-- The place of the first element that passes a test.
use Rattle.std.proofs.Common.{◌≡◌, ◌∙◌, ◌<◌, ℕ, Bool, true, false, List, [], ◌∷◌, None, Some}
use Rattle.std.proofs.Common.{Contains, cond, get_or, length, ltb, refl, sym, ap, arith, position}
use Rattle.std.proofs.Common.{slice_get, lt-ltb, ltb-false, ltb-true}
use Rattle.std.proofs.lemmas.Bool.{both_ways}
use Rattle.std.proofs.lemmas.List.Elements.{Contains-get_or}
use Rattle.std.proofs.lemmas.List.Sums.{fails_before_first, passes_at_first, position_or_len_is}
use Rattle.std.proofs.lemmas.Option.{get_or_from_slice_get, none-some, slice_get_within}
use Rattle.std.specs.List.{position_or_len}

-- Where no element passes a test, each fails it.
pub none-passes : {X : Type 0} (test : X → Bool) (xs : List X) → position test xs ≡ None → (x : X)
    → Contains xs x → test x ≡ false
none-passes test xs none x (k, low, at) =
    let go : (b : Bool) → ltb (position_or_len test xs) (length xs) ≡ b
    → cond b (Some (position_or_len test xs)) None ≡ None → test x ≡ false =
    elim [
      | true ↦ λ within some. absurd (none-some (position_or_len test xs) (sym some))
      | false ↦ λ past same.
          let end = ltb-false (position_or_len test xs) (length xs) past in
          ap test (sym at) ∙ fails_before_first test xs k x (omega (arith, end, low))
    ]
    in go (ltb (position_or_len test xs) (length xs)) refl none

passes-at : {X : Type 0} (test : X → Bool) (xs : List X) → position_or_len test xs < length xs
    → (x : X) × Contains xs x × (test x ≡ true)
passes-at test [] low = absurd (omega (arith, low))
passes-at test (x ∷ xs) low =
    let place = position_or_len test (x ∷ xs) in (
      get_or (x ∷ xs) place x,
      Contains-get_or (x ∷ xs) place x low,
      passes_at_first test (x ∷ xs) x low,
    )

-- Where each fails it, none passes.
pub passes-none : {X : Type 0} (test : X → Bool) (xs : List X)
    → ((x : X) → Contains xs x → test x ≡ false) → position test xs ≡ None
passes-none test xs fails =
    let go : (b : Bool) → ltb (position_or_len test xs) (length xs) ≡ b
    → cond b (Some (position_or_len test xs)) None ≡ None =
    elim [
      | true ↦ λ within.
          let low = ltb-true (position_or_len test xs) (length xs) within in
          let first = passes-at test xs low in
          absurd (both_ways _ (fails first.0 first.1) first.2)
      | false ↦ λ past. refl
    ]
    in go (ltb (position_or_len test xs) (length xs)) refl

-- The first that passes, where those before it fail.
pub position-at : {X : Type 0} (test : X → Bool) (xs : List X) (i : ℕ) (x : X)
    → slice_get xs i ≡ Some x → ((k : ℕ) → k < i → test (get_or xs k x) ≡ false)
    → test x ≡ true → position test xs ≡ Some i
position-at test xs i x at before passes =
    let low = slice_get_within xs i x at in
    let first : position_or_len test xs ≡ i =
    position_or_len_is test xs i x (omega (arith, low)) before
    (λ within. ap test (get_or_from_slice_get xs i x x at) ∙ passes) in
    ap (λ n. cond (ltb n (length xs)) (Some n) None) first
    ∙ ap (λ b. cond b (Some i) None) (lt-ltb i (length xs) low)
