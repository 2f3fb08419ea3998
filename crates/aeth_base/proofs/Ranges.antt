-- Laws of the numbers from a first one on.
use Rattle.std.proofs.Common.{◌≡◌, ◌<◌, ◌≤◌, ◌+◌, ◌-◌, ◌++◌, ◌∙◌, ℕ, zero, suc, [], ◌∷◌, Some, refl}
use Rattle.std.proofs.Common.{ap, arith, map, slice_get, sym}
use Rattle.std.proofs.lemmas.List.FromFn.{length-range_with_len, get_or-range_with_len}
use Rattle.std.proofs.lemmas.List.FromFn.{length-map-range_with_len, get_or-map-range_with_len}
use Rattle.std.proofs.lemmas.Option.{same_Some, slice_get-get_or, slice_get_within}
use Rattle.std.specs.List.{range_with_len, All, Contains}

-- One more number is the next one behind those before.
pub range_with_len-more : (start size last : ℕ) → start + size ≡ last
    → range_with_len start (suc size) ≡ range_with_len start size ++ last ∷ []
range_with_len-more start zero last is =
    let same : start ≡ last = omega arith in ap (λ n. n ∷ []) same
range_with_len-more start (suc size) last is =
    ap (λ ns. start ∷ ns) (range_with_len-more (start + 1) size last (omega arith))

-- The numbers below an end that aren't passed begin with the next one.
pub range_more : (i n : ℕ) → i < n
    → range_with_len i (n - i) ≡ i ∷ range_with_len (i + 1) (n - (i + 1))
range_more i n within =
    let more : n - i ≡ suc (n - (i + 1)) = omega arith in
    rw more refl

-- What stands at a place of their images is the image of the number there.
pub map-range-at : {X : Type 0} (f : ℕ → X) (start size i : ℕ) (x : X)
    → slice_get (map f (range_with_len start size)) i ≡ Some x → (i < size) × (x ≡ f (start + i))
map-range-at f start size i x at =
    let images = map f (range_with_len start size) in
    let within = slice_get_within images i x at in
    let count = length-map-range_with_len f start size in
    let low : i < size = omega (arith, within, count) in (
      low,
      same_Some x (f (start + i)) (sym at ∙ slice_get-get_or images i x within
          ∙ ap Some (get_or-map-range_with_len f start size i (start + i) x low refl)),
    )

-- Each number from the first one on and below the end is one of them.
pub Contains-range : (low size x : ℕ) → low ≤ x → x < low + size
    → Contains (range_with_len low size) x
Contains-range low size x least most =
    let there : low + (x - low) ≡ x = omega arith in (
      x - low,
      rw (length-range_with_len low size) (omega arith),
      get_or-range_with_len low size (x - low) x (omega arith) ∙ there,
    )

-- Each of the numbers from 0 on is below the count.
pub range-Contains : (n x : ℕ) → Contains (range_with_len 0 n) x → x < n
range-Contains n x (place, within, at) =
    let size = length-range_with_len 0 n in
    let low : place < n = omega arith in
    let there = get_or-range_with_len 0 n place x low in
    omega arith

-- The same of all of them.
pub All-range : (n : ℕ) → All (λ i. i < n) (range_with_len 0 n)
All-range n place default within =
    let size = length-range_with_len 0 n in
    let at = get_or-range_with_len 0 n place default in
    omega (arith, at (omega arith))
