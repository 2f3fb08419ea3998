-- A list of values for each pair of numbers, row by row.
use Rattle.std.proofs.Common.{◌≡◌, ◌<◌, ◌+◌, ◌*◌, ◌∙◌, ℕ, zero, suc, List, length, map, get_or}
use Rattle.std.proofs.Common.{length-append, sym, ap, arith, flat_map, get_or-append-add}
use Rattle.std.proofs.lemmas.List.{get_or_append_left}
use Rattle.std.proofs.lemmas.List.Concat.{flat_map-cons}
use Rattle.std.proofs.lemmas.List.FromFn.{get_or-map-range_with_len, length-map-range_with_len}
use Rattle.std.specs.List.{range_with_len}

module _ {X : Type 0} (value : ℕ → ℕ → X) (size : ℕ) where
  -- The values of a row.
  abbrev pub row : ℕ → List X
  row u = map (value u) (range_with_len 0 size)

  -- The value of a pair stands at its place.
  pub grid_at : (low rows k v : ℕ) (d : X) → k < rows → v < size
      → get_or (flat_map row (range_with_len low rows)) (k * size + v) d ≡ value (low + k) v
  grid_at low zero k v d within inside = absurd (omega arith)
  grid_at low (suc rows) zero v d within inside =
      let split = flat_map-cons row low (range_with_len (low + 1) rows) in
      let long = length-map-range_with_len (value low) 0 size in
      let place : 0 * size + v ≡ v = omega arith in
      let first : low + 0 ≡ low = omega arith in
      ap (λ (i : ℕ). get_or (flat_map row (range_with_len low (suc rows))) i d) place
      ∙ ap (λ xs. get_or xs v d) split
      ∙ get_or_append_left (row low) (flat_map row (range_with_len (low + 1) rows)) d v
      (omega (arith, long))
      ∙ get_or-map-range_with_len (value low) 0 size v v d inside (omega arith)
      ∙ ap (λ (u : ℕ). value u v) (sym first)
  grid_at low (suc rows) (suc k) v d within inside =
      let split = flat_map-cons row low (range_with_len (low + 1) rows) in
      let long = length-map-range_with_len (value low) 0 size in
      let place : suc k * size + v ≡ length (row low) + (k * size + v) = omega (arith, long) in
      let next : (low + 1) + k ≡ low + suc k = omega arith in
      ap (λ (i : ℕ). get_or (flat_map row (range_with_len low (suc rows))) i d) place
      ∙ ap (λ xs. get_or xs (length (row low) + (k * size + v)) d) split
      ∙ get_or-append-add (row low) (flat_map row (range_with_len (low + 1) rows))
      (k * size + v) d
      ∙ grid_at (low + 1) rows k v d (omega arith) inside
      ∙ ap (λ (u : ℕ). value u v) next

  -- There is a value for each pair.
  pub grid_length : (low rows : ℕ) → length (flat_map row (range_with_len low rows)) ≡ rows * size
  grid_length low zero = omega arith
  grid_length low (suc rows) =
      let split = flat_map-cons row low (range_with_len (low + 1) rows) in
      let long = length-map-range_with_len (value low) 0 size in
      ap length split ∙ length-append (row low) (flat_map row (range_with_len (low + 1) rows))
      ∙ omega (arith, long, grid_length (low + 1) rows)
