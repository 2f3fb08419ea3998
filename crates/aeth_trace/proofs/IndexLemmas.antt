-- Numbers of rows, and the rows with these numbers.
use Rattle.std.proofs.Common.{◌≡◌, ◌∙◌, ◌<◌, ◌+◌, ◌++◌, ◌==◌, ℕ, Bool, List, [], ◌∷◌, length, take}
use Rattle.std.proofs.Common.{map, filter, slice_get, Option, Some, refl, sym, ap, inl, inr}
use Rattle.std.proofs.Common.{if◌then◌else◌, arith, get_or, ◌*◌, ◌&&◌, option_map}
use Rattle.std.proofs.lemmas.Bool.{cases_Bool, Decides.nat_tests}
use Rattle.std.proofs.lemmas.List.{length-map, map-append, take_more, Elements.filter-append}
use Rattle.std.proofs.lemmas.Option.{same_Some, slice_get-map, slice_get-get_or, slice_get_within}
use Rattle.std.proofs.lemmas.Option.{get_or_from_slice_get}
use Rattle.std.specs.declared.{alloc.Global.Global, vec.Vec.Vec}
use Rattle.aeth_base.specs.declared.ids.Channel.{Channel}
use Rattle.aeth_base.specs.declared.ids.Side.{Side, TheVariants.Back, TheVariants.Fwd}
use Rattle.aeth_base.specs.Sides.{same_side}
use Rattle.aeth_base.proofs.Lists.{item-at}
use Rattle.aeth_trace.specs.Channels.{channel_number, is_channel, list_at, rows_on, side_number}

-- There are as many numbers as rows.
pub numbers_length : {R : Type 0} (rows kept : List R) (numbers : List ℕ)
    → map (slice_get rows) numbers ≡ map Some kept → length numbers ≡ length kept
numbers_length rows kept numbers same =
    sym (length-map numbers (slice_get rows)) ∙ ap length same ∙ length-map kept Some

some_same : {R : Type 0} (one other : Option R) → (row : R) × (one ≡ Some row)
    → option_map (λ (row : R). Some row) one ≡ Some other → other ≡ one
some_same one other (row, is) same = rw is (sym (same_Some (Some row) other (rw is at same)))

-- The row with the number at a place stands at this place.
pub numbered : {R : Type 0} (rows kept : List R) (numbers : List ℕ) (place : ℕ)
    → map (slice_get rows) numbers ≡ map Some kept → place < length kept
    → slice_get rows (get_or numbers place 0) ≡ slice_get kept place
numbered {R} rows kept numbers place same within =
    let count = numbers_length rows kept numbers same in
    let number : slice_get numbers place ≡ Some (get_or numbers place 0) =
    slice_get-get_or numbers place 0 (omega arith) in
    let left : slice_get (map (slice_get rows) numbers) place
    ≡ Some (slice_get rows (get_or numbers place 0)) =
    slice_get-map (slice_get rows) numbers place ∙ ap (option_map (slice_get rows)) number in
    let right = slice_get-map (λ (row : R). Some row) kept place in
    let all : option_map Some (slice_get kept place)
    ≡ Some (slice_get rows (get_or numbers place 0)) =
    sym right ∙ ap (λ rs. slice_get rs place) (sym same) ∙ left in
    some_same (slice_get kept place) (slice_get rows (get_or numbers place 0)) (item-at kept place within) all

-- The number at a place is that of a row.
pub numbered_within : {R : Type 0} (rows kept : List R) (numbers : List ℕ) (place : ℕ)
    → map (slice_get rows) numbers ≡ map Some kept → place < length kept
    → get_or numbers place 0 < length rows
numbered_within rows kept numbers place same within =
    let (row, at) = item-at kept place within in
    slice_get_within rows (get_or numbers place 0) row
    (numbered rows kept numbers place same within ∙ at)

-- One more row, whose number is put behind the others where it passes the test.
pub numbers-more : {R : Type 0} (test : R → Bool) (rows : List R) (row : R) (number : ℕ)
    (numbers : List ℕ) → slice_get rows number ≡ Some row
    → map (slice_get rows) numbers ≡ map Some (filter test (take number rows))
    → map (slice_get rows) (numbers ++ (if test row then number ∷ [] else []))
    ≡ map Some (filter test (take (number + 1) rows))
numbers-more test rows row number numbers at same =
    let more : take (number + 1) rows ≡ take number rows ++ row ∷ [] =
    take_more rows number row (slice_get_within rows number row at)
    ∙ ap (λ x. take number rows ++ x ∷ []) (get_or_from_slice_get rows number row row at) in
    rw (
      map-append (slice_get rows) numbers (if test row then number ∷ [] else []),
      same,
      more,
      filter-append test (take number rows) (row ∷ []),
      map-append Some (filter test (take number rows)) (filter test (row ∷ [])),
    ) (elim (cases_Bool (test row)) [
      | inl passes ↦ rw (passes, at) refl
      | inr fails ↦ rw fails refl
    ])

-- Numbers of sides differ as sides do, also beside twice a number.
pub same_sides : (a b : ℕ) (one other : Side)
    → (2 * a + side_number one == 2 * b + side_number other) ≡ (a == b && same_side one other)
same_sides a b Fwd Fwd = grind (arith, nat_tests)
same_sides a b Fwd Back = grind (arith, nat_tests)
same_sides a b Back Fwd = grind (arith, nat_tests)
same_sides a b Back Back = grind (arith, nat_tests)

-- One more row, whose number was put at the end of its channel's list.
pub listed-more : {R : Type 0} (on : R → Channel) (rows : List R) (row : R) (number : ℕ)
    (old new : List (Vec ℕ Global)) → slice_get rows number ≡ Some row
    → ((channel : Channel) → map (slice_get rows) (list_at old (channel_number channel))
    ≡ map Some (rows_on on channel (take number rows)))
    → ((other : ℕ) → list_at new other ≡ list_at old other
    ++ (if other == channel_number (on row) then number ∷ [] else []))
    → (channel : Channel) → map (slice_get rows) (list_at new (channel_number channel))
    ≡ map Some (rows_on on channel (take (number + 1) rows))
listed-more on rows row number old new at listed pushed channel =
    let same = same_sides channel.conn.0 (on row).conn.0 channel.side (on row).side in
    rw (pushed (channel_number channel), same)
    (numbers-more (λ one. is_channel channel (on one)) rows row number
    (list_at old (channel_number channel)) at (listed channel))
