-- Laws of free starts: a path with one more link, and what a set has without taken slots.
use Rattle.std.proofs.Common.{◌≡◌, ◌∙◌, ◌<◌, ◌≤◌, ◌+◌, ◌-◌, ◌*◌, ◌/◌, ◌%◌, ◌++◌, ◌&&◌, ℕ, Bool}
use Rattle.std.proofs.Common.{true, false, not, eqb, List, [], ◌∷◌, refl, sym, ap, arith, filter}
use Rattle.std.proofs.Common.{eq-eqb, eqb-true}
use Rattle.std.proofs.Math.Nat.{add-mod_right, add-mul-mod_self_left, div-add-mod, mod-add-mod}
use Rattle.std.proofs.Math.Nat.{mod-eq_of_lt, mod-lt}
use Rattle.std.proofs.lemmas.List.Sums.{sum_by-cons}
use Rattle.std.specs.List.{range_with_len}
use Rattle.aeth_base.specs.declared.ids.{LinkId.LinkId, Unit.Unit as GroupUnit}
use Rattle.aeth_chip.specs.Paths.{delay_of, path_delay}
use Rattle.aeth_slots.specs.SlotSet.{Slots, IsSlotSet, has_slot, rotated, slots_where, without}
use Rattle.aeth_slots.proofs.{Ascending.Ascends-bounds, TestLemmas.Contains-where}
use Rattle.aeth_group.proofs.OccupationLemmas.{is_at}
use Rattle.aeth_group.proofs.ListLemmas.{any_from_passes, passes_from_any, same_tests}
use Rattle.aeth_group.proofs.TableLemmas.{has_slot-rotated}
use Rattle.aeth_book.specs.Book.{BookData}
use Rattle.aeth_book.specs.Free.{is_open, is_taken, narrowed, taken_slots}
use Rattle.aeth_book.proofs.FilterLemmas.{filter_same, filter_twice}

and-assoc : (a b c : Bool) → (a && (b && c)) ≡ ((a && b) && c)
and-assoc true b c = refl
and-assoc false b c = refl

and-true : (a : Bool) → (a && true) ≡ a
and-true true = refl
and-true false = refl

-- Whether a flit meets no rival on a link that it enters so many cycles after its start.
abbrev pub is_clear : BookData → GroupUnit → LinkId → ℕ → ℕ → Bool
is_clear book unit k after x = not (is_taken book unit k.0 ((x + after) % book.size))

-- A path with one more link is open where it was and the link is clear.
pub is_open-push : (book : BookData) (unit : GroupUnit) (after : ℕ) (path : List LinkId)
    (k : LinkId) (x : ℕ) → is_open book unit after (path ++ k ∷ []) x
    ≡ (is_open book unit after path x
    && is_clear book unit k (after + path_delay book.links path) x)
is_open-push book unit after [] k x =
    let now : after + 0 ≡ after = omega arith in
    rw now (and-true _)
is_open-push book unit after (j ∷ path) k x =
    let delay : after + path_delay book.links (j ∷ path)
    ≡ (after + delay_of book.links j) + path_delay book.links path =
    omega (arith, sum_by-cons (delay_of book.links) j path) in
    rw delay (
    ap (λ b. is_clear book unit j after x && b)
    (is_open-push book unit (after + delay_of book.links j) path k x)
    ∙ and-assoc (is_clear book unit j after x) _ _
    )

-- The free starts of a path with one more link are those of the path that the link leaves.
pub free-push : (book : BookData) (unit : GroupUnit) (path : List LinkId) (k : LinkId)
    → narrowed book unit k.0 (path_delay book.links path)
    (slots_where book.size (is_open book unit 0 path))
    ≡ slots_where book.size (is_open book unit 0 (path ++ k ∷ []))
free-push book unit path k =
    let now : 0 + path_delay book.links path ≡ path_delay book.links path = omega arith in
    let lists : filter (is_clear book unit k (path_delay book.links path))
    (filter (is_open book unit 0 path) (range_with_len 0 book.size))
    ≡ filter (is_open book unit 0 (path ++ k ∷ [])) (range_with_len 0 book.size) =
    filter_twice (is_open book unit 0 path) (is_clear book unit k (path_delay book.links path))
    (is_open book unit 0 (path ++ k ∷ [])) (range_with_len 0 book.size)
    (λ x has. sym (is_open-push book unit 0 path k x ∙ rw now refl)) in
    λ i. record { size = book.size; slots = lists i }

-- Slots that go round the table as often as it is long come back.
round_and_back : (x a b size q : ℕ) → x < size → a + b ≡ size + size * q
    → ((x + a) % size + b) % size ≡ x
round_and_back x a b size q below whole =
    let sum : (x + a) + b ≡ (x + size) + size * q = omega (arith, whole) in
    mod-add-mod (x + a) size b ∙ ap (λ n. n % size) sum
    ∙ add-mul-mod_self_left (x + size) size q ∙ add-mod_right x size ∙ mod-eq_of_lt below

-- How far back a start is from the slot in which its flit enters a link so many cycles later.
abbrev pub back_by : ℕ → ℕ → ℕ
back_by offset size = size - offset % size

back-whole : (offset size : ℕ) → 1 ≤ size
    → offset + back_by offset size ≡ size + size * (offset / size)
back-whole offset size some =
    omega (arith, div-add-mod offset size, mod-lt offset {m = size} (omega arith))

-- The slots of a set, so far back, are the starts whose flits enter in one of them.
is_at-back : (size offset x : ℕ) (test : ℕ → Bool) → x < size
    → is_at (slots_where size test) (back_by offset size) x ≡ test ((x + offset) % size)
is_at-back size offset x test below =
    let whole = back-whole offset size (omega arith) in
    let whole' : back_by offset size + offset ≡ size + size * (offset / size) =
    omega (arith, whole) in
    let at : ℕ = (x + offset) % size in
    let within : at < size = mod-lt (x + offset) {m = size} (omega arith) in
    same_tests _ _
    (λ found. let start = passes_from_any (λ t. eqb ((t + back_by offset size) % size) x)
    (slots_where size test).slots found in
    let is = (Contains-where size test start.item).0 start.is_in in
    let back : at ≡ start.item =
    ap (λ y. (y + offset) % size) (sym (eqb-true _ _ start.passes))
    ∙ round_and_back start.item (back_by offset size) offset size (offset / size) is.0 whole' in
    ap test back ∙ is.1)
    (λ passes. any_from_passes (λ t. eqb ((t + back_by offset size) % size) x)
    (slots_where size test).slots at ((Contains-where size test at).1 (within, passes))
    (eq-eqb _ _ (round_and_back x offset (back_by offset size) size (offset / size) below whole)))

-- What a set has without the taken slots, so far back, are the starts that the link leaves.
pub narrowed-without : (book : BookData) (unit : GroupUnit) (l offset : ℕ) (set : Slots)
    → IsSlotSet set → set.size ≡ book.size
    → without set (rotated (back_by offset book.size) (taken_slots book unit l))
    ≡ narrowed book unit l offset set
narrowed-without book unit l offset set is_set sizes =
    let back : ℕ = back_by offset book.size in
    let lists : filter (λ x. not (has_slot (rotated back (taken_slots book unit l)) x)) set.slots
    ≡ filter (λ x. not (is_taken book unit l ((x + offset) % book.size))) set.slots =
    filter_same (λ x. not (has_slot (rotated back (taken_slots book unit l)) x))
    (λ x. not (is_taken book unit l ((x + offset) % book.size))) set.slots
    (λ x is_in. let below = (Ascends-bounds 0 set.size set.slots is_set.ascends x is_in).1 in
    ap not (has_slot-rotated (taken_slots book unit l) back x
    ∙ is_at-back book.size offset x (is_taken book unit l) (omega (arith, below, sizes)))) in
    λ i. record { size = set.size; slots = lists i }
