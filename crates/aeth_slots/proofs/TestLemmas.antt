-- Laws of the slots of a table that pass a test, and of sets that are joined or cut by others.
use Rattle.std.proofs.Common.{ℕ, ◌+◌, ◌<◌, ◌≡◌, ◌↔◌, ◌∙◌, zero, suc, Bool, true, false, Contains}
use Rattle.std.proofs.Common.{arith, subst, refl, sym, zero-add}
use Rattle.std.specs.{List.range_with_len, Bool.Decides}
use Rattle.aeth_slots.specs.SlotSet.{Slots, Ascends, slots_where, has_slot}
use Rattle.aeth_slots.proofs.Ascending.{Ascends-bounds, Ascends-filter, same_members}
use Rattle.aeth_base.proofs.Ranges.{Contains-range}
use Rattle.aeth_base.proofs.Members.{Contains-filter, filter-Contains, list_any-Contains}
use Rattle.aeth_base.proofs.Members.{Contains-list_any}

-- The numbers from a first one on ascend.
pub Ascends-range : (low size : ℕ) → Ascends low (low + size) (range_with_len low size)
Ascends-range low zero = tt
Ascends-range low (suc size) =
    let end : (low + 1) + size ≡ low + suc size = omega arith in (
      omega arith,
      omega arith,
      subst (λ (t : ℕ). Ascends (low + 1) t (range_with_len (low + 1) size)) end
          (Ascends-range (low + 1) size),
    )

-- All slots of a table do.
pub Ascends-slots : (size : ℕ) → Ascends 0 size (range_with_len 0 size)
Ascends-slots size = rw zero-add at (Ascends-range 0 size)

-- Whether a set has a slot.
pub has_slot-Decides : (set : Slots) (s : ℕ) → Decides (has_slot set s) (Contains set.slots s)
has_slot-Decides set s = (list_any-Contains set.slots s, Contains-list_any set.slots s)

-- The slots of a table that pass a test ascend.
pub Ascends-where : (size : ℕ) (test : ℕ → Bool) → Ascends 0 size (slots_where size test).slots
Ascends-where size test = Ascends-filter test 0 size (range_with_len 0 size) (Ascends-slots size)

-- They are the slots below the size that pass it.
pub Contains-where : (size : ℕ) (test : ℕ → Bool) (s : ℕ)
    → Contains (slots_where size test).slots s ↔ ((s < size) × (test s ≡ true))
Contains-where size test s = (
  (λ has. let found = filter-Contains test (range_with_len 0 size) s has in
      ((Ascends-bounds 0 size _ (Ascends-slots size) s found.0).1, found.1)),
  (λ (below, passes). Contains-filter test (range_with_len 0 size) s
      (Contains-range 0 size s (omega arith) (omega arith)) passes),
)

-- A set that has the slots that pass a test.
pub is_where : (set : Slots) (size : ℕ) (test : ℕ → Bool) → set.size ≡ size
    → Ascends 0 size set.slots
    → ((s : ℕ) → Contains set.slots s ↔ ((s < size) × (test s ≡ true)))
    → set ≡ slots_where size test
is_where set size test sizes asc same =
    let lists : set.slots ≡ (slots_where size test).slots =
    same_members 0 size set.slots (slots_where size test).slots asc (Ascends-where size test)
    (λ s. (
      (λ has. (Contains-where size test s).1 ((same s).0 has)),
      (λ has. (same s).1 ((Contains-where size test s).0 has)),
    )) in
    λ i. record { size = sizes i; slots = lists i }

-- Tests that agree below the size have the same slots.
pub where-same : (size : ℕ) (test other : ℕ → Bool) → ((s : ℕ) → s < size → test s ≡ other s)
    → slots_where size test ≡ slots_where size other
where-same size test other same =
    is_where (slots_where size test) size other refl (Ascends-where size test) (λ s. (
      (λ has. let found = (Contains-where size test s).0 has in
          (found.0, sym (same s found.0) ∙ found.1)),
      (λ (below, passes). (Contains-where size test s).1 (below, same s below ∙ passes)),
    ))

-- A set has a slot exactly where the slot passes the set's test.
pub has_slot-where : (size : ℕ) (test : ℕ → Bool) (s : ℕ) → s < size
    → has_slot (slots_where size test) s ≡ test s
has_slot-where size test s below =
    let has = has_slot-Decides (slots_where size test) s in
    let is = Contains-where size test s in
    let cases : (a b : Bool) → (a ≡ true → b ≡ true) → (b ≡ true → a ≡ true) → a ≡ b =
    elim [
      | true ↦ λ b on back. sym (on refl)
      | false ↦ elim [
        | true ↦ λ on back. back refl
        | false ↦ λ on back. refl
      ]
    ]
    in cases (has_slot (slots_where size test) s) (test s) (λ t. (is.0 (has.0 t)).1)
    (λ t. has.1 (is.1 (below, t)))
