-- Laws of masks: the list of a mask's ones, and the sets that masks stand for.
use Rattle.std.proofs.Common.{ℕ, min, ◌+◌, ◌*◌, ◌/◌, ◌%◌, ◌^◌, ◌<◌, ◌≤◌, ◌≡◌, ◌↔◌, ◌∙◌, zero, suc}
use Rattle.std.proofs.Common.{Bool, true, false, cond, eqb, List, [], ◌∷◌, Contains, sym, refl, ap}
use Rattle.std.proofs.Common.{subst, inl, inr, arith, IsTrue, bit_and, bit_or, zero-add}
use Rattle.std.specs.Int.{bit_at, Width, w128}
use mir.Val.{bits}
use Rattle.std.proofs.lemmas.Nat.{one_shl, or_lt, pow_below}
use Rattle.std.proofs.lemmas.Nat.Bits.{bit_at-zero, shr_and_one, bit_at-lt, bit_at_and}
use Rattle.std.proofs.lemmas.Nat.Bits.{bit_at_set_same, bit_at_set_other}
use Rattle.std.proofs.lemmas.Bool.{cases_eq, eqb-true, eq-eqb}
use Rattle.std.proofs.lemmas.Bool.Decides.{same_from_decides, Decides-eqb}
use Rattle.aeth_base.specs.Limits.{max_slots}
use Rattle.aeth_slots.specs.Bits.{IsMask, ones_from, mask_of}
use Rattle.aeth_slots.specs.BitLemmas.{mask_of-ones}
use Rattle.aeth_slots.specs.SlotSet.{Slots, IsSlotSet, Ascends, same_set, with_slot, common}
use Rattle.aeth_base.proofs.Members.{Contains-nil, Contains-there, Contains-cases}
use Rattle.aeth_base.proofs.TestLemmas.{IsTrue_from_true, true_from_IsTrue}
use Rattle.aeth_slots.proofs.Ascending.{Ascends-bounds, Ascends-wider, Ascends-with_slot}
use Rattle.aeth_slots.proofs.Ascending.{Ascends-filter, with_slot-new, with_slot-old}
use Rattle.aeth_slots.proofs.Ascending.{with_slot-cases, same_members}
use Rattle.aeth_slots.proofs.SlotSetLemmas.{Contains-common, same_set-Decides}

-- How many bits a mask has: with the type of masks, all that is said of their width.
abbrev pub mask_width : Width
mask_width = w128

-- A bit that isn't one is zero.
pub zero_bit : (b : ℕ) → b < 2 → (b ≡ 1 → ⊥) → b ≡ 0
zero_bit zero bit other = refl
zero_bit (suc zero) bit other = absurd (other refl)
zero_bit (suc (suc b)) bit other = absurd (omega arith)

-- A one of a mask is in the list of its ones.
pub Contains-ones : (mask at n s : ℕ) → at ≤ s → s < at + n → bit_at mask s ≡ 1
    → Contains (ones_from mask at n) s
Contains-ones mask at zero s least most one = absurd (omega arith)
Contains-ones mask at (suc n) s least most one =
    elim (cases_eq at s) [
      | inl here ↦ rw (eq-eqb (bit_at mask at) 1 (ap (bit_at mask) here ∙ one))
          (0, omega arith, here)
      | inr later ↦ let rest : Contains (ones_from mask (at + 1) n) s =
          Contains-ones mask (at + 1) n s (omega arith) (omega arith) one in
          elim (eqb (bit_at mask at) 1)
          as (λ v. Contains
          (cond v (at ∷ ones_from mask (at + 1) n) (ones_from mask (at + 1) n)) s) [
            | true ↦ Contains-there at _ s rest
            | false ↦ rest
          ]
    ]

-- What is in the list of a mask's ones is a one of the mask.
pub ones-Contains : (mask at n s : ℕ) → Contains (ones_from mask at n) s
    → (at ≤ s) × (s < at + n) × (bit_at mask s ≡ 1)
ones-Contains mask at zero s has = Contains-nil has
ones-Contains mask at (suc n) s has =
    let cases : (v : Bool) → eqb (bit_at mask at) 1 ≡ v
    → Contains (cond v (at ∷ ones_from mask (at + 1) n) (ones_from mask (at + 1) n)) s
    → (at ≤ s) × (s < at + suc n) × (bit_at mask s ≡ 1) =
    elim [
      | true ↦ λ one kept. elim (Contains-cases at _ s kept) [
        | inl here ↦ (omega arith, omega arith, ap (bit_at mask) (sym here) ∙ eqb-true _ _ one)
        | inr later ↦ let found = ones-Contains mask (at + 1) n s later in
            (omega arith, omega arith, found.2)
      ]
      | false ↦ λ other kept. let found = ones-Contains mask (at + 1) n s kept in
          (omega arith, omega arith, found.2)
    ]
    in cases (eqb (bit_at mask at) 1) refl has

-- The list of a mask's ones ascends.
pub Ascends-ones : (mask at n : ℕ) → Ascends at (at + n) (ones_from mask at n)
Ascends-ones mask at zero = tt
Ascends-ones mask at (suc n) =
    let end : (at + 1) + n ≡ at + suc n = omega arith in
    let rest : Ascends (at + 1) (at + suc n) (ones_from mask (at + 1) n) =
    subst (λ (t : ℕ). Ascends (at + 1) t (ones_from mask (at + 1) n)) end
    (Ascends-ones mask (at + 1) n) in
    elim (eqb (bit_at mask at) 1)
    as (λ v. Ascends at (at + suc n)
    (cond v (at ∷ ones_from mask (at + 1) n) (ones_from mask (at + 1) n))) [
      | true ↦ (omega arith, omega arith, rest)
      | false ↦ Ascends-wider (at + 1) (at + suc n) at (at + suc n) _ (omega arith) (omega arith)
          rest
    ]

-- The list of a mask over a table's slots ascends below the size.
pub Ascends-mask : (mask size : ℕ) → Ascends 0 size (ones_from mask 0 size)
Ascends-mask mask size = rw zero-add at (Ascends-ones mask 0 size)

-- The list of a mask's ones is the ascending list with these numbers.
pub ones-is : (mask size : ℕ) (xs : List ℕ) → Ascends 0 size xs
    → ((s : ℕ) → s < size → bit_at mask s ≡ 1 → Contains xs s)
    → ((s : ℕ) → Contains xs s → bit_at mask s ≡ 1) → ones_from mask 0 size ≡ xs
ones-is mask size xs asc found one =
    same_members 0 size (ones_from mask 0 size) xs (Ascends-mask mask size) asc (λ s. (
      (λ has. let is = ones-Contains mask 0 size s has in found s (omega (arith, is.1)) is.2),
      (λ has. let within = (Ascends-bounds 0 size xs asc s has).1 in
          Contains-ones mask 0 size s (omega arith) (omega (arith, within)) (one s has)),
    ))

-- A slot is in the list of a mask's ones exactly where its bit is one.
pub ones-iff : (mask size s : ℕ) → s < size
    → Contains (ones_from mask 0 size) s ↔ (bit_at mask s ≡ 1)
ones-iff mask size s within = (
  (λ has. (ones-Contains mask 0 size s has).2),
  (λ one. Contains-ones mask 0 size s (omega arith) (omega arith) one),
)

-- What a slot set's view is, of its size and mask.
abbrev pub IsView : ℕ → ℕ → Slots → Type 0
IsView size mask set = record { size = size; slots = ones_from mask 0 size } ≡ set

-- A mask makes the set that has the slots of its ones.
pub view-is : (size mask : ℕ) (set : Slots) → size ≡ set.size → Ascends 0 size set.slots
    → ((s : ℕ) → s < size → bit_at mask s ≡ 1 → Contains set.slots s)
    → ((s : ℕ) → Contains set.slots s → bit_at mask s ≡ 1) → IsView size mask set
view-is size mask set sizes asc found one =
    λ i. record { size = sizes i; slots = ones-is mask size set.slots asc found one i }

-- The mask 0 has no slot.
pub view-empty : (size : ℕ) → IsView size 0 (record { size = size; slots = [] })
view-empty size = view-is size 0 (record { size = size; slots = [] }) refl tt
    (λ s within one. absurd (omega (arith, one, bit_at-zero s))) (λ s has. Contains-nil has)

-- What the view of a size and a mask is holds of every slot set.
pub view-set : (size mask : ℕ) (set : Slots) → IsView size mask set → 1 ≤ size → size ≤ max_slots
    → IsSlotSet set
view-set size mask set view some most =
    subst IsSlotSet view
    (record { some_size = some; within = most; ascends = Ascends-mask mask size })

-- The test of a bit says whether the slot is in the set.
pub view-has : (size mask s : ℕ) (set : Slots) → IsView size mask set → s < set.size
    → IsTrue (eqb (bit_and (mask / 2 ^ s) 1) 1) ↔ Contains set.slots s
view-has size mask s set view within =
    let below : s < size = omega (arith, ap (λ (v : Slots). v.size) view) in
    let iff = ones-iff mask size s below in
    rw (shr_and_one mask s, ← ap (λ (v : Slots). v.slots) view) (
      (λ test. iff.1 (eqb-true _ _ (true_from_IsTrue _ test))),
      (λ has. IsTrue_from_true _ (eq-eqb _ _ (iff.0 has))),
    )

-- A slot of the view is a one of the mask below the size.
pub view-member : (size mask : ℕ) (set : Slots) → IsView size mask set → (s : ℕ)
    → Contains set.slots s → (s < size) × (bit_at mask s ≡ 1)
view-member size mask set view s has =
    let found =
    ones-Contains mask 0 size s (subst (λ (v : Slots). Contains v.slots s) (sym view) has) in
    (omega (arith, found.1), found.2)

-- A one of the mask below the size is a slot of the view.
pub member-view : (size mask : ℕ) (set : Slots) → IsView size mask set → (s : ℕ) → s < size
    → bit_at mask s ≡ 1 → Contains set.slots s
member-view size mask set view s within one =
    subst (λ (v : Slots). Contains v.slots s) view
    (Contains-ones mask 0 size s (omega arith) (omega arith) one)

-- The view's list ascends below the size.
pub view-ascends : (size mask : ℕ) (set : Slots) → IsView size mask set → Ascends 0 size set.slots
view-ascends size mask set view =
    subst (λ (v : Slots). Ascends 0 size v.slots) view (Ascends-mask mask size)

-- The mask with one bit more makes the set with this slot put in.
pub view-insert : (w : Width) (size mask s : ℕ) (set : Slots) → IsView size mask set → s < set.size
    → size ≤ bits w
    → IsView size (bit_or mask (1 * 2 ^ s % 2 ^ bits w))
    (record { size = set.size; slots = with_slot s set.slots })
view-insert w size mask s set view below most =
    let sizes : size ≡ set.size = ap (λ (v : Slots). v.size) view in
    view-is size (bit_or mask (1 * 2 ^ s % 2 ^ bits w))
    (record { size = set.size; slots = with_slot s set.slots }) sizes
    (Ascends-with_slot 0 size s set.slots (omega arith) (omega arith)
    (view-ascends size mask set view))
    (λ t within one. elim (cases_eq t s) [
      | inl same ↦ rw same (with_slot-new s set.slots)
      | inr other ↦ with_slot-old s set.slots t
          (member-view size mask set view t within
          (sym (bit_at_set_other w mask s (omega arith) t other) ∙ one))
    ])
    (λ t has. elim (cases_eq t s) [
      | inl same ↦ rw same (bit_at_set_same w mask s (omega arith))
      | inr other ↦ elim (with_slot-cases s set.slots t has) [
        | inl same ↦ absurd (other (sym same))
        | inr old ↦ bit_at_set_other w mask s (omega arith) t other
            ∙ (view-member size mask set view t old).1
      ]
    ])

-- The mask with one bit more is a mask of the table's slots too.
pub insert-mask : (w : Width) (size mask s : ℕ) → s < size → size ≤ bits w → IsMask size mask
    → IsMask size (bit_or mask (1 * 2 ^ s % 2 ^ bits w))
insert-mask w size mask s below most is = record {
  some_size = is.some_size;
  within = is.within;
  below = rw (one_shl s (bits w) (omega arith))
      (or_lt size mask (2 ^ s) is.below (pow_below s size below));
}

-- The masks of two sets have together the slots that both sets have.
pub view-common : (size mask other : ℕ) (set set' : Slots) → IsView size mask set
    → IsView size other set' → IsView size (bit_and mask other) (common set set')
view-common size mask other set set' view view' =
    let sizes : size ≡ set.size = ap (λ (v : Slots). v.size) view in
    view-is size (bit_and mask other) (common set set') sizes
    (Ascends-filter _ 0 size set.slots (view-ascends size mask set view))
    (λ s within one.
    let both : bit_at (bit_and mask other) s ≡ min (bit_at mask s) (bit_at other s) =
    bit_at_and mask other s in
    let small = bit_at-lt mask s in
    let small' = bit_at-lt other s in
    (Contains-common set set' s).1 (
      member-view size mask set view s within (omega arith),
      member-view size other set' view' s within (omega arith),
    ))
    (λ s has.
    let found = (Contains-common set set' s).0 has in
    omega (
      arith,
      bit_at_and mask other s,
      (view-member size mask set view s found.0).1,
      (view-member size other set' view' s found.1).1,
    ))

-- Two views of one size are equal exactly where their masks are.
pub view-same : (size mask other : ℕ) (set set' : Slots) → IsView size mask set
    → IsView size other set' → mask < 2 ^ size → other < 2 ^ size
    → eqb mask other ≡ same_set set set'
view-same size mask other set set' view view' small small' =
    let from_sets : set ≡ set' → mask ≡ other = λ same.
    let lists : ones_from mask 0 size ≡ ones_from other 0 size =
    ap (λ (s : Slots). s.slots) (view ∙ same ∙ sym view') in
    sym (mask_of-ones size mask small) ∙ ap mask_of lists ∙ mask_of-ones size other small' in
    same_from_decides (eqb mask other) (same_set set set') (Decides-eqb mask other) (
      (λ test. from_sets ((same_set-Decides set set').0 test)),
      (λ same. (same_set-Decides set set').1
          (sym view ∙ ap (λ m. record { size = size; slots = ones_from m 0 size }) same ∙ view')),
    )
