-- Laws of rounds: they are the suitable subsets, and a slot that was left out can be put in.
use Rattle.std.proofs.Common.{ℕ, ◌+◌, ◌-◌, ◌<◌, ◌≤◌, ◌≡◌, zero, suc, List, [], ◌∷◌, length}
use Rattle.std.proofs.Common.{Contains, sym, refl, ap, subst, inl, inr, arith}
use Rattle.aeth_slots.specs.{SlotSet.Slots, SlotSet.IsSlotSet, Choice.IsSuitable, Choice.sublists}
use Rattle.aeth_slots.specs.{Choice.subsets, Ways.IsWay, Ways.IsRound, Ways.HasRound}
use Rattle.aeth_slots.proofs.Ascending.{Ascends-bounds}
use Rattle.aeth_slots.proofs.Sublists.{above_head, sublist-member, sublist-ascends}
use Rattle.aeth_slots.proofs.Sublists.{sublist-from_members, sublist-length, sublist-whole}
use Rattle.aeth_slots.proofs.Ways.{way_ascends, way_free, way_near, way_from, way_nearer, way_end}
use Rattle.aeth_slots.proofs.Ways.{way_more}
use Rattle.aeth_base.proofs.Members.{Contains-nil, Contains-here, Contains-there, Contains-cases}
use Rattle.aeth_base.proofs.Members.{Contains-map, map-Contains}

-- A set over the slots of a free set.
abbrev pub set_of : Slots → List ℕ → Slots
set_of free slots = record { size = free.size; slots = slots }

-- The free slots lie below the size.
pub free_below : {free : Slots} → IsSlotSet free → (slot : ℕ) → Contains free.slots slot
    → slot < free.size
free_below {free} is slot has = (Ascends-bounds 0 free.size free.slots is.ascends slot has).1

-- A round is a subset of the free set.
pub round-subset : (free : Slots) (gap : ℕ) (round : List ℕ) → IsSlotSet free
    → IsRound free gap round → Contains (subsets free) (set_of free round)
round-subset free gap [] is round = absurd round
round-subset free gap (first ∷ way) is round =
    let below = free_below {free = free} is in
    Contains-map (set_of free) (sublists free.slots) (first ∷ way)
    (sublist-from_members 0 free.size free.slots (first ∷ way) is.ascends (
      omega arith,
      below first round.0,
      way_ascends free.slots (first + free.size) gap free.size
          first way below round.1,
    )
    (λ slot has. elim (Contains-cases first way slot has) [
      | inl same ↦ subst (Contains free.slots) same round.0
      | inr later ↦ way_free free.slots (first + free.size) gap first way round.1 slot later
    ]))

-- Its gap isn't above the limit, and it has a slot.
pub round-suitable : (free : Slots) (need gap : ℕ) (round : List ℕ) → IsRound free gap round
    → need ≤ length round → IsSuitable need gap (set_of free round)
round-suitable free need gap [] round enough = absurd round
round-suitable free need gap (first ∷ way) round enough = record {
  some = omega arith;
  enough = enough;
  near = way_near free.slots (first + free.size) gap first way round.1;
}

-- A suitable sublist is a round.
sublist-round : (free : Slots) (need gap : ℕ) (slots : List ℕ) → IsSlotSet free
    → Contains (sublists free.slots) slots → IsSuitable need gap (set_of free slots)
    → IsRound free gap slots
sublist-round free need gap [] is sub suitable = absurd (omega (arith, suitable.some))
sublist-round free need gap (first ∷ way) is sub suitable =
    let asc = sublist-ascends 0 free.size free.slots (first ∷ way) is.ascends sub in
    let within = sublist-member free.slots (first ∷ way) sub in (
      within first (Contains-here first way),
      way_from free.slots (first + free.size) gap free.size first way asc.2
          (λ slot has. within slot (Contains-there first way slot has)) suitable.near,
    )

-- A suitable subset is a round.
pub subset-round : (free : Slots) (need gap : ℕ) (set : Slots) → IsSlotSet free
    → Contains (subsets free) set → IsSuitable need gap set → IsRound free gap set.slots
subset-round free need gap set is subset suitable =
    let (slots, same, sub) = map-Contains (set_of free) (sublists free.slots) set subset in
    subst (λ (s : Slots). IsRound free gap s.slots) same
    (sublist-round free need gap slots is sub (subst (IsSuitable need gap) (sym same) suitable))

-- A subset has the size of the table.
pub subset-size : (free set : Slots) → Contains (subsets free) set → set.size ≡ free.size
subset-size free set subset =
    let (slots, same, sub) = map-Contains (set_of free) (sublists free.slots) set subset in
    sym (ap (λ (s : Slots). s.size) same)

-- ---- one slot more

-- A round of fewer slots than are free can take one more.
round-more : (size gap : ℕ) (slots round : List ℕ)
    → IsSlotSet (record { size = size; slots = slots })
    → IsRound (record { size = size; slots = slots }) gap round
    → length round < length slots
    → HasRound (record { size = size; slots = slots }) gap (suc (length round))
round-more size gap slots [] is round short = absurd round
round-more size gap [] (first ∷ way) is round short = Contains-nil round.0
round-more size gap (least ∷ slots) (first ∷ way) is round short =
    let free : Slots = record { size = size; slots = least ∷ slots } in
    let below = free_below {free = free} is in
    elim (Contains-cases least slots first round.0) [
      | inl same ↦
          let onward : IsWay (least ∷ slots) (least + size) gap least way =
          subst (λ (k : ℕ). IsWay (least ∷ slots) (k + size) gap k way) (sym same) round.1 in
          let (longer, is_way, count) =
          way_more (least ∷ slots) (least + size) gap size least slots way (omega arith)
          is.ascends.2
          (λ slot has. Contains-there least slots slot has)
          (λ slot has after. above_head least slots slot has after) onward (omega arith) in
          (least ∷ longer, (Contains-here least slots, is_way), omega arith)
      | inr later ↦
          let after : least < first =
          omega (arith, (Ascends-bounds (least + 1) size slots is.ascends.2 first later).0) in
          let near : first + size < size + gap =
          way_end (least ∷ slots) (first + size) gap size first way below (below first round.0)
          round.1 in (
            least ∷ first ∷ way,
            (
              Contains-here least slots,
              (
                round.0,
                after,
                omega arith,
                way_nearer (least ∷ slots) (first + size) (least + size) gap first way
                    (omega arith) round.1,
              ),
            ),
            refl,
          )
    ]

-- There is a round of any number of slots from that of a round up to that of the free slots.
pub round-up : (free : Slots) (gap count more : ℕ) → IsSlotSet free → HasRound free gap count
    → count + more ≤ length free.slots → HasRound free gap (count + more)
round-up free gap count zero is has room =
    subst (HasRound free gap) (let same : count ≡ count + 0 = omega arith in same) has
round-up free gap count (suc more) is has room =
    let (round, is_round, count_is) = round-up free gap count more is has (omega arith) in
    let (longer, is_longer, longer_is) =
    round-more free.size gap free.slots round is is_round (omega arith) in
    (longer, is_longer, omega arith)

-- Where there is a round, all free slots together are one.
pub round-whole : (free : Slots) (gap count : ℕ) → IsSlotSet free → HasRound free gap count
    → count ≤ length free.slots → IsRound free gap free.slots
round-whole free gap count is has room =
    let (round, is_round, count_is) =
    round-up free gap count (length free.slots - count) is has (omega arith) in
    let sub =
    map-Contains (set_of free) (sublists free.slots) (set_of free round)
    (round-subset free gap round is is_round) in
    let same : sub.0 ≡ round = ap (λ (s : Slots). s.slots) sub.1 in
    let whole : free.slots ≡ round =
    sublist-whole free.slots round (subst (Contains (sublists free.slots)) same sub.2)
    (omega arith) in
    subst (IsRound free gap) (sym whole) is_round

-- A round has no more slots than are free.
pub round-length : (free : Slots) (gap : ℕ) (round : List ℕ) → IsSlotSet free
    → IsRound free gap round → length round ≤ length free.slots
round-length free gap round is is_round =
    let sub =
    map-Contains (set_of free) (sublists free.slots) (set_of free round)
    (round-subset free gap round is is_round) in
    let short = sublist-length free.slots sub.0 sub.2 in
    omega (arith, short, ap (λ (s : Slots). length s.slots) sub.1)
