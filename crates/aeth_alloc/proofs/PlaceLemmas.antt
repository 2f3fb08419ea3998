-- The interfaces at the ends of a candidate have seats for its cores.
use Rattle.std.proofs.Common.{◌≡◌, ◌≢◌, ◌∙◌, ◌<◌, ◌≤◌, ℕ, Bool, true, List, Contains, Option, Some}
use Rattle.std.proofs.Common.{None, length, filter, refl, sym, ap, subst, inl, inr, arith, eq-eqb}
use Rattle.std.proofs.lemmas.Bool.{cases_eq}
use Rattle.std.specs.List.{range_with_len}
use Rattle.aeth_base.proofs.Members.{Contains-filter, Contains-map, filter-Contains, map-Contains}
use Rattle.aeth_base.proofs.Ranges.{All-range, Contains-range}
use Rattle.aeth_base.specs.declared.ids.NiId.{NiId}
use Rattle.aeth_seats.specs.Places.{Place, free_count, has_free, lowest_free, placed, seat_of}
use Rattle.aeth_seats.specs.Seats.{SeatsData, candidates_of, crowded_of, interfaces}
use Rattle.aeth_seats.specs.Seats.{interfaces_from, is_crowded}
use Rattle.aeth_seats.proofs.FreeLemmas.{free-other, free-placed, free-some, some-free}
use Rattle.aeth_seats.proofs.SeatingLemmas.{placed_on-other}
use Rattle.aeth_paths.specs.Candidates.{IsAllowed}
use Rattle.aeth_alloc.specs.Channels.{with_seat, with_seat_by}

-- An interface of a list of those that pass a test is one of the chip, and passes.
pub interface-passes : (nis : ℕ) (test : ℕ → Bool) (ni : NiId) → Contains (interfaces nis test) ni
    → (ni.0 < nis) × (test ni.0 ≡ true)
interface-passes nis test ni has =
    let (n, same, among) = map-Contains (λ n. record { 0 = n }) (filter test (range_with_len 0 nis))
    ni has in
    let ((k, within, at), passes) = filter-Contains test (range_with_len 0 nis) n among in
    let own : n ≡ ni.0 = ap (λ (i : NiId). i.0) same in (
      subst (λ m. m < nis) own (subst (λ m. m < nis) at (All-range nis k n within)),
      subst (λ m. test m ≡ true) own passes,
    )

-- One of the chip that passes is in the list.
passes-interface : (nis : ℕ) (test : ℕ → Bool) (ni : NiId) → ni.0 < nis → test ni.0 ≡ true
    → Contains (interfaces nis test) ni
passes-interface nis test ni low passes =
    Contains-map (λ n. record { 0 = n }) (filter test (range_with_len 0 nis)) ni.0
    (Contains-filter test (range_with_len 0 nis) ni.0
    (Contains-range 0 nis ni.0 (omega arith) (omega (arith, low))) passes)

-- A candidate for a core without a seat has a free one.
pub candidate-place : (seats : SeatsData) (core : ℕ) (ni : NiId)
    → Contains (candidates_of seats core) ni → seat_of seats.places core ≡ None
    → (ni.0 < seats.nis) × (has_free seats.places ni.0 ≡ true)
candidate-place seats core ni has none =
    interface-passes seats.nis (has_free seats.places) ni
    (subst (λ place. Contains (interfaces_from seats place) ni) none has)

-- A core that takes a seat leaves the others where they are.
pub other-stays : (places : List (Option Place)) (core other : ℕ) (ni : NiId) → other ≢ core
    → seat_of (placed places core ni) other ≡ seat_of places other
other-stays places core other ni = placed_on-other places core ni (lowest_free places ni.0) other

-- ---- the receiver, once the sender is placed

module _ (seats : SeatsData) (a b : ℕ) (from to : NiId) (apart : b ≢ a)
    (a_is : a < length seats.places)
    (allowed : IsAllowed (candidates_of seats a) (candidates_of seats b) (crowded_of seats a b)
    from to) where
  -- Both cores are without seats, and the interface of both has one free seat: it is crowded.
  crowded : seat_of seats.places a ≡ None → seat_of seats.places b ≡ None → from.0 < seats.nis
      → free_count seats.places from.0 ≡ 1 → Contains (crowded_of seats a b) from
  crowded none both low one =
      rw (none, both) (passes-interface seats.nis (is_crowded seats.places) from low
      (eq-eqb (free_count seats.places from.0) 1 one))

  -- The interface of the receiver has a free seat after the sender took one.
  still-free : seat_of seats.places a ≡ None → seat_of seats.places b ≡ None
      → has_free (placed seats.places a from) to.0 ≡ true
  still-free none both =
      let (low, free) = candidate-place seats a from allowed.sender none in
      let (low', free') = candidate-place seats b to allowed.receiver both in
      elim (cases_eq to.0 from.0) [
        | inl same ↦
            let one = free-placed seats.places a from a_is none free in
            let some = some-free seats.places from.0 free in
            let equal : from ≡ to = ap (λ n. record { 0 = n }) (sym same) in
            let more : free_count seats.places from.0 ≢ 1 = λ is.
            allowed.room equal (crowded none both low is) in
            free-some (placed seats.places a from) to.0
            (subst (λ n. 1 ≤ free_count (placed seats.places a from) n) (sym same)
            (omega (arith, one, some, more)))
        | inr other ↦
            let still = free-other seats.places a from to.0 a_is none other in
            free-some (placed seats.places a from) to.0
            (omega (arith, still, some-free seats.places to.0 free'))
      ]

  after-sender : (place : Option Place) → seat_of seats.places a ≡ place
      → seat_of (with_seat_by seats a from place).places b ≡ None
      → (to.0 < seats.nis) × (has_free (with_seat_by seats a from place).places to.0 ≡ true)
  after-sender (Some place) is none = candidate-place seats b to allowed.receiver none
  after-sender None is none =
      let both = sym (other-stays seats.places a b from apart) ∙ none in
      ((candidate-place seats b to allowed.receiver both).0, still-free is both)

  -- The receiver's interface has a seat for it, where it needs one.
  pub receiver-place : seat_of (with_seat seats a from).places b ≡ None
      → (to.0 < seats.nis) × (has_free (with_seat seats a from).places to.0 ≡ true)
  receiver-place = after-sender (seat_of seats.places a) refl
