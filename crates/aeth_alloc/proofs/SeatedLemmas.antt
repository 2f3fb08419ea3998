-- A core comes to sit on an interface: seats stay seats, and who sat somewhere stays there.
use Rattle.std.proofs.Common.{◌≡◌, ◌≢◌, ◌∙◌, ◌<◌, ℕ, true, List, [], Contains, Option, Some, None}
use Rattle.std.proofs.Common.{length, refl, sym, subst, inl, inr, IsSomeAnd}
use Rattle.std.proofs.lemmas.Bool.{cases_eq}
use Rattle.aeth_base.proofs.Members.{Contains-cases, Contains-nil}
use Rattle.aeth_base.specs.declared.ids.NiId.{NiId}
use Rattle.aeth_seats.specs.Places.{Place, has_free, seat_of}
use Rattle.aeth_seats.specs.Seats.{IsSeats, SeatsData, candidates_of, crowded_of, interfaces_from}
use Rattle.aeth_seats.proofs.SeatLemmas.{seats-with_core, sits-placed}
use Rattle.aeth_paths.specs.Candidates.{IsAllowed}
use Rattle.aeth_alloc.specs.Channels.{with_seat, with_seat_by}
use Rattle.aeth_alloc.proofs.PlaceLemmas.{candidate-place, other-stays, receiver-place}
use Rattle.aeth_alloc.proofs.SeatLineLemmas.{SitsOn}
use Rattle.aeth_alloc.proofs.TurnLemmas.{alike-seat}

-- Who sits somewhere sits there still.
abbrev pub AreKept : List (Option Place) → List (Option Place) → Type 0
AreKept old new = (core : ℕ) (ni : NiId) → SitsOn old core ni → SitsOn new core ni

-- A core without a seat sits nowhere.
sits-nowhere : (places : List (Option Place)) (core : ℕ) (ni : NiId) → seat_of places core ≡ None
    → SitsOn places core ni → ⊥
sits-nowhere places core ni none on =
    subst (λ (place : Option Place). IsSomeAnd place (λ p. p.0 ≡ ni)) none on

module _ (seats : SeatsData) (core : ℕ) (ni : NiId) where
  seats-by : IsSeats seats → core < length seats.places
      → (seat_of seats.places core ≡ None → ni.0 < seats.nis) → (place : Option Place)
      → seat_of seats.places core ≡ place → IsSeats (with_seat_by seats core ni place)
  seats-by are there low (Some place) at = are
  seats-by are there low None at = seats-with_core seats core ni are there at (low at)

  -- Seats stay seats.
  pub seats-with_seat : IsSeats seats → core < length seats.places
      → (seat_of seats.places core ≡ None → ni.0 < seats.nis) → IsSeats (with_seat seats core ni)
  seats-with_seat are there low = seats-by are there low (seat_of seats.places core) refl

  kept-by : (place : Option Place) → seat_of seats.places core ≡ place
      → AreKept seats.places (with_seat_by seats core ni place).places
  kept-by (Some place) at other on sits = sits
  kept-by None at other on sits = elim (cases_eq other core) [
    | inl same ↦ absurd (sits-nowhere seats.places core on at
        (subst (λ c. SitsOn seats.places c on) same sits))
    | inr apart ↦ subst (λ (place : Option Place). IsSomeAnd place (λ p. p.0 ≡ on))
        (sym (other-stays seats.places core other ni apart)) sits
  ]

  -- Who sat somewhere sits there still.
  pub kept-with_seat : AreKept seats.places (with_seat seats core ni).places
  kept-with_seat = kept-by (seat_of seats.places core) refl

  other-by : (other : ℕ) → other ≢ core → (place : Option Place)
      → seat_of (with_seat_by seats core ni place).places other ≡ seat_of seats.places other
  other-by other apart (Some place) = refl
  other-by other apart None = other-stays seats.places core other ni apart

  -- Another core's seat is what it was.
  pub other-with_seat : (other : ℕ) → other ≢ core
      → seat_of (with_seat seats core ni).places other ≡ seat_of seats.places other
  other-with_seat other apart = other-by other apart (seat_of seats.places core)

  sits-by : core < length seats.places
      → ((place : Place) → seat_of seats.places core ≡ Some place → place.0 ≡ ni)
      → (seat_of seats.places core ≡ None → has_free seats.places ni.0 ≡ true)
      → (place : Option Place) → seat_of seats.places core ≡ place
      → SitsOn (with_seat_by seats core ni place).places core ni
  sits-by there seated free (Some place) at =
      subst (λ (place : Option Place). IsSomeAnd place (λ p. p.0 ≡ ni)) (sym at) (seated place at)
  sits-by there seated free None at = sits-placed seats.places core ni there (free at)

  -- The core sits there, where it sat there or there was a seat.
  pub sits-with_seat : core < length seats.places
      → ((place : Place) → seat_of seats.places core ≡ Some place → place.0 ≡ ni)
      → (seat_of seats.places core ≡ None → has_free seats.places ni.0 ≡ true)
      → SitsOn (with_seat seats core ni).places core ni
  sits-with_seat there seated free = sits-by there seated free (seat_of seats.places core) refl

-- A candidate for a seated core is the interface of its seat.
candidate-seated : (seats : SeatsData) (core : ℕ) (ni : NiId) (place : Place)
    → Contains (candidates_of seats core) ni → seat_of seats.places core ≡ Some place
    → place.0 ≡ ni
candidate-seated seats core ni place has at =
    elim (Contains-cases place.0 [] ni
    (subst (λ (o : Option Place). Contains (interfaces_from seats o) ni) at has)) [
      | inl same ↦ same
      | inr none ↦ Contains-nil none
    ]

-- What holds once the two cores of a channel sit on the interfaces of an allowed pair.
pub record AreSeated (seats new : SeatsData) (a b : ℕ) (from to : NiId) : Type 0 where
  pub are : IsSeats new
  pub kept : AreKept seats.places new.places
  pub sends : SitsOn new.places a from
  pub receives : SitsOn new.places b to

module _ (seats : SeatsData) (a b : ℕ) (from to : NiId) (are : IsSeats seats) (apart : b ≢ a)
    (a_is : a < length seats.places) (b_is : b < length seats.places)
    (allowed : IsAllowed (candidates_of seats a) (candidates_of seats b) (crowded_of seats a b)
    from to) where
  -- It holds of them.
  pub both-seated : AreSeated seats (with_seat (with_seat seats a from) b to) a b from to
  both-seated =
      let one : SeatsData = with_seat seats a from in
      let alike = alike-seat seats a from in
      let b_there : b < length one.places = subst (λ n. b < n) (sym alike.cores) b_is in
      let place = receiver-place seats a b from to apart a_is allowed in
      let later = kept-with_seat one b to in
      record {
        are = seats-with_seat one b to
            (seats-with_seat seats a from are a_is
            (λ none. (candidate-place seats a from allowed.sender none).0)) b_there
            (λ none. subst (λ n. to.0 < n) (sym alike.nis) (place none).0);
        kept = λ core ni on. later core ni (kept-with_seat seats a from core ni on);
        sends = later a from (sits-with_seat seats a from a_is
            (λ seat at. candidate-seated seats a from seat allowed.sender at)
            (λ none. (candidate-place seats a from allowed.sender none).1));
        receives = sits-with_seat one b to b_there
            (λ seat at. candidate-seated seats b to seat allowed.receiver
            (sym (other-with_seat seats a from b apart) ∙ at))
            (λ none. (place none).1);
      }
