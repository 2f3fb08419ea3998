-- The lines of seated cores: a plan's rules on seats hold of them.
use Rattle.std.proofs.Common.{◌≡◌, ◌∙◌, ◌<◌, ◌≤◌, ◌+◌, ℕ, zero, suc, true, cond, List, Contains}
use Rattle.std.proofs.Common.{Option, Some, None, length, refl, sym, ap, subst, inl, inr, arith}
use Rattle.std.proofs.Common.{IsSomeAnd, unwrap_or, eq-eqb, ne_eqb}
use Rattle.std.proofs.lemmas.{Bool.and_from, Bool.cases_eq, Bool.cases_lt, Option.slice_get_past}
use Rattle.std.specs.List.{cons_option}
use Rattle.aeth_base.proofs.Members.{Contains-cases, Contains-nil}
use Rattle.aeth_base.specs.declared.ids.{CoreId.CoreId, NiId.NiId}
use Rattle.aeth_group.specs.declared.grant.SeatLine.{SeatLine}
use Rattle.aeth_seats.specs.Places.{Place, seat_of, sits_on}
use Rattle.aeth_seats.specs.Seats.{IsSeats, SeatsData}
use Rattle.aeth_plan.specs.{Making.line_of_core, Making.seated_cores, Accepted.NoTwo}
use Rattle.aeth_plan.specs.{Seated.IsOneSeat, Seated.ni_of}
use Rattle.aeth_plan.proofs.SeatedCores.{lines_from}
use Rattle.aeth_alloc.proofs.OrderedLists.{Ordered, no_two-ordered}

-- A core sits on an interface.
abbrev pub SitsOn : List (Option Place) → ℕ → NiId → Type 0
SitsOn places core ni = IsSomeAnd (seat_of places core) (λ place. place.0 ≡ ni)

-- What a line says: a core, and its seat.
record IsLine (places : List (Option Place)) (start : ℕ) (line : SeatLine) : Type 0 where
  least : start ≤ line.core.0
  seat : seat_of places line.core.0 ≡ Some (line.ni, line.seat)

line-here : (places : List (Option Place)) (start : ℕ) (seat : Option Place)
    (rest : List SeatLine) (line : SeatLine) → seat_of places start ≡ seat
    → ((other : SeatLine) → Contains rest other → IsLine places (start + 1) other)
    → Contains (cons_option (line_of_core start seat) rest) line → IsLine places start line
line-here places start None rest line at later has =
    let is = later line has in
    record { least = omega (arith, is.least); seat = is.seat }
line-here places start (Some place) rest line at later has =
    elim (Contains-cases _ rest line has) [
      | inl same ↦ subst (IsLine places start) same (record { least = omega arith; seat = at })
      | inr behind ↦
          let is = later line behind in
          record { least = omega (arith, is.least); seat = is.seat }
    ]

line-of : (places : List (Option Place)) (start size : ℕ) (line : SeatLine)
    → Contains (lines_from places start size) line → IsLine places start line
line-of places start zero line has = Contains-nil has
line-of places start (suc size) line has =
    line-here places start (seat_of places start) (lines_from places (start + 1) size) line refl
    (λ other. line-of places (start + 1) size other) has

-- ---- no two cores on one seat

module _ (seats : SeatsData) (are : IsSeats seats) where
  sits : (line : SeatLine) → seat_of seats.places line.core.0 ≡ Some (line.ni, line.seat)
      → (ni seat : ℕ) → line.ni.0 ≡ ni → line.seat ≡ seat
      → sits_on ni seat (seat_of seats.places line.core.0) ≡ true
  sits line at ni seat is_ni is_seat =
      ap (sits_on ni seat) at
      ∙ and_from _ _ (eq-eqb line.ni.0 ni is_ni) (eq-eqb line.seat seat is_seat)

  apart-here : (start : ℕ) (seat : Option Place) (rest : List SeatLine)
      → seat_of seats.places start ≡ seat
      → ((other : SeatLine) → Contains rest other → IsLine seats.places (start + 1) other)
      → Ordered (λ a b. IsOneSeat a b → ⊥) rest
      → Ordered (λ a b. IsOneSeat a b → ⊥) (cons_option (line_of_core start seat) rest)
  apart-here start None rest at later apart = apart
  apart-here start (Some place) rest at later apart = (
    (λ other has one.
        let is = later other has in
        let first : SeatLine =
        record { core = record { 0 = start }; ni = place.0; seat = place.1 } in
        let same : start ≡ other.core.0 =
        are.apart other.ni.0 other.seat start other.core.0
        (sits first at other.ni.0 other.seat one.ni one.seat)
        (sits other is.seat other.ni.0 other.seat refl refl) in
        absurd (omega (arith, is.least, same))),
    apart,
  )

  apart-lines : (start size : ℕ)
      → Ordered (λ a b. IsOneSeat a b → ⊥) (lines_from seats.places start size)
  apart-lines start zero = tt
  apart-lines start (suc size) =
      apart-here start (seat_of seats.places start) (lines_from seats.places (start + 1) size) refl
      (line-of seats.places (start + 1) size) (apart-lines (start + 1) size)

  -- No two cores have one seat.
  pub seats-apart : NoTwo IsOneSeat (seated_cores seats.places)
  seats-apart =
      no_two-ordered IsOneSeat (seated_cores seats.places)
      (apart-lines 0 (length seats.places))

-- ---- the interface of a core's seat

ni-here : (start : ℕ) (seat : Option Place) (rest : List SeatLine) (core : CoreId) (ni : NiId)
    → start ≡ core.0 → IsSomeAnd seat (λ place. place.0 ≡ ni)
    → ni_of (cons_option (line_of_core start seat) rest) core ≡ Some ni
ni-here start None rest core ni same on = absurd on
ni-here start (Some place) rest core ni same on =
    ap (λ b. cond b (Some place.0) (ni_of rest core)) (eq-eqb start core.0 same) ∙ ap Some on

ni-later : (start : ℕ) (seat : Option Place) (rest : List SeatLine) (core : CoreId)
    → (start ≡ core.0 → ⊥) → ni_of (cons_option (line_of_core start seat) rest) core
    ≡ ni_of rest core
ni-later start None rest core other = refl
ni-later start (Some place) rest core other =
    ap (λ b. cond b (Some place.0) (ni_of rest core)) (ne_eqb start core.0 other)

ni-lines : (places : List (Option Place)) (start size : ℕ) (core : CoreId) (ni : NiId)
    → start ≤ core.0 → core.0 < start + size → SitsOn places core.0 ni
    → ni_of (lines_from places start size) core ≡ Some ni
ni-lines places start zero core ni least below on = absurd (omega arith)
ni-lines places start (suc size) core ni least below on =
    elim (cases_eq start core.0) [
      | inl same ↦
          ni-here start (seat_of places start) (lines_from places (start + 1) size) core ni same
          (subst (λ k. SitsOn places k ni) (sym same) on)
      | inr other ↦
          ni-later start (seat_of places start) (lines_from places (start + 1) size) core other
          ∙ ni-lines places (start + 1) size core ni (omega arith) (omega arith) on
    ]

-- A core past the last sits nowhere.
seated-within : (places : List (Option Place)) (core : ℕ) (ni : NiId) → SitsOn places core ni
    → core < length places
seated-within places core ni on = elim (cases_lt core (length places)) [
  | inl low ↦ low
  | inr past ↦
      let none : seat_of places core ≡ None =
      ap (λ o. unwrap_or o None) (slice_get_past places core past) in
      absurd (subst (λ (place : Option Place). IsSomeAnd place (λ p. p.0 ≡ ni)) none on)
]

-- The interface of a core's seat is the one on which it sits.
pub ni-seated : (places : List (Option Place)) (core : CoreId) (ni : NiId)
    → SitsOn places core.0 ni → ni_of (seated_cores places) core ≡ Some ni
ni-seated places core ni on =
    ni-lines places 0 (length places) core ni (omega arith)
    (omega (arith, seated-within places core.0 ni on)) on
