-- The rules on seats, as tests and as facts.
use Rattle.std.proofs.Common.{◌≡◌, ◌∙◌, ◌+◌, ℕ, zero, suc, Bool, true, false, cond, eqb, List, []}
use Rattle.std.proofs.Common.{◌∷◌, Option, Some, None, not, slice_get, refl, sym, ap, arith, ◌<◌}
use Rattle.std.proofs.Common.{◌≤◌, All, length, set, inl, inr, eq-eqb, eqb-true, ne_eqb}
use Rattle.std.proofs.Math.ListN.{length-set}
use Rattle.std.proofs.lemmas.Bool.{and_from, and_parts, cases_eq, cond-false, cond-true, false≢true}
use Rattle.std.proofs.lemmas.Option.{none-some, same_Some, slice_get_within}
use Rattle.std.specs.Bool.{Decides}
use Rattle.aeth_base.proofs.Lists.{slice_get-slice_set_other, slice_get-slice_set_same}
use Rattle.aeth_base.proofs.Members.{All-slice_get}
use Rattle.aeth_base.specs.declared.ids.{CoreId.CoreId, NiId.NiId}
use Rattle.aeth_app.specs.{App.is_ni, declared.connection.Core.Core}
use Rattle.aeth_group.specs.declared.grant.SeatLine.{SeatLine}
use Rattle.aeth_check.specs.Seats.{first_misseated, is_elsewhere, is_misseated, is_one_seat}
use Rattle.aeth_check.specs.Seats.{AreSeatedAt, seat_line}
use Rattle.aeth_plan.specs.Seated.{IsOneSeat, ni_of}

-- The test decides whether two seats are one.
pub is_one_seat-Decides : (a b : SeatLine) → Decides (is_one_seat a b) (IsOneSeat a b)
is_one_seat-Decides a b = (
  (λ found. let (ni, seat) = and_parts (eqb a.ni.0 b.ni.0) (eqb a.seat b.seat) found in record {
    ni = eqb-true a.ni.0 b.ni.0 ni;
    seat = eqb-true a.seat b.seat seat;
  }),
  (λ is. and_from (eqb a.ni.0 b.ni.0) (eqb a.seat b.seat) (eq-eqb a.ni.0 b.ni.0 is.ni)
      (eq-eqb a.seat b.seat is.seat)),
)

not_elsewhere : (seated : Option NiId) (ni : NiId) → is_elsewhere (Some ni) seated ≡ false
    → seated ≡ Some ni
not_elsewhere None ni here = absurd (false≢true (sym here))
not_elsewhere (Some at) ni here =
    let cases : (b : Bool) → eqb at.0 ni.0 ≡ b → not b ≡ false → at.0 ≡ ni.0 =
    elim [
      | true ↦ λ is here. eqb-true at.0 ni.0 is
      | false ↦ λ is here. absurd (false≢true (sym here))
    ] in
    let same = cases (eqb at.0 ni.0) refl here in
    λ i. Some (record { 0 = same i })

at_home : (fixed seated : Option NiId)
    → ((ni : NiId) → fixed ≡ Some ni → seated ≡ Some ni) → is_elsewhere fixed seated ≡ false
at_home None seated home = refl
at_home (Some ni) seated home =
    ap (λ o. not (is_ni o ni.0)) (home ni refl) ∙ ap not (eq-eqb ni.0 ni.0 refl)

misseated_cons : (seats : List SeatLine) (number : ℕ) (one : Core) (cores : List Core)
    → first_misseated seats number (one ∷ cores) ≡ None
    → (is_misseated seats (record { 0 = number }) one ≡ false)
    × (first_misseated seats (number + 1) cores ≡ None)
misseated_cons seats number one cores none =
    let cases : (b : Bool) → is_misseated seats (record { 0 = number }) one ≡ b
    → cond b (Some (seat_line seats (record { 0 = number })))
    (first_misseated seats (number + 1) cores) ≡ None
    → (is_misseated seats (record { 0 = number }) one ≡ false)
    × (first_misseated seats (number + 1) cores ≡ None) =
    elim [
      | true ↦ λ is none. absurd (none-some _ (sym none))
      | false ↦ λ is none. (is, none)
    ]
    in cases (is_misseated seats (record { 0 = number }) one) refl none

none_misseated : (seats : List SeatLine) (number : ℕ) (cores : List Core)
    → first_misseated seats number cores ≡ None → (i core : ℕ) (one : Core) → core ≡ number + i
    → slice_get cores i ≡ Some one → is_misseated seats (record { 0 = core }) one ≡ false
none_misseated seats number [] none i core one is at = absurd (none-some one at)
none_misseated seats number (first ∷ cores) none zero core one is at =
    let (here, later) = misseated_cons seats number first cores none in
    let same : core ≡ number = omega (arith, is) in
    rw (same, sym (same_Some first one at)) here
none_misseated seats number (first ∷ cores) none (suc i) core one is at =
    let (here, later) = misseated_cons seats number first cores none in
    none_misseated seats (number + 1) cores later i core one (omega (arith, is)) at

-- Where no core is misseated, each that is fixed is seated where it is.
pub seated_at_home : (seats : List SeatLine) (cores : List Core)
    → first_misseated seats 0 cores ≡ None → (core : CoreId) (one : Core) (ni : NiId)
    → slice_get cores core.0 ≡ Some one → one.fixed ≡ Some ni → ni_of seats core ≡ Some ni
seated_at_home seats cores none core one ni at fixed =
    let here = none_misseated seats 0 cores none core.0 core.0 one (omega arith) at in
    not_elsewhere (ni_of seats core) ni
    (ap (λ f. is_elsewhere f (ni_of seats core)) (sym fixed) ∙ here)

none_from : (seats : List SeatLine) (number : ℕ) (cores : List Core)
    → ((i core : ℕ) (one : Core) → core ≡ number + i → slice_get cores i ≡ Some one
    → is_misseated seats (record { 0 = core }) one ≡ false)
    → first_misseated seats number cores ≡ None
none_from seats number [] home = refl
none_from seats number (one ∷ cores) home =
    cond-false (is_misseated seats (record { 0 = number }) one) _ _
    (home 0 number one (omega arith) refl)
    ∙ none_from seats (number + 1) cores (λ i core other is at.
    home (suc i) core other (omega (arith, is)) at)

-- Where each core that is fixed is seated where it is, none is misseated.
pub none_where_home : (seats : List SeatLine) (cores : List Core)
    → ((core : CoreId) (one : Core) (ni : NiId) → slice_get cores core.0 ≡ Some one
    → one.fixed ≡ Some ni → ni_of seats core ≡ Some ni)
    → first_misseated seats 0 cores ≡ None
none_where_home seats cores home =
    none_from seats 0 cores (λ i core one is at.
    let same : core ≡ i = omega (arith, is) in
    at_home one.fixed (ni_of seats (record { 0 = core })) (λ ni fixed.
    home (record { 0 = core }) one ni (ap (slice_get cores) same ∙ at) fixed))

-- A table without interfaces is that of no seats.
pub none_seated : (cores : ℕ) (nis : List (Option NiId)) → length nis ≡ cores
    → All (λ (ni : Option NiId). ni ≡ None) nis → AreSeatedAt [] cores nis
none_seated cores nis size none = record {
  size = size;
  each = λ core ni at. All-slice_get (λ (one : Option NiId). one ≡ None) nis core ni none at;
}

-- The table with the interface of one more seat, before the others.
pub seat_put : (line : SeatLine) (seats : List SeatLine) (cores : ℕ) (nis : List (Option NiId))
    → line.core.0 < cores → AreSeatedAt seats cores nis
    → AreSeatedAt (line ∷ seats) cores (set nis line.core.0 (Some line.ni))
seat_put line seats cores nis low are = record {
  size = length-set nis line.core.0 (Some line.ni) ∙ are.size;
  each = λ core ni at. elim (cases_eq line.core.0 core) [
    | inl same ↦
        same_Some ni (Some line.ni) (sym at ∙ ap (slice_get (set nis line.core.0 (Some line.ni)))
        (sym same)
        ∙ slice_get-slice_set_same nis line.core.0 (Some line.ni) (omega (arith, are.size)))
        ∙ sym (cond-true (eqb line.core.0 core) _ _ (eq-eqb _ _ same))
    | inr other ↦
        are.each core ni (sym (slice_get-slice_set_other nis line.core.0 core (Some line.ni)
        (λ same. other (sym same))) ∙ at)
        ∙ sym (cond-false (eqb line.core.0 core) _ _ (ne_eqb _ _ other))
  ];
}

-- A seat of a core beyond the table adds nothing.
pub seat_beyond : (line : SeatLine) (seats : List SeatLine) (cores : ℕ)
    (nis : List (Option NiId)) → cores ≤ line.core.0 → AreSeatedAt seats cores nis
    → AreSeatedAt (line ∷ seats) cores nis
seat_beyond line seats cores nis past are = record {
  size = are.size;
  each = λ core ni at.
      let within = slice_get_within nis core ni at in
      are.each core ni at
      ∙ sym (cond-false (eqb line.core.0 core) _ _ (ne_eqb _ _ (λ same.
      omega (arith, same, within, are.size))));
}
