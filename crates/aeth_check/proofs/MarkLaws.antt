-- Seats that are apart, by marks at their places.
use Rattle.std.proofs.Common.{◌≡◌, ◌∙◌, ◌+◌, ◌-◌, ◌*◌, ◌<◌, ◌≤◌, ℕ, Bool, true, false, List, []}
use Rattle.std.proofs.Common.{◌∷◌, Some, None, drop, get_or, length, set, slice_get, sym, ap, subst}
use Rattle.std.proofs.Common.{inl, inr}
use Rattle.std.proofs.lemmas.Bool.{cases_eq, false_from_ne_true, false≢true}
use Rattle.std.proofs.lemmas.Option.{same_Some}
use Rattle.aeth_base.proofs.Lists.{slice_get-slice_set_other, slice_get-slice_set_same}
use Rattle.aeth_base.proofs.Members.{Contains-cases, Contains-nil}
use Rattle.aeth_app.specs.Limits.{seats_per_ni}
use Rattle.aeth_group.specs.declared.grant.SeatLine.{SeatLine}
use Rattle.aeth_text.specs.Order.{line_after}
use Rattle.aeth_check.specs.Firsts.{first_line, first_pair, pair_or}
use Rattle.aeth_check.specs.Seats.{HasMarks, is_one_seat, seat_place}
use Rattle.aeth_check.proofs.{FirstLaws.no_line, MeetingLaws.drop_back_or}
use Rattle.aeth_check.proofs.{SeatLaws.is_one_seat-Decides}

-- What stands where there is no seat.
abbrev pub no_line_of_seat : SeatLine
no_line_of_seat = record { core = record { 0 = 0 }; ni = record { 0 = 0 }; seat = 0 }

-- No seat is marked.
pub no_marks : (marks : List Bool) → HasMarks [] marks
no_marks marks line has = Contains-nil has

put_mark : (line : SeatLine) (seats : List SeatLine) (marks : List Bool)
    → seat_place line < length marks → HasMarks seats marks
    → HasMarks (line ∷ seats) (set marks (seat_place line) true)
put_mark line seats marks low has other is = elim (cases_eq (seat_place line) (seat_place other)) [
  | inl same ↦ ap (slice_get (set marks (seat_place line) true)) (sym same)
      ∙ slice_get-slice_set_same marks (seat_place line) true low
  | inr differ ↦
      slice_get-slice_set_other marks (seat_place line) (seat_place other) true
      (λ same. differ (sym same))
      ∙ has other (elim (Contains-cases line seats other is) [
        | inl same ↦ absurd (differ (ap seat_place same))
        | inr behind ↦ behind
      ])
]

unmarked : (line : SeatLine) (seats : List SeatLine) (marks : List Bool)
    → slice_get marks (seat_place line) ≡ Some false → HasMarks seats marks → (first : ℕ)
    → first_line (is_one_seat line) first seats ≡ None
unmarked line seats marks free has first = no_line (is_one_seat line) first seats (λ other is.
    false_from_ne_true (is_one_seat line other) (λ passes.
    let one = (is_one_seat-Decides line other).0 passes in
    let same : seat_place line ≡ seat_place other =
    ap (λ n. n * seats_per_ni + line.seat) one.ni
    ∙ ap (λ n. other.ni.0 * seats_per_ni + n) one.seat in
    false≢true (same_Some false true (sym free ∙ ap (slice_get marks) same ∙ has other is))))

module _ (seats : List SeatLine) (left : ℕ) (marks : List Bool) (some : 0 < left)
    (within : left ≤ length seats) (has : HasMarks (drop left seats) marks) where
  abbrev line : SeatLine
  line = get_or seats (left - 1) no_line_of_seat

  -- One seat more is marked.
  pub mark_back : seat_place line < length marks
      → HasMarks (drop (left - 1) seats) (set marks (seat_place line) true)
  mark_back low =
      subst (λ (those : List SeatLine). HasMarks those (set marks (seat_place line) true))
      (sym (drop_back_or seats left no_line_of_seat some within))
      (put_mark line (drop left seats) marks low has)

  -- A seat that isn't marked is none of those behind it.
  pub apart_back : slice_get marks (seat_place line) ≡ Some false
      → ((first : ℕ) → first_pair is_one_seat first (drop left seats) ≡ None)
      → (first : ℕ) → first_pair is_one_seat first (drop (left - 1) seats) ≡ None
  apart_back free apart first =
      ap (first_pair is_one_seat first) (drop_back_or seats left no_line_of_seat some within)
      ∙ ap (λ o. pair_or first o (first_pair is_one_seat (line_after first 1) (drop left seats)))
      (unmarked line (drop left seats) marks free has (line_after first 1))
      ∙ apart (line_after first 1)
