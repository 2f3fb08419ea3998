-- The lines of the cores that have a seat: one core more, and their order.
use Rattle.std.proofs.Common.{◌≡◌, ◌∙◌, ℕ, zero, suc, ◌+◌, ◌++◌, ◌<◌, List, [], ◌∷◌, Option, Some}
use Rattle.std.proofs.Common.{None, length, ap, arith, lt-ltb}
use Rattle.std.proofs.Math.Numerals.{add-one}
use Rattle.std.proofs.lemmas.List.Elements.{filter_map-append}
use Rattle.std.specs.List.{cons_option, filter_map, range_with_len}
use Rattle.aeth_base.proofs.Ranges.{range_with_len-more}
use Rattle.aeth_group.specs.declared.grant.SeatLine.{SeatLine}
use Rattle.aeth_seats.specs.Places.{Place, seat_of}
use Rattle.aeth_text.specs.Order.{Rises, RisesAfter}
use Rattle.aeth_plan.specs.{Making.line_of_core, Making.seated_cores, Plan.seat_before}

-- The lines of so many cores, from a core on.
abbrev pub lines_from : List (Option Place) → ℕ → ℕ → List SeatLine
lines_from places start size = filter_map (λ core. line_of_core core (seat_of places core))
    (range_with_len start size)

-- A core more, by its seat.
pub lines_from-more : (places : List (Option Place)) (n : ℕ) (seat : Option Place)
    → seat_of places n ≡ seat
    → lines_from places 0 (n + 1) ≡ lines_from places 0 n ++ cons_option (line_of_core n seat) []
lines_from-more places n seat is =
    let line : ℕ → Option SeatLine = λ core. line_of_core core (seat_of places core) in
    ap (λ k. lines_from places 0 k) (add-one n)
    ∙ ap (filter_map line) (range_with_len-more 0 n n (omega arith))
    ∙ filter_map-append line (range_with_len 0 n) (n ∷ [])
    ∙ ap (λ o. lines_from places 0 n ++ cons_option (line_of_core n o) []) is

one_more : (last : SeatLine) (core : ℕ) (seat : Option Place) (rest : List SeatLine)
    → last.core.0 < core
    → ((next : SeatLine) → next.core.0 < core + 1 → RisesAfter seat_before next rest)
    → RisesAfter seat_before last (cons_option (line_of_core core seat) rest)
one_more last core None rest after rising = rising last (omega (arith, after))
one_more last core (Some place) rest after rising =
    (lt-ltb last.core.0 core after, rising _ (omega arith))

lines_rise_after : (places : List (Option Place)) (last : SeatLine) (start size : ℕ)
    → last.core.0 < start → RisesAfter seat_before last (lines_from places start size)
lines_rise_after places last start zero after = tt
lines_rise_after places last start (suc size) after =
    one_more last start (seat_of places start) (lines_from places (start + 1) size) after
    (λ next below. lines_rise_after places next (start + 1) size below)

first_more : (core : ℕ) (seat : Option Place) (rest : List SeatLine)
    → ((next : SeatLine) → next.core.0 < core + 1 → RisesAfter seat_before next rest)
    → Rises seat_before rest → Rises seat_before (cons_option (line_of_core core seat) rest)
first_more core None rest after rising = rising
first_more core (Some place) rest after rising = after _ (omega arith)

lines_rise : (places : List (Option Place)) (start size : ℕ)
    → Rises seat_before (lines_from places start size)
lines_rise places start zero = tt
lines_rise places start (suc size) =
    first_more start (seat_of places start) (lines_from places (start + 1) size)
    (λ next below. lines_rise_after places next (start + 1) size below)
    (lines_rise places (start + 1) size)

-- The lines of the seated cores are in order.
pub seated_cores_rise : (places : List (Option Place)) → Rises seat_before (seated_cores places)
seated_cores_rise places = lines_rise places 0 (length places)
