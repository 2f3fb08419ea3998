-- What the fields of plan lines name on a chip and in an application, and lines in order.
--
--   found, holds, place_among      looking up a name, and a test
--   each, ordered      each line, and the order of lines
--   known_seat, known_grant      the rule of unknown fields, line by line
-- This project's own.
use Rattle.std.proofs.Common.{ℕ, Bool, true, false, List, [], ◌∷◌, length, position, nat_lt, Option}
use Rattle.std.proofs.Common.{Some, None, Result, Ok, Err}
use Rattle.std.specs.{List.list_all, Str.bytes_eq}
use Rattle.aeth_base.specs.Faults.{BrokenRule}
use Rattle.aeth_document.specs.Chain.{◌>>=◌}
use Rattle.aeth_text.specs.Order.{line_after}
use Rattle.aeth_chip.specs.Chip.{ChipData}
use Rattle.aeth_app.specs.{App.AppData, Limits.seats_per_ni}
use Rattle.aeth_group.specs.Members.{GroupsData}
use Rattle.aeth_group.specs.declared.grant.{Grant.Grant, SeatLine.SeatLine}
use Rattle.aeth_plan.specs.{declared.text.SeatText.SeatText, Lines.GrantWords}
use Rattle.aeth_plan.specs.{Plan.connection_names, Plan.core_names, Refusals.unknown}
use Rattle.aeth_plan.specs.{Refusals.wrong_order}

-- What a field of a line names.
abbrev pub found : ℕ → ℕ → Option ℕ → Result ℕ BrokenRule
found line field None = Err (unknown line field)
found line field (Some place) = Ok place

-- A field of a line passes its test.
abbrev pub holds : ℕ → ℕ → Bool → Result (Unit {0}) BrokenRule
holds line field true = Ok tt
holds line field false = Err (unknown line field)

-- The place of a name among names.
abbrev pub place_among : List (List ℕ) → List ℕ → Option ℕ
place_among names name = position (bytes_eq name) names

-- What each line gives, the first of which has this number; or the first fault.
abbrev pub each : {X Y : Type 0} → (ℕ → X → Result Y BrokenRule) → ℕ → List X
    → Result (List Y) BrokenRule
each judged line [] = Ok []
each judged line (x ∷ xs) =
    judged line x >>= (λ y. each judged (line_after line 1) xs >>= (λ ys. Ok (y ∷ ys)))

-- The line that doesn't come after the one before it.
abbrev pub ordered : Option ℕ → Result (Unit {0}) BrokenRule
ordered None = Ok tt
ordered (Some line) = Err (wrong_order line)

-- The seat of a line.
unfoldable pub known_seat : ChipData → AppData → ℕ → SeatText → Result SeatLine BrokenRule
known_seat chip app line text = do
  core ← found line 2 (place_among (core_names app) text.core)
  ni ← found line 3 (place_among chip.nis text.ni)
  seat ← holds line 4 (nat_lt text.seat seats_per_ni)
  Ok (record { core = record { 0 = core }; ni = record { 0 = ni }; seat = text.seat })

-- The grant of a line.
unfoldable pub known_grant : ChipData → AppData → GroupsData → ℕ → GrantWords
    → Result Grant BrokenRule
known_grant chip app groups line text = do
  conn ← found line 2 (place_among (connection_names app) text.conn)
  group ← holds line 3 (nat_lt text.group groups.count)
  links ← holds line 5 (list_all (λ link. nat_lt link.0 (length chip.links)) text.links)
  starts ← holds line 6 (list_all (λ start. nat_lt start chip.slots) text.starts)
  Ok (record {
    unit = record { conn = record { 0 = conn }; group = record { 0 = text.group } };
    side = text.side;
    path = text.links;
    slots = record { size = chip.slots; slots = text.starts };
  })
