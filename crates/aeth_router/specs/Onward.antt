-- What comes to wires within a cycle: flits, one after the other.
--
--   Arrival, arrived, carried      what has come to a wire, one flit more, and what the wire carries then
--   arrival_of, arrivals_of, AreContended      what has come by what is noted of it, and what holds of the notes
--   arrival_at      what has come to the wire of a number
--   Adds, CameFrom      what is sent has come, and who sent it
--
-- That a wire to which two flits come carries neither: this project's own.
use Rattle.std.proofs.Common.{◌≡◌, ◌≢◌, ◌<◌, ◌^◌, ℕ, zero, suc, Option, Some, None, IsSome, List}
use Rattle.std.proofs.Common.{map, Bool, false, length}
use Rattle.std.specs.List.{range_with_len, slice_index_or}
use Rattle.aeth_base.specs.Marks.{bit_of, room_of}
use Rattle.aeth_clocked.specs.{Wires.flit_on, declared.flit.Flit.Flit}

-- What has come to a wire: nothing, one flit, or several.
pub data Arrival : Type 0 where
  Nothing : Arrival
  One : (flit : Flit) → Arrival
  Several : Arrival

-- One flit more has come, if one has.
abbrev pub arrived : Option Flit → Arrival → Arrival
arrived None arrival = arrival
arrived (Some flit) Nothing = One flit
arrived (Some flit) (One other) = Several
arrived (Some flit) Several = Several

-- What the wire carries then: the one flit that came.
abbrev pub carried : Arrival → Option Flit
carried Nothing = None
carried (One flit) = Some flit
carried Several = None

-- What has come to a wire on which this flit came first, if one did, where a bit tells of another.
abbrev pub arrival_of : Option Flit → ℕ → Arrival
arrival_of None bit = Nothing
arrival_of (Some flit) zero = One flit
arrival_of (Some flit) (suc bit) = Several

-- What has come to each wire.
abbrev pub arrivals_of : List (Option Flit) → List ℕ → List Arrival
arrivals_of first marks =
    map (λ wire. arrival_of (flit_on first wire) (bit_of marks wire)) (range_with_len 0 (length first))

-- There is a mark for each wire, and only wires with a flit are marked. Where no other flit is noted,
-- none is.
pub record AreContended (is_contended : Bool) (first : List (Option Flit)) (marks : List ℕ) : Type 0 where
  pub few : length first < 2 ^ 32
  pub room : length first < room_of marks
  pub flit : (wire : ℕ) → bit_of marks wire ≡ 1 → IsSome (flit_on first wire)
  pub none : is_contended ≡ false → (wire : ℕ) → bit_of marks wire ≡ 0

-- What has come to the wire of a number.
abbrev pub arrival_at : List Arrival → ℕ → Arrival
arrival_at arrivals wire = slice_index_or arrivals wire Nothing

-- To each wire has come what is sent there, if anything is.
pub record Adds (sent : ℕ → Option Flit) (old new : List Arrival) : Type 0 where
  pub size : length new ≡ length old
  pub at : (wire : ℕ) → wire < length old
      → arrival_at new wire ≡ arrived (sent wire) (arrival_at old wire)

-- It came from the first so many senders, each of which sends a flit or none.
abbrev pub CameFrom : (ℕ → Option Flit) → ℕ → Arrival → Type 0
CameFrom sent to Nothing = (sender : ℕ) → sender < to → sent sender ≡ None
CameFrom sent to (One flit) =
    (sender : ℕ) × (sender < to) × (sent sender ≡ Some flit)
    × ((other : ℕ) → other < to → other ≢ sender → sent other ≡ None)
CameFrom sent to Several =
    (sender : ℕ) × (other : ℕ) × (sender < to) × (other < to) × (sender ≢ other)
    × IsSome (sent sender) × IsSome (sent other)
