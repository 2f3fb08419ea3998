-- Laws of the notes that are kept of what comes to wires: the first flits, and marks of the wires to
-- which others came.
use Rattle.std.proofs.Common.{◌≡◌, ◌≢◌, ◌<◌, ◌≤◌, ◌+◌, ◌∙◌, ℕ, refl, sym, ap, inl, inr, arith, Bool}
use Rattle.std.proofs.Common.{true, Option, Some, None, IsSome, is_some, List, [], ◌∷◌, length}
use Rattle.std.proofs.Common.{length-set, map}
use Rattle.std.proofs.lemmas.Bool.{cases_Bool, cases_eq, cases_lt}
use Rattle.std.specs.List.{slice_set}
use Rattle.aeth_base.specs.Marks.{bit_of, is_marked, marked_from, room_of}
use Rattle.aeth_base.proofs.MarkedLemmas.{is_marked-one, is_marked-zero, next-passing, none-passing}
use Rattle.aeth_clocked.specs.{Wires.flit_on, declared.flit.Flit.Flit}
use Rattle.aeth_clocked.proofs.UsedLemmas.{flit-within}
use Rattle.aeth_router.specs.Onward.{AreContended, arrival_of, arrivals_of, carried}
use Rattle.aeth_router.proofs.OnwardLemmas.{carried-arrivals_of, flit_on-apart, flit_on-put}

-- No wire is marked any more, where as many wires and marks are there as before.
pub AreContended-none : (was is_contended : Bool) (first wires : List (Option Flit))
    (marks left : List ℕ) → AreContended was first marks → length wires ≡ length first
    → room_of left ≡ room_of marks → ((wire : ℕ) → bit_of left wire ≡ 0)
    → AreContended is_contended wires left
AreContended-none was is_contended first wires marks left noted size same none =
    let few = noted.few in
    let room = noted.room in
    record {
      few = omega (arith, few, size);
      room = omega (arith, room, size, same);
      flit = λ wire is. absurd (cc (sym (none wire) ∙ is));
      none = λ isnt. none;
    }

-- A wire without a flit isn't marked.
pub empty-alone : (is_contended : Bool) (first : List (Option Flit)) (marks : List ℕ) (wire : ℕ)
    → AreContended is_contended first marks → flit_on first wire ≡ None → bit_of marks wire ≡ 0
empty-alone is_contended first marks wire noted empty =
    elim (cases_Bool (is_marked marks wire)) [
      | inl marked ↦
          absurd (cc (sym (ap is_some empty) ∙ noted.flit wire (is_marked-one marks wire marked)))
      | inr unmarked ↦ is_marked-zero marks wire unmarked
    ]

-- A first flit comes to a wire.
pub AreContended-put : (is_contended : Bool) (first : List (Option Flit)) (marks : List ℕ)
    (wire : ℕ) (flit : Flit) → wire < length first → AreContended is_contended first marks
    → AreContended is_contended (slice_set first wire (Some flit)) marks
AreContended-put is_contended first marks wire flit within noted =
    let size = length-set first wire (Some flit) in
    let few = noted.few in
    let room = noted.room in
    record {
      few = omega (arith, few);
      room = omega (arith, room);
      flit = λ other is. elim (cases_eq other wire) [
        | inl same ↦ rw (same, flit_on-put first wire (Some flit) within) refl
        | inr apart ↦
            ap is_some (flit_on-apart first wire other (Some flit) apart) ∙ noted.flit other is
      ];
      none = noted.none;
    }

-- There is a flit where there isn't none.
some-not_none : (flit : Option Flit) → flit ≢ None → IsSome flit
some-not_none None some = absurd (some refl)
some-not_none (Some flit) some = refl

-- A further flit comes to a wire.
pub AreContended-mark : (is_contended : Bool) (first : List (Option Flit)) (old new : List ℕ)
    (wire : ℕ) → flit_on first wire ≢ None → room_of new ≡ room_of old
    → ((other : ℕ) → other ≢ wire → bit_of new other ≡ bit_of old other)
    → AreContended is_contended first old → AreContended true first new
AreContended-mark is_contended first old new wire some size away noted =
    let room = noted.room in
    record {
      few = noted.few;
      room = omega (arith, room);
      flit = λ other is. elim (cases_eq other wire) [
        | inl same ↦ rw same (some-not_none (flit_on first wire) some)
        | inr apart ↦ noted.flit other (sym (away other apart) ∙ is)
      ];
      none = λ isnt. absurd (cc isnt);
    }

-- A marked wire carries nothing.
carried-marked : (flit : Option Flit) (bit : ℕ) → bit ≡ 1 → carried (arrival_of flit bit) ≡ None
carried-marked None bit one = refl
carried-marked (Some flit) bit one = rw one refl

-- Any other carries its first flit.
carried-alone : (flit : Option Flit) (bit : ℕ) → bit ≡ 0 → carried (arrival_of flit bit) ≡ flit
carried-alone None bit alone = refl
carried-alone (Some flit) bit alone = rw alone refl

-- The wires below one carry what has come, and the others have their first flits.
pub record AreLost (first : List (Option Flit)) (marks : List ℕ) (wires : List (Option Flit)) (from : ℕ)
    : Type 0 where
  pub size : length wires ≡ length first
  pub done : (wire : ℕ) → wire < from
      → flit_on wires wire ≡ carried (arrival_of (flit_on first wire) (bit_of marks wire))
  pub kept : (wire : ℕ) → from ≤ wire → flit_on wires wire ≡ flit_on first wire

-- At first all have these.
pub AreLost-first : (first : List (Option Flit)) (marks : List ℕ) → AreLost first marks first 0
AreLost-first first marks =
    record {
      size = refl;
      done = λ wire before. absurd (omega arith);
      kept = λ wire later. refl;
    }

-- The wires below the next marked one carry what has come.
lost-until : (first : List (Option Flit)) (marks : List ℕ) (wires : List (Option Flit))
    (from next : ℕ) → AreLost first marks wires from
    → ((wire : ℕ) → from ≤ wire → wire < next → bit_of marks wire ≡ 0) → (wire : ℕ) → wire < next
    → flit_on wires wire ≡ carried (arrival_of (flit_on first wire) (bit_of marks wire))
lost-until first marks wires from next lost none wire before = elim (cases_lt wire from) [
  | inl early ↦ lost.done wire early
  | inr later ↦
      lost.kept wire later
      ∙ sym (carried-alone (flit_on first wire) (bit_of marks wire) (none wire later before))
]

-- Where no wire is marked, all carry their first flits.
pub carried-unmarked : (first : List (Option Flit)) (marks : List ℕ)
    → ((wire : ℕ) → bit_of marks wire ≡ 0) → first ≡ map carried (arrivals_of first marks)
carried-unmarked first marks none =
    carried-arrivals_of first first marks refl
    (lost-until first marks first 0 (length first) (AreLost-first first marks)
    (λ wire later below. none wire))

-- All wires carry what has come, and none is marked any more.
pub record AreSettled (first : List (Option Flit)) (marks : List ℕ) (wires : List (Option Flit))
    (left : List ℕ) : Type 0 where
  pub wires_are : wires ≡ map carried (arrivals_of first marks)
  pub room : room_of left ≡ room_of marks
  pub none : (wire : ℕ) → bit_of left wire ≡ 0

module _ (first : List (Option Flit)) (marks : List ℕ) (noted : AreContended true first marks)
    (from : ℕ) where
  -- The next marked wire is one of the wires.
  pub marked-within : (next : ℕ) (rest : List ℕ) → marked_from marks from ≡ next ∷ rest
      → next < length first
  marked-within next rest list =
      flit-within first next
      (noted.flit next (is_marked-one marks next
      (next-passing (is_marked marks) from (room_of marks) next rest list).is))

  -- It loses its flit.
  pub AreLost-next : (wires : List (Option Flit)) (next : ℕ) (rest : List ℕ)
      → AreLost first marks wires from → marked_from marks from ≡ next ∷ rest
      → AreLost first marks (slice_set wires next None) (next + 1)
  AreLost-next wires next rest lost list =
      let found = next-passing (is_marked marks) from (room_of marks) next rest list in
      let one = is_marked-one marks next found.is in
      let after = found.after in
      let below = marked-within next rest list in
      let size = lost.size in
      let none = λ (wire : ℕ) (later : from ≤ wire) (before : wire < next).
      is_marked-zero marks wire (found.none wire later before) in
      record {
        size = length-set wires next None ∙ size;
        done = λ wire before. elim (cases_eq wire next) [
          | inl same ↦
              rw same (flit_on-put wires next None (omega arith)
              ∙ sym (carried-marked (flit_on first next) (bit_of marks next) one))
          | inr apart ↦
              flit_on-apart wires next wire None apart
              ∙ lost-until first marks wires from next lost none wire (omega arith)
        ];
        kept = λ wire later.
            flit_on-apart wires next wire None (λ same. omega (arith, later, same))
            ∙ lost.kept wire (omega (arith, later, after));
      }

  -- Where no marked one is left, all carry what has come.
  pub AreLost-end : (wires : List (Option Flit)) → AreLost first marks wires from
      → marked_from marks from ≡ [] → wires ≡ map carried (arrivals_of first marks)
  AreLost-end wires lost list =
      let room = noted.room in
      carried-arrivals_of first wires marks lost.size
      (lost-until first marks wires from (length first) lost
      (λ wire later below.
      is_marked-zero marks wire
      (none-passing (is_marked marks) from (room_of marks) list wire later
      (omega (arith, below, room)))))
