-- Laws of a round of the search, over masks: what gets a level, and what has none behind it.
use Rattle.std.proofs.Common.{◌≡◌, ◌∙◌, ◌+◌, ◌-◌, ◌*◌, ◌%◌, ◌^◌, ◌<◌, ◌≤◌, ℕ, suc, List, Option}
use Rattle.std.proofs.Common.{Some, None, length, min, slice_get, sym, subst, inl, inr, arith}
use Rattle.std.proofs.Common.{bit_and}
use Rattle.std.proofs.lemmas.{Bool.cases_eq, Nat.Bits.bit_at-trailing_zeros}
use Rattle.std.specs.Int.{bit_not, trailing_zeros, w128}
use Rattle.aeth_chip.specs.Levels.{HasBit, IsLedFrom, IsOrigin, LeadsTo, MarksLevel}
use Rattle.aeth_chip.proofs.LevelLemmas.{Found, IsRound}
use Rattle.aeth_chip.proofs.MaskLemmas.{and_bit-both, and_bit-left, and_bit-right, before-has}
use Rattle.aeth_chip.proofs.MaskLemmas.{before-only, bit-cases, not-has, not-only}
use Rattle.aeth_chip.proofs.SpreadLemmas.{count-kept, count-less, count_none, level-apart}
use Rattle.aeth_chip.proofs.SpreadLemmas.{marks-kept}

-- The set has the places without a level, of so many.
pub record AreUnseen (places unseen : ℕ) (levels : List (Option ℕ)) : Type 0 where
  pub none : (place : ℕ) → place < places → HasBit unseen place
      → slice_get levels place ≡ Some None
  pub each : (place : ℕ) → place < places → slice_get levels place ≡ Some None
      → HasBit unseen place

-- A set that isn't empty has a place.
pub some_place : (set : ℕ) → set < 2 ^ 128 → 0 < set → (place : ℕ) × HasBit set place
some_place set small some =
    (trailing_zeros w128 set, (bit_at-trailing_zeros w128 set some small).1)

-- A round, where the places that lead to the frontier and have no level got one.
pub round-of : (origins : List ℕ) (routers rounds level frontier led unseen : ℕ)
    (old new : List (Option ℕ)) → routers < 128
    → ((from to : ℕ) → IsOrigin origins from to → from < length origins)
    → ((from : ℕ) → IsLedFrom led from (LeadsTo origins frontier from))
    → AreUnseen (length origins) unseen old → level ≡ rounds + 1
    → MarksLevel (bit_and led unseen) level old new
    → IsRound (IsOrigin origins) routers rounds frontier (bit_and led unseen)
    (bit_and (bit_and led unseen) (1 * 2 ^ routers % 2 ^ 128 - 1)) old new
round-of origins routers rounds level frontier led unseen old new few placed leads are next marks =
    let one : level ≡ suc rounds = omega arith in
    record {
      leads = λ place has. (leads place).0 (and_bit-left led unseen place has);
      none = λ place has.
          let (to, on, origin) = (leads place).0 (and_bit-left led unseen place has) in
          are.none place (placed place to origin) (and_bit-right led unseen place has);
      each = λ place on none.
          and_bit-both led unseen place ((leads place).1 on)
          (are.each place (placed place on.0 on.2) none);
      marks = subst (λ (n : ℕ). MarksLevel (bit_and led unseen) n old new) one marks;
      goes_on = λ place has. (
        before-only routers place few
            (and_bit-right (bit_and led unseen) (1 * 2 ^ routers % 2 ^ 128 - 1) place has),
        and_bit-left (bit_and led unseen) (1 * 2 ^ routers % 2 ^ 128 - 1) place has,
      );
      routers_go = λ place router has.
          and_bit-both (bit_and led unseen) (1 * 2 ^ routers % 2 ^ 128 - 1) place has
          (before-has routers place few router);
    }

-- Behind a round the places without a level are those that had none and didn't get one.
pub unseen-more : (places unseen fresh level : ℕ) (old new : List (Option ℕ)) → places ≤ 128
    → fresh < 2 ^ 128 → AreUnseen places unseen old → MarksLevel fresh level old new
    → AreUnseen places (bit_and unseen (bit_not w128 fresh)) new
unseen-more places unseen fresh level old new few small are marks = record {
  none = λ place within has.
      let apart = not-only fresh place small (omega arith)
      (and_bit-right unseen (bit_not w128 fresh) place has) in
      marks.away place apart
      ∙ are.none place within (and_bit-left unseen (bit_not w128 fresh) place has);
  each = λ place within none. elim (bit-cases fresh place) [
    | inl one ↦ absurd (level-apart new place level (marks.here place one) none)
    | inr other ↦
        and_bit-both unseen (bit_not w128 fresh) place
        (are.each place within (sym (marks.away place other) ∙ none))
        (not-has fresh place small (omega arith) other)
  ];
}

-- Behind a round fewer places are without a level, or there are none to go on from.
pub round-smaller : (Step : ℕ → ℕ → Type 0) (routers rounds frontier fresh next : ℕ)
    (old new : List (Option ℕ)) → 0 < frontier → next < 2 ^ 128
    → IsRound Step routers rounds frontier fresh next old new
    → count_none new + min 1 next < count_none old + min 1 frontier
round-smaller Step routers rounds frontier fresh next old new some small round =
    let marks = round.marks in
    let kept = marks-kept fresh (suc rounds) old new marks round.none in
    elim (cases_eq next 0) [
      | inl none ↦
          let count = count-kept old new marks.size kept in
          omega (arith, count, none, some)
      | inr other ↦
          let (place, has) = some_place next small (omega arith) in
          let bit = (round.goes_on place has).1 in
          let count = count-less old new place (suc rounds) marks.size kept
          (round.none place bit) (marks.here place bit) in
          omega (arith, count, some)
    ]

-- Where there are places to go on from, the rounds so far are at most as many as the places.
pub rounds-few : (Step : ℕ → ℕ → Type 0) (routers goal places rounds frontier : ℕ)
    (levels : List (Option ℕ)) → Found Step routers goal places rounds frontier levels
    → frontier < 2 ^ 128 → 0 < frontier → rounds ≤ places
rounds-few Step routers goal places rounds frontier levels found small some =
    let (place, has) = some_place frontier small some in
    let room = found.room place has in omega arith
