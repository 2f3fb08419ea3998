use Rattle.std.proofs.Common.{◌≡◌, ◌+◌, ◌-◌, ◌*◌, ◌%◌, ◌^◌, ◌<◌, ℕ, suc, List, Option, length, refl}
use Rattle.std.proofs.Common.{subst, sym, arith, bit_and}
use Rattle.std.proofs.lemmas.Nat.{and_le_l, and_le_r}
use Rattle.aeth_chip.specs.Levels.{IsOrigin}
use Rattle.aeth_chip.proofs.LevelLemmas.{Found, found-all, found-more, found-start, replicate-at}
use Rattle.aeth_chip.proofs.MaskLemmas.{all-has, and_bit-left, one_place-has, one_place-only}
use Rattle.aeth_chip.proofs.RoundLemmas.{AreUnseen, round-of, round-smaller, rounds-few}
use Rattle.aeth_chip.proofs.RoundLemmas.{unseen-more}
use Rattle.aeth_chip.proofs.levels.search.Goals as goal

-- No place has a level, and the goal is to go on from.
pub rounds-init : goal.rounds-init
rounds-init c =
    let places = length c.args.origins.now in
    let most = c.requires.most in
    let within = c.requires.goal in
    let few : c.args.goal < 128 = omega (arith, most, within) in
    record {
      found = subst (λ (levels : List (Option ℕ)).
          Found (IsOrigin c.args.origins.now) c.args.routers c.args.goal places 0
          (1 * 2 ^ c.args.goal % 2 ^ 128) levels) (sym c.requires.none)
          (found-start (IsOrigin c.args.origins.now) c.args.routers c.args.goal places
          (1 * 2 ^ c.args.goal % 2 ^ 128) (one_place-has c.args.goal few)
          (λ place has. one_place-only c.args.goal place few has));
      small = omega arith;
      unseen = subst (λ (levels : List (Option ℕ)). AreUnseen places (2 ^ 128 - 1) levels)
          (sym c.requires.none) (record {
            none = λ place within has. replicate-at places place within;
            each = λ place within none. all-has place (omega (arith, most, within));
          });
    }

-- There are no more rounds than places.
pub overflow_add-level : goal.overflow_add-level
overflow_add-level c =
    let some = c.rounds-test.true in
    let most = c.requires.most in
    let few = rounds-few (IsOrigin c.args.origins.now) c.args.routers c.args.goal
    (length c.args.origins.now) c.rounds.level c.rounds.frontier c.rounds.levels
    c.rounds.invariant.found c.rounds.invariant.small (omega (arith, some)) in
    omega (arith, few, most)

-- What gets a level is a place.
pub mark-requires : goal.mark-requires
mark-requires c = λ place has.
    let (to, on, origin) = (c.leading_to.ensures place).0
    (and_bit-left c.leading_to.result c.rounds.unseen place has) in
    let low = c.requires.places place to origin in
    let size = c.rounds.invariant.found.size in
    omega (arith, low, size)

-- Each round leaves fewer places without a level, or none to go on from.
pub rounds-smaller : goal.rounds-smaller
rounds-smaller c =
    let origins = c.args.origins.now in
    let fresh = bit_and c.leading_to.result c.rounds.unseen in
    let next = bit_and fresh (1 * 2 ^ c.args.routers % 2 ^ 128 - 1) in
    let some = c.rounds-test.true in
    let low = c.requires.routers in
    let within = c.requires.goal in
    let most = c.requires.most in
    let fewer = and_le_l fresh (1 * 2 ^ c.args.routers % 2 ^ 128 - 1) in
    let few = and_le_r c.leading_to.result c.rounds.unseen in
    let fits = c.rounds.auto.unseen-fits in
    round-smaller (IsOrigin origins) c.args.routers c.rounds.level c.rounds.frontier fresh next
    c.rounds.levels c.mark.new.levels (omega (arith, some)) (omega (arith, fewer, few, fits))
    (round-of origins c.args.routers c.rounds.level (c.rounds.level + 1) c.rounds.frontier
    c.leading_to.result c.rounds.unseen c.rounds.levels c.mark.new.levels
    (omega (arith, low, within, most)) c.requires.places c.leading_to.ensures
    c.rounds.invariant.unseen refl c.mark.ensures)

-- One more round.
pub rounds-preserved : goal.rounds-preserved
rounds-preserved c =
    let origins = c.args.origins.now in
    let fresh = bit_and c.leading_to.result c.rounds.unseen in
    let next = bit_and fresh (1 * 2 ^ c.args.routers % 2 ^ 128 - 1) in
    let low = c.requires.routers in
    let within = c.requires.goal in
    let most = c.requires.most in
    let fewer = and_le_l fresh (1 * 2 ^ c.args.routers % 2 ^ 128 - 1) in
    let few = and_le_r c.leading_to.result c.rounds.unseen in
    let fits = c.rounds.auto.unseen-fits in
    let one : suc c.rounds.level ≡ c.rounds.level + 1 = omega arith in
    let round = round-of origins c.args.routers c.rounds.level (c.rounds.level + 1)
    c.rounds.frontier c.leading_to.result c.rounds.unseen c.rounds.levels c.mark.new.levels
    (omega (arith, low, within, most)) c.requires.places c.leading_to.ensures
    c.rounds.invariant.unseen refl c.mark.ensures in
    record {
      found = subst (λ (n : ℕ).
          Found (IsOrigin origins) c.args.routers c.args.goal (length origins) n next
          c.mark.new.levels) one
          (found-more (IsOrigin origins) c.args.routers c.args.goal (length origins) c.rounds.level
          c.rounds.frontier fresh next c.rounds.levels c.mark.new.levels c.requires.places
          c.rounds.invariant.found round);
      small = omega (arith, fewer, few, fits);
      unseen = unseen-more (length origins) c.rounds.unseen fresh (c.rounds.level + 1)
          c.rounds.levels c.mark.new.levels most (omega (arith, few, fits))
          c.rounds.invariant.unseen c.mark.ensures;
    }

-- Nothing is left to go on from.
pub returns : goal.returns
returns c =
    let none = c.rounds-test.false in
    found-all (IsOrigin c.args.origins.now) c.args.routers c.args.goal (length c.args.origins.now)
    c.rounds.level c.rounds.frontier c.rounds.levels c.rounds.invariant.found (omega (arith, none))
