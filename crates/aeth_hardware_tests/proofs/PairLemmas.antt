-- Laws of two stages, the first of which takes a turn.
use Rattle.std.proofs.Common.{zero, suc, ◌≡◌, ◌<◌, arith, List, [], ◌∷◌, get_or, length, subst}
use Rattle.std.proofs.lemmas.List.Elements.{All-cons, All-nil}
use Rattle.std.proofs.lemmas.Option.{get_or_from_slice_get, slice_get_within}
use Rattle.std.specs.List.{IsDistinct}
use Rattle.aeth_clocked.specs.{Order.AreChosen, Resting.AllOthers}
use Rattle.aeth_router.specs.Stage.{StageState}

-- The first of two is chosen.
pub AreChosen-first : AreChosen 2 (0 ∷ [])
unfolding IsDistinct
AreChosen-first = record {
  distinct = (tt, tt);
  below = All-cons (λ number. number < 2) 0 [] (omega arith) (All-nil (λ number. number < 2));
}

-- What holds of the second holds of each other one.
pub others-second : (P : StageState → Type 0) (pair : List StageState) (default : StageState)
    → length pair ≡ 2 → P (get_or pair 1 default) → AllOthers (0 ∷ []) P pair
others-second P pair default two rests zero part at left = absurd (cc left)
others-second P pair default two rests (suc zero) part at left =
    subst P (get_or_from_slice_get pair 1 part default at) rests
others-second P pair default two rests (suc (suc number)) part at left =
    absurd (let within = slice_get_within pair (suc (suc number)) part at in
    omega (arith, within, two))
