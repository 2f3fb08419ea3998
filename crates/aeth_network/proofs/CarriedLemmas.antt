-- What cycles cost, by the flits that they carry.
use Rattle.std.proofs.Common.{◌≡◌, ◌≤◌, ◌+◌, ◌-◌, ◌*◌, ◌∙◌, ℕ, zero, suc, ap, arith, refl, subst}
use Rattle.std.proofs.Common.{sym}
use Rattle.aeth_components.specs.FlitsOnWires.{flits_on}
use Rattle.aeth_running.specs.Network.{NetworkState, played}
use Rattle.aeth_network.{specs.Carried.carried_in, proofs.NextBusy.played-sum}

-- The flits of the last of some cycles are among those of all, and so many cycles carry what some of them
-- do and then the others.
pub carried-last : (k : ℕ) (all : NetworkState)
    → flits_on (played (k + 1) all).components.wires ≤ carried_in (k + 1) all
unfolding carried_in
carried-last k all =
    let next : k + 1 ≡ suc k = omega arith in
    let step : carried_in (suc k) all
    ≡ carried_in k all + flits_on (played (suc k) all).components.wires = refl in
    subst (λ n. flits_on (played n all).components.wires ≤ carried_in n all) (sym next)
    (omega (arith, step))

pub carried-sum : (a b : ℕ) (all : NetworkState)
    → carried_in (a + b) all ≡ carried_in a all + carried_in b (played a all)
unfolding carried_in
carried-sum a zero all =
    let same : a + zero ≡ a = omega arith in
    let is = ap (λ n. carried_in n all) same in
    let none : carried_in zero (played a all) ≡ 0 = refl in
    omega (arith, is, none)
carried-sum a (suc b) all =
    let next : a + suc b ≡ suc (a + b) = omega arith in
    let before = carried-sum a b all in
    let last = ap (λ (one : NetworkState). flits_on one.components.wires)
    (played-sum (suc b) a all ∙ ap (λ n. played n all) next) in
    let is = ap (λ n. carried_in n all) next in
    let step : carried_in (suc (a + b)) all
    ≡ carried_in (a + b) all + flits_on (played (suc (a + b)) all).components.wires = refl in
    let part : carried_in (suc b) (played a all) ≡ carried_in b (played a all)
    + flits_on (played (suc b) (played a all)).components.wires = refl in
    omega (arith, before, last, is, step, part)

-- What a busy cycle costs, behind cycles that cost nothing.
pub counts-on : (old now new : NetworkState) (to before behind : ℕ) → old.time ≤ to
    → new ≡ played (to + 1 - old.time) old → now.components.wires ≡ old.components.wires
    → behind ≤ before + 2 * flits_on now.components.wires + 2 * flits_on new.components.wires
    → behind + 2 * flits_on new.components.wires ≤ before + 2 * flits_on old.components.wires
    + 4 * carried_in (to + 1 - old.time) old
counts-on old now new to before behind from is wires counted =
    let next : to + 1 - old.time ≡ (to - old.time) + 1 = omega arith in
    let last = carried-last (to - old.time) old in
    let carried = ap (λ n. carried_in n old) next in
    let flits : flits_on new.components.wires
    ≡ flits_on (played ((to - old.time) + 1) old).components.wires =
    ap (λ (one : NetworkState). flits_on one.components.wires)
    (is ∙ ap (λ n. played n old) next) in
    let same = ap flits_on wires in
    omega (arith, last, carried, flits, same, counted)

-- What cycles cost, and then others.
pub counts-further : (first old : NetworkState) (to start flits before behind : ℕ)
    → first.time ≤ old.time → old.time ≤ to → old ≡ played (old.time - first.time) first
    → before + 2 * flits_on old.components.wires
    ≤ start + 2 * flits_on first.components.wires + 4 * carried_in (old.time - first.time) first
    → behind + 2 * flits
    ≤ before + 2 * flits_on old.components.wires + 4 * carried_in (to - old.time) old
    → behind + 2 * flits
    ≤ start + 2 * flits_on first.components.wires + 4 * carried_in (to - first.time) first
counts-further first old to start flits before behind least from is one other =
    let whole : (old.time - first.time) + (to - old.time) ≡ to - first.time = omega arith in
    let sum = carried-sum (old.time - first.time) (to - old.time) first in
    let carried = ap (λ n. carried_in n first) whole in
    let same = ap (carried_in (to - old.time)) is in
    omega (arith, sum, carried, same, one, other)

-- No more is carried in fewer cycles.
pub counts-end : (first old : NetworkState) (to start now : ℕ) → first.time ≤ old.time
    → old.time ≤ to → now + 2 * flits_on old.components.wires
    ≤ start + 2 * flits_on first.components.wires + 4 * carried_in (old.time - first.time) first
    → now ≤ start + 4 * carried_in (to - first.time) first + 2 * flits_on first.components.wires
counts-end first old to start now least from counted =
    let whole : (old.time - first.time) + (to - old.time) ≡ to - first.time = omega arith in
    let sum = carried-sum (old.time - first.time) (to - old.time) first in
    let carried = ap (λ n. carried_in n first) whole in
    omega (arith, sum, carried, counted)
