-- Laws of how many wires have a flit.
use Rattle.std.proofs.Common.{ℕ, zero, suc, ◌≡◌, ◌+◌, ◌≤◌, refl, sym, ◌∙◌, arith, List, [], ◌∷◌}
use Rattle.std.proofs.Common.{take, Option, Some, None, IsSome, is_some}
use Rattle.aeth_base.proofs.Lists.{count_by-no, count_by-yes}
use Rattle.aeth_clocked.specs.{Wires.flit_on, declared.flit.Flit.Flit}
use Rattle.aeth_components.specs.FlitsOnWires.{flits_on}

-- One wire more with a flit.
pub flits_on-more : (wires : List (Option Flit)) (wire : ℕ) → IsSome (flit_on wires wire)
    → flits_on (take (wire + 1) wires) ≡ flits_on (take wire wires) + 1
flits_on-more [] wire some = absurd (cc some)
flits_on-more (None ∷ wires) zero some = absurd (cc some)
flits_on-more (Some flit ∷ wires) zero some = refl
flits_on-more (None ∷ wires) (suc wire) some =
    let next : suc wire + 1 ≡ suc (wire + 1) = omega arith in
    rw next (flits_on-more wires wire some)
flits_on-more (Some flit ∷ wires) (suc wire) some =
    let next : suc wire + 1 ≡ suc (wire + 1) = omega arith in
    let rest = flits_on-more wires wire some in
    let after : flits_on (take (suc (wire + 1)) (Some flit ∷ wires))
    ≡ suc (flits_on (take (wire + 1) wires)) =
    count_by-yes is_some (Some flit) (take (wire + 1) wires) refl in
    let before : flits_on (take (suc wire) (Some flit ∷ wires))
    ≡ suc (flits_on (take wire wires)) =
    count_by-yes is_some (Some flit) (take wire wires) refl in
    rw next (omega (arith, rest, after, before))

-- The first wires have no more flits than more of them.
pub flits_on-take : (wires : List (Option Flit)) (from to : ℕ) → from ≤ to
    → flits_on (take from wires) ≤ flits_on (take to wires)
flits_on-take wires zero to within = omega arith
flits_on-take [] (suc from) to within = omega arith
flits_on-take (wire ∷ wires) (suc from) zero within = absurd (omega arith)
flits_on-take (None ∷ wires) (suc from) (suc to) within =
    flits_on-take wires from to (omega arith)
flits_on-take (Some flit ∷ wires) (suc from) (suc to) within =
    let rest = flits_on-take wires from to (omega arith) in
    let more : flits_on (take (suc to) (Some flit ∷ wires)) ≡ suc (flits_on (take to wires)) =
    count_by-yes is_some (Some flit) (take to wires) refl in
    let fewer : flits_on (take (suc from) (Some flit ∷ wires))
    ≡ suc (flits_on (take from wires)) =
    count_by-yes is_some (Some flit) (take from wires) refl in
    omega (arith, rest, more, fewer)

-- Just where no wire has a flit there are none.
pub flits_on-none : (wires : List (Option Flit)) → flits_on wires ≡ 0 → (wire : ℕ)
    → flit_on wires wire ≡ None
flits_on-none [] none wire = refl
flits_on-none (None ∷ wires) none zero = refl
flits_on-none (None ∷ wires) none (suc wire) =
    flits_on-none wires (sym (count_by-no is_some None wires refl) ∙ none) wire
flits_on-none (Some flit ∷ wires) none wire =
    let more = count_by-yes is_some (Some flit) wires refl in
    absurd (omega (arith, more, none))

pub none-flits_on : (wires : List (Option Flit)) → ((wire : ℕ) → flit_on wires wire ≡ None)
    → flits_on wires ≡ 0
none-flits_on [] none = refl
none-flits_on (None ∷ wires) none =
    count_by-no is_some None wires refl ∙ none-flits_on wires (λ wire. none (suc wire))
none-flits_on (Some flit ∷ wires) none = absurd (cc (none 0))
