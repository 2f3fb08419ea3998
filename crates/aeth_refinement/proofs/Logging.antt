-- Flits are counted as the law on networks has them.
use Rattle.std.proofs.Common.{◌≡◌, ◌<◌, ◌∙◌, ℕ, suc, ◌+◌, sym, ap, arith, Bool, cond, List, [], ◌∷◌}
use Rattle.std.proofs.Common.{◌++◌, Option, Some, None, length, get_or, slice_get, ◌==◌, count_by}
use Rattle.std.proofs.Common.{not, sum_by, unwrap_or}
use Rattle.std.proofs.lemmas.List.FromFn.{length-range_with_len}
use Rattle.std.proofs.lemmas.List.Sums.{count_by-le-length, sum_by-append}
use Rattle.std.proofs.lemmas.Option.{same_Some, slice_get-get_or, slice_get_within}
use Rattle.std.specs.{List.range_with_len, Option.option_to_list}
use Rattle.aeth_base.{proofs.Ranges.range_with_len-more, specs.Limits.max_cycles}
use Rattle.aeth_clocked.specs.{Wires.flit_on, declared.flit.Flit.Flit}
use Rattle.aeth_ni.specs.Limits.{max_count}
use Rattle.aeth_components.proofs.{CountingLemmas.length-flits_counted, NoteLemmas.flits_counted-at}
use Rattle.aeth_components.specs.Components.{ComponentsState, ComponentsCycle, IsComponents}
use Rattle.aeth_components.specs.Counting.{flits_counted, with_flit}
use Rattle.aeth_components.specs.declared.event.Event.{Event}
use Rattle.aeth_invariant.proofs.Listed.{wires-carry}
use Rattle.aeth_invariant.specs.{WellRouted.AreWellRouted, Carried.Exact, Carries.carries}
use Rattle.aeth_invariant.specs.{RoutedSessions.RoutedSessions}
use Rattle.aeth_refinement.specs.Logging.{CountsFlits, is_carried}

-- What passes a test among some numbers and one more.
count-append : (p : ℕ → Bool) (xs : List ℕ) (x : ℕ)
    → count_by p (xs ++ x ∷ []) ≡ count_by p xs + cond (p x) 1 0
count-append p xs x =
    let f : ℕ → ℕ = λ y. cond (p y) 1 0 in
    let sum : count_by p (xs ++ x ∷ []) ≡ count_by p xs + sum_by f (x ∷ []) =
    sum_by-append f xs (x ∷ []) in
    sum ∙ omega arith

count-more : (p : ℕ → Bool) (t : ℕ)
    → count_by p (range_with_len 0 (t + 1)) ≡ count_by p (range_with_len 0 t) + cond (p t) 1 0
count-more p t =
    let next : t + 1 ≡ suc t = omega arith in
    ap (λ n. count_by p (range_with_len 0 n)) next
    ∙ ap (count_by p) (range_with_len-more 0 t t (omega arith))
    ∙ count-append p (range_with_len 0 t) t

-- A wire with a flit counts one.
with_flit-is : (wire : Option Flit) (count : ℕ) → count < max_count
    → with_flit wire count ≡ count + cond (not (length (option_to_list wire) == 0)) 1 0
with_flit-is None count few = omega arith
with_flit-is (Some flit) count few = omega (arith, few)

module _ (sessions : RoutedSessions) (ok : AreWellRouted sessions) (events : List Event) (t : ℕ)
    (old new : ComponentsState) (sound : IsComponents old)
    (cycle : ComponentsCycle events t old new)
    (short : t < max_cycles) (exact : Exact sessions t (flit_on new.wires))
    (sized : length new.wires ≡ length old.wires) (counts : CountsFlits sessions t old) where
  pub counts-on : CountsFlits sessions (t + 1) new
  counts-on l count at =
      let flits : slice_get (flits_counted new.wires old.flits) l ≡ Some count =
      ap (λ (xs : List ℕ). slice_get xs l) (sym cycle.flits) ∙ at in
      let within = slice_get_within (flits_counted new.wires old.flits) l count flits in
      let size = length-flits_counted new.wires old.flits in
      let wires = sound.flits in
      let before = get_or old.flits l 0 in
      let there = slice_get-get_or old.flits l 0 (omega (arith, within, size)) in
      let wire = get_or new.wires l None in
      let on = slice_get-get_or new.wires l None (omega (arith, within, size, wires, sized)) in
      let is : with_flit wire before ≡ count =
      same_Some (with_flit wire before) count
      (sym (flits_counted-at new.wires old.flits l before wire on there) ∙ flits) in
      let was = counts l before there in
      let most = count_by-le-length (is_carried sessions l) (range_with_len 0 t) in
      let long = length-range_with_len 0 t in
      let carried : carries sessions l t ≡ option_to_list wire =
      wires-carry sessions ok t (flit_on new.wires) exact l
      ∙ ap (λ (o : Option (Option Flit)). option_to_list (unwrap_or o None)) on in
      sym is
      ∙ with_flit-is wire before (omega (arith, was, most, long, short))
      ∙ ap (λ (fs : List Flit). before + cond (not (length fs == 0)) 1 0) (sym carried)
      ∙ ap (λ n. n + cond (is_carried sessions l t) 1 0) was
      ∙ sym (count-more (is_carried sessions l) t)
