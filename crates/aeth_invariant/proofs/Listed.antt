-- The wires have the one member of `carries`, or nothing where it is empty.
use Rattle.std.proofs.Common.{◌≡◌, ◌<◌, ◌∙◌, ℕ, zero, suc, ◌+◌, ◌-◌, ◌&&◌, Bool, true, cond, List}
use Rattle.std.proofs.Common.{[], ◌∷◌, Option, Some, None, slice_get, refl, sym, ap, subst, arith}
use Rattle.std.proofs.Common.{inl, inr, eqb-true, eq-eqb, leb-true, le-leb, ◌==◌, IsTrue, nat_le}
use Rattle.std.proofs.lemmas.Bool.{cases_Bool, and_from, and_parts}
use Rattle.std.specs.{List.enumerate_from, List.range_with_len, Option.option_to_list}
use Rattle.aeth_clocked.specs.declared.flit.Flit.{Flit}
use Rattle.aeth_report.specs.Carries.{injects}
use Rattle.aeth_report.proofs.Places.{enumerate_from-place, flat_map-none, flat_map-sole}
use Rattle.aeth_report.proofs.Places.{place-enumerate_from, range-place}
use Rattle.aeth_invariant.specs.WellRouted.{AreWellRouted}
use Rattle.aeth_invariant.specs.Carried.{Exact, IsOnWire, flit_of}
use Rattle.aeth_invariant.specs.Carries.{carries, flits_at_place, flits_of_session, is_on_wire}
use Rattle.aeth_invariant.specs.RoutedSessions.{RoutedSessions, flow_at}
use Rattle.aeth_invariant.proofs.Unique.{one_flit}

-- A number of a range stands at its place.
pub place-range : (a n i : ℕ) → i < n → slice_get (range_with_len a n) i ≡ Some (a + i)
place-range a zero i within = absurd (omega arith)
place-range a (suc n) zero within = let same : a ≡ a + 0 = omega arith in ap (λ k. Some k) same
place-range a (suc n) (suc i) within =
    let same : a + 1 + i ≡ a + suc i = omega arith in
    place-range (a + 1) n i (omega arith) ∙ ap (λ k. Some k) same

-- A place of a range is below its length.
pub range-within : (a n i x : ℕ) → slice_get (range_with_len a n) i ≡ Some x → i < n
range-within a zero i x at = absurd cc
range-within a (suc n) zero x at = omega arith
range-within a (suc n) (suc i) x at =
    let later = range-within (a + 1) n i x at in omega (arith, later)

module _ (sessions : RoutedSessions) (l t : ℕ) where
  -- The places of a session's path.
  abbrev places : ℕ → List (ℕ × ℕ)
  places c = enumerate_from 0 (sessions.routed_session c).wires

  -- A flit that is there is on the wire.
  there-on : (c i : ℕ) (place : ℕ × ℕ) → c < sessions.count → slice_get (places c) i ≡ Some place
      → is_on_wire sessions l t c place ≡ true → IsOnWire sessions l t c i (t - i)
  there-on c i place h at there =
      let found = enumerate_from-place 0 (sessions.routed_session c).wires i place at in
      let number : place.0 ≡ i = found.0 ∙ omega arith in
      let outer = and_parts (place.1 == l && nat_le place.0 t)
      (injects (flow_at sessions c) (t - place.0)) there in
      let inner = and_parts (place.1 == l) (nat_le place.0 t) outer.0 in
      let reached = leb-true place.0 t inner.1 in
      record {
        known = h;
        place = found.1 ∙ ap (λ k. Some k) (eqb-true place.1 l inner.0);
        time = omega (arith, reached, number);
        injected = subst (λ n. IsTrue (injects (flow_at sessions c) (t - n))) number outer.1;
      }

  -- Where none is, the place gives nothing.
  none-at : (c i : ℕ) (place : ℕ × ℕ) → c < sessions.count → slice_get (places c) i ≡ Some place
      → ((u : ℕ) → IsOnWire sessions l t c i u → ⊥) → flits_at_place sessions l t c place ≡ []
  none-at c i place h at never = elim (cases_Bool (is_on_wire sessions l t c place)) [
    | inl there ↦ absurd (never (t - i) (there-on c i place h at there))
    | inr other ↦
        ap (λ (b : Bool). cond b (flit_of sessions c place.0 (t - place.0) ∷ []) []) other
  ]

  -- Where one is, that is what it gives.
  some-at : (c i u : ℕ) → IsOnWire sessions l t c i u
      → flits_at_place sessions l t c (i, l) ≡ flit_of sessions c i u ∷ []
  some-at c i u on =
      let time = on.time in
      let back : t - i ≡ u = omega (arith, time) in
      let there : is_on_wire sessions l t c (i, l) ≡ true =
      and_from (l == l && nat_le i t) (injects (flow_at sessions c) (t - i))
      (and_from (l == l) (nat_le i t) (eq-eqb l l refl) (le-leb i t (omega (arith, time))))
      (subst (λ n. IsTrue (injects (flow_at sessions c) n)) (sym back) on.injected) in
      ap (λ (b : Bool). cond b (flit_of sessions c i (t - i) ∷ []) []) there
      ∙ ap (λ n. flit_of sessions c i n ∷ []) back

  -- A session that has no flit on the wire gives none.
  none-on : (c : ℕ) → c < sessions.count → ((i u : ℕ) → IsOnWire sessions l t c i u → ⊥)
      → flits_of_session sessions l t c ≡ []
  none-on c h never =
      flat_map-none (flits_at_place sessions l t c) (places c) (λ i place at.
      none-at c i place h at (never i))

  -- The number at a place of all.
  session-at : (k c : ℕ) → slice_get (range_with_len 0 sessions.count) k ≡ Some c
      → (k ≡ c) × (c < sessions.count)
  session-at k c at =
      let same = range-place 0 sessions.count k c at in
      let within = range-within 0 sessions.count k c at in
      (omega (arith, same), omega (arith, same, within))

-- In one equation: one member or none.
pub wires-carry : (sessions : RoutedSessions) (ok : AreWellRouted sessions) (t : ℕ)
    (wires : ℕ → Option Flit)
    → Exact sessions t wires → (l : ℕ) → carries sessions l t ≡ option_to_list (wires l)
wires-carry sessions ok t wires exact l =
    let numbers = range_with_len 0 sessions.count in
    let cases : (flit : Option Flit) → wires l ≡ flit
    → carries sessions l t ≡ option_to_list flit = elim [
      | None ↦ λ none.
          flat_map-none (flits_of_session sessions l t) numbers (λ k c at.
          none-on sessions l t c (session-at sessions l t k c at).1 (λ i u on.
          let some : None ≡ Some (flit_of sessions c i u) = sym none ∙ exact.all l c i u on in
          absurd cc))
      | Some flit ↦ λ there.
          let comes = exact.only l flit there in
          let c = comes.number in
          let i = comes.place in
          let u = comes.cycle in
          let on = comes.on in
          let alone = λ (d j v : ℕ) (other : IsOnWire sessions l t d j v).
          one_flit sessions ok l t d j v c i u other on in
          let same : 0 + c ≡ c = omega arith in
          flat_map-sole (flits_of_session sessions l t) numbers c c
          (place-range 0 sessions.count c on.known ∙ ap (λ k. Some k) same)
          (λ k d at ne.
          let is = session-at sessions l t k d at in
          none-on sessions l t d is.1 (λ j v other. ne (is.0 ∙ (alone d j v other).0)))
          ∙ flat_map-sole (flits_at_place sessions l t c) (places sessions l t c) i (i, l)
          (place-enumerate_from 0 (sessions.routed_session c).wires i i l (omega arith) on.place)
          (λ j place at ne.
          none-at sessions l t c j place on.known at (λ v other. ne (alone c j v other).1))
          ∙ some-at sessions l t c i u on
          ∙ ap (λ (f : Flit). f ∷ []) (sym comes.is)
    ] in
    cases (wires l) refl
