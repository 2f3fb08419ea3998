-- What a link carries, where nothing is carried and where one flit alone is.
use Rattle.std.proofs.Common.{◌≡◌, ◌≤◌, ◌∙◌, ℕ, ◌-◌, ◌&&◌, Bool, true, cond, List, [], ◌∷◌, Some}
use Rattle.std.proofs.Common.{length, slice_get, refl, sym, ap, subst, inl, inr, arith, eqb-true}
use Rattle.std.proofs.Common.{eq-eqb, leb-true, le-leb, ◌==◌, nat_le, IsTrue}
use Rattle.std.proofs.lemmas.Bool.{cases_Bool, and_parts, and_from}
use Rattle.std.specs.List.{enumerate_from}
use Rattle.aeth_base.specs.declared.ids.LinkId.{LinkId}
use Rattle.aeth_chip.specs.Paths.{offset}
use Rattle.aeth_report.specs.{Flows.Flow, Flows.Run, SessionList.flows_of, Carries.IsCarried}
use Rattle.aeth_report.specs.{Carries.carries, Carries.flit_at, Carries.flits_at, Carries.flits_on}
use Rattle.aeth_report.specs.{Carries.injects, Carries.is_there}
use Rattle.aeth_report.proofs.Places.{enumerate_from-place, flat_map-none, flat_map-place}
use Rattle.aeth_report.proofs.Places.{flat_map-sole, place-enumerate_from}
use Rattle.aeth_clocked.specs.declared.flit.Flit.{Flit}

module _ (run : Run) (l t : ℕ) where
  -- The places of a flow's path, and how long a flit takes to each.
  abbrev places : Flow → List (ℕ × LinkId)
  places flow = enumerate_from 0 flow.path

  abbrev ahead : Flow → ℕ → ℕ
  ahead flow i = offset run.design.chip.links flow.path i

  -- The flits that a flow has at a place.
  abbrev here : Flow → ℕ × LinkId → Bool
  here flow place = is_there run.design.chip.links flow l t place

  -- A flit that is there is carried.
  there-is_carried : (c i : ℕ) (flow : Flow) (place : ℕ × LinkId)
      → slice_get (flows_of run) c ≡ Some flow → slice_get (places flow) i ≡ Some place
      → here flow place ≡ true → IsCarried run l t c i (t - ahead flow i) flow
  there-is_carried c i flow place is at there =
      let found = enumerate_from-place 0 flow.path i place at in
      let number : place.0 ≡ i = found.0 ∙ omega arith in
      let before = ahead flow place.0 in
      let outer = and_parts (place.1.0 == l && nat_le before t) (injects flow (t - before)) there in
      let inner = and_parts (place.1.0 == l) (nat_le before t) outer.0 in
      let link : place.1 ≡ record { 0 = l } =
      ap (λ (n : ℕ). record { 0 = n }) (eqb-true place.1.0 l inner.0) in
      let reached : ahead flow i ≤ t =
      subst (λ (n : ℕ). ahead flow n ≤ t) number (leb-true before t inner.1) in
      record {
        flow_is = is;
        place = found.1 ∙ ap (λ (k : LinkId). Some k) link;
        time = omega arith;
        injected =
            subst (λ (n : ℕ). IsTrue (injects flow (t - ahead flow n))) number outer.1;
      }

  -- Where nothing is carried at a place, it gives nothing.
  none_at : (c i : ℕ) (flow : Flow) (place : ℕ × LinkId)
      → slice_get (flows_of run) c ≡ Some flow → slice_get (places flow) i ≡ Some place
      → ((u : ℕ) → IsCarried run l t c i u flow → ⊥)
      → flits_at run.design.chip.links flow l t place ≡ []
  none_at c i flow place is at never = elim (cases_Bool (here flow place)) [
    | inl there ↦
        absurd (never (t - ahead flow i) (there-is_carried c i flow place is at there))
    | inr not_there ↦ ap
        (λ (b : Bool). cond b (flit_at flow place.0 (t - ahead flow place.0) ∷ []) []) not_there
  ]

  -- What is carried at a place is what it gives.
  some_at : (c i u : ℕ) (flow : Flow) → IsCarried run l t c i u flow
      → flits_at run.design.chip.links flow l t (i, record { 0 = l }) ≡ flit_at flow i u ∷ []
  some_at c i u flow carried =
      let before = ahead flow i in
      let time = carried.time in
      let back : t - before ≡ u = omega arith in
      let there : here flow (i, record { 0 = l }) ≡ true =
      and_from (l == l && nat_le before t) (injects flow (t - before))
      (and_from (l == l) (nat_le before t) (eq-eqb l l refl) (le-leb before t (omega arith)))
      (subst (λ (n : ℕ). IsTrue (injects flow n)) (sym back) carried.injected) in
      ap (λ (b : Bool). cond b (flit_at flow i (t - before) ∷ []) []) there
      ∙ ap (λ (n : ℕ). flit_at flow i n ∷ []) back

  -- Where one place of one flow alone carries a flit, the list has that flit alone.
  pub carries-sole : (c i u : ℕ) (flow : Flow) → IsCarried run l t c i u flow
      → ((d j v : ℕ) (other : Flow) → IsCarried run l t d j v other → (d ≡ c) × (j ≡ i))
      → carries run l t ≡ flit_at flow i u ∷ []
  carries-sole c i u flow carried alone =
      let links = run.design.chip.links in
      flat_map-sole (flits_on links l t) (flows_of run) c flow carried.flow_is (λ d other is ne.
      flat_map-none (flits_at links other l t) (places other) (λ j place at.
      none_at d j other place is at (λ v k. ne (alone d j v other k).0)))
      ∙ flat_map-sole (flits_at links flow l t) (places flow) i (i, record { 0 = l })
      (place-enumerate_from 0 flow.path i i (record { 0 = l }) (omega arith) carried.place)
      (λ j place at ne.
      none_at c j flow place carried.flow_is at (λ v k. ne (alone c j v flow k).1))
      ∙ some_at c i u flow carried

  -- The flit of some flow, at some place.
  pub record HasFlit : Type 0 where
    pub number : ℕ
    pub place : ℕ
    pub cycle : ℕ
    pub flow : Flow
    pub carried : IsCarried run l t number place cycle flow

  -- A list that isn't empty has one that is carried.
  pub carries-some : (n : ℕ) (flit : Flit) → slice_get (carries run l t) n ≡ Some flit → HasFlit
  carries-some n flit at =
      let links = run.design.chip.links in
      let outer = flat_map-place (flits_on links l t) (flows_of run) n flit at in
      let flow = outer.item in
      let inner = flat_map-place (flits_at links flow l t) (places flow) outer.inner flit outer.gives in
      let place = inner.item in
      elim (cases_Bool (here flow place)) [
        | inl there ↦ record {
          number = outer.place;
          place = inner.place;
          cycle = t - ahead flow inner.place;
          flow = flow;
          carried = there-is_carried outer.place inner.place flow place outer.at inner.at there;
        }
        | inr other ↦ absurd (cc (rw other at inner.gives))
      ]

  -- So there is one flit at most, where one flow alone carries one, at one place.
  pub carries-few : ((c i u d j v : ℕ) (flow other : Flow) → IsCarried run l t c i u flow
      → IsCarried run l t d j v other → (c ≡ d) × (i ≡ j)) → length (carries run l t) ≤ 1
  carries-few alone =
      let cases : (flits : List Flit) → carries run l t ≡ flits → length flits ≤ 1 = elim [
        | [] ↦ λ is. omega arith
        | flit ∷ flits ↦ λ is.
            let has = carries-some 0 flit (ap (λ fs. slice_get fs 0) is) in
            let one = carries-sole has.number has.place has.cycle has.flow has.carried
            (λ d j v other too.
            alone d j v has.number has.place has.cycle other has.flow too has.carried) in
            let same : length (flit ∷ flits) ≡ 1 = ap length (sym is ∙ one) in
            omega arith
      ] in
      cases (carries run l t) refl
