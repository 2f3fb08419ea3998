-- A wire has one place on one link: the two ways between numbers and places.
use Rattle.std.proofs.Common.{◌≡◌, ◌<◌, ◌+◌, ◌-◌, ◌∙◌, ℕ, zero, suc, false, true, List, [], ◌∷◌}
use Rattle.std.proofs.Common.{Some, length, take, refl, ap, subst, inl, inr, arith, nat_lt}
use Rattle.std.proofs.Common.{slice_get, le-ltb, lt-ltb}
use Rattle.std.proofs.lemmas.{Bool.cases_lt, List.Sums.sum_by-cons, Option.same_Some}
use Rattle.std.proofs.lemmas.{Option.slice_get_cases, Option.slice_get_within}
use Rattle.aeth_base.proofs.Lists.{option_map-some}
use Rattle.aeth_chip.specs.Wires.{HaveDelays, further_wires, wire_at}
use Rattle.aeth_chip.specs.declared.node.Link.{Link}
use Rattle.aeth_routed_sessions.specs.Wiring.{further_at, wire_place}

-- The place of a further wire.
further_at-place : (links : List Link) (l j : ℕ) (link : Link) → slice_get links l ≡ Some link
    → j < link.delay - 1 → further_at links (further_wires (take l links) + j) ≡ Some (l, j)
further_at-place [] l j link at short = absurd (cc at)
further_at-place (first ∷ links) zero j link at short =
    let same : first ≡ link = same_Some first link at in
    let delays = ap (λ (k : Link). k.delay) same in
    let start : further_wires (take 0 (first ∷ links)) + j ≡ j = omega arith in
    let within : nat_lt j (first.delay - 1) ≡ true =
    lt-ltb j (first.delay - 1) (omega (arith, short, delays)) in
    ap (further_at (first ∷ links)) start ∙ rw within refl
further_at-place (first ∷ links) (suc l) j link at short =
    let rest = further_at-place links l j link at short in
    let before = further_wires (take l links) in
    let front = first.delay - 1 in
    let split = sum_by-cons (λ (k : Link). k.delay - 1) first (take l links) in
    let index : further_wires (take (suc l) (first ∷ links)) + j ≡ front + (before + j) =
    omega (arith, split) in
    let past : nat_lt (front + (before + j)) front ≡ false =
    le-ltb (front + (before + j)) front (omega arith) in
    let behind : front + (before + j) - front ≡ before + j = omega arith in
    ap (further_at (first ∷ links)) index ∙ rw (past, behind, rest) refl

-- A wire at its place.
pub wire_place-at : (links : List Link) (l p : ℕ) (link : Link) → slice_get links l ≡ Some link
    → p < link.delay → wire_place links (wire_at links l p) ≡ Some (l, p)
wire_place-at links l zero link at short =
    rw (lt-ltb l (length links) (slice_get_within links l link at)) refl
wire_place-at links l (suc p) link at short =
    let before = further_wires (take l links) in
    let wire = length links + before + p in
    let past : nat_lt wire (length links) ≡ false = le-ltb wire (length links) (omega arith) in
    let behind : wire - length links ≡ before + p = omega arith in
    let found = further_at-place links l p link at (omega (arith, short)) in
    rw (past, behind, found) refl

-- What stands at a number is a further wire there.
record IsFurther (links : List Link) (k : ℕ) (at : ℕ × ℕ) : Type 0 where
  link : Link
  is_link : slice_get links at.0 ≡ Some link
  short : at.1 < link.delay - 1
  is : further_wires (take at.0 links) + at.1 ≡ k

further_at-is : (links : List Link) (k : ℕ) (at : ℕ × ℕ) → further_at links k ≡ Some at
    → IsFurther links k at
further_at-is [] k at found = absurd (cc found)
further_at-is (first ∷ links) k at found = elim (cases_lt k (first.delay - 1)) [
  | inl less ↦
      let same : (0, k) ≡ at =
      same_Some (0, k) at (rw (lt-ltb k (first.delay - 1) less) at found) in
      let here : IsFurther (first ∷ links) k (0, k) =
      record { link = first; is_link = refl; short = less; is = omega arith } in
      subst (λ (p : ℕ × ℕ). IsFurther (first ∷ links) k p) same here
  | inr past ↦
      let front = first.delay - 1 in
      let (before, is, same) = option_map-some (λ (p : ℕ × ℕ). (suc p.0, p.1)) (further_at links (k - front))
      at (rw (le-ltb k front past) at found) in
      let rest = further_at-is links (k - front) before is in
      let split = sum_by-cons (λ (k : Link). k.delay - 1) first (take before.0 links) in
      let index = rest.is in
      let here : IsFurther (first ∷ links) k (suc before.0, before.1) = record {
        link = rest.link;
        is_link = rest.is_link;
        short = rest.short;
        is = omega (arith, split, index, past);
      } in
      subst (λ (p : ℕ × ℕ). IsFurther (first ∷ links) k p) same here
]

-- A wire has a place: it is that wire of that link.
pub record IsWireAt (links : List Link) (wire : ℕ) (at : ℕ × ℕ) : Type 0 where
  pub link : Link
  pub is_link : slice_get links at.0 ≡ Some link
  pub short : at.1 < link.delay
  pub is : wire_at links at.0 at.1 ≡ wire

first_there : (links : List Link) → HaveDelays links → (wire : ℕ) → wire < length links
    → IsWireAt links wire (wire, 0)
first_there links delays wire within = elim ((slice_get_cases links wire).1) [
  | inl found ↦
      let delay = (delays wire found.0 found.2).0 in
      record { link = found.0; is_link = found.2; short = omega (arith, delay); is = refl }
  | inr none ↦ let past = none.0 in absurd (omega (arith, within, past))
]

-- So each place that is found is.
pub wire_place-is : (links : List Link) → HaveDelays links → (wire : ℕ) (at : ℕ × ℕ)
    → wire_place links wire ≡ Some at → IsWireAt links wire at
wire_place-is links delays wire at found = elim (cases_lt wire (length links)) [
  | inl less ↦
      let same : (wire, 0) ≡ at =
      same_Some (wire, 0) at (rw (lt-ltb wire (length links) less) at found) in
      subst (λ (p : ℕ × ℕ). IsWireAt links wire p) same
      (first_there links delays wire less)
  | inr past ↦
      let (before, is, same) = option_map-some (λ (p : ℕ × ℕ). (p.0, suc p.1))
      (further_at links (wire - length links)) at
      (rw (le-ltb wire (length links) past) at found) in
      let rest = further_at-is links (wire - length links) before is in
      let short = rest.short in
      let index = rest.is in
      let here : IsWireAt links wire (before.0, suc before.1) = record {
        link = rest.link;
        is_link = rest.is_link;
        short = omega (arith, short);
        is = omega (arith, index, past);
      } in
      subst (λ (p : ℕ × ℕ). IsWireAt links wire p) same here
]
