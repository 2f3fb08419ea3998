-- Laws of what components drive together.
use Rattle.std.proofs.Common.{ℕ, zero, suc, ◌≡◌, refl, inl, inr, arith, Bool, true, Option, Some}
use Rattle.std.proofs.Common.{List, [], ◌∷◌, slice_get}
use Rattle.std.proofs.lemmas.{Bool.cases_Bool, Map.Keys.any_passes_from_place, Option.same_Some}
use Rattle.aeth_clocked.specs.declared.flit.Flit.{Flit}
use Rattle.aeth_clocked.specs.Driven.{AreDisjoint, is_output, driven}

module _ {P : Type 0} (outputs : P → ℕ → Bool) where
  -- Of disjoint components those behind the first are disjoint.
  pub AreDisjoint-tail : (part : P) (parts : List P)
      → AreDisjoint outputs (part ∷ parts) → AreDisjoint outputs parts
  AreDisjoint-tail part parts disjoint i j link one other at there is is_too =
      let same = disjoint (suc i) (suc j) link one other at there is is_too in omega arith

  -- An output of a component is an output.
  pub is_output-at : (parts : List P) (i link : ℕ) (part : P) → slice_get parts i ≡ Some part
      → outputs part link ≡ true → is_output outputs parts link ≡ true
  is_output-at parts i link part at is =
      any_passes_from_place (λ part. outputs part link) parts i part at is

  -- Each output is a component's.
  pub is_output-some : (parts : List P) (link : ℕ) → is_output outputs parts link ≡ true
      → (i : ℕ) × (part : P) × (slice_get parts i ≡ Some part) × (outputs part link ≡ true)
  is_output-some [] link is = absurd (cc is)
  is_output-some (first ∷ others) link is =
      elim (cases_Bool (outputs first link)) [
        | inl own ↦ (0, first, refl, own)
        | inr not ↦
            let found = is_output-some others link (rw not at is) in
            (suc found.0, found.1, found.2, found.3)
      ]

  -- Where one component alone has an output, its flit is driven there.
  pub driven-at : (emit : P → ℕ → ℕ → Option Flit) (parts : List P) (i cycle link : ℕ) (part : P)
      → AreDisjoint outputs parts → slice_get parts i ≡ Some part → outputs part link ≡ true
      → driven outputs emit parts cycle link ≡ emit part cycle link
  driven-at emit [] i cycle link part disjoint at is = absurd cc
  driven-at emit (first ∷ others) zero cycle link part disjoint at is =
      let same : first ≡ part = same_Some first part at in
      rw same (rw is refl)
  driven-at emit (first ∷ others) (suc i) cycle link part disjoint at is =
      elim (cases_Bool (outputs first link)) [
        | inl own ↦
            absurd (let same = disjoint 0 (suc i) link first part refl at own is in omega arith)
        | inr not ↦ rw not (driven-at emit others i cycle link part
            (AreDisjoint-tail first others disjoint) at is)
      ]
