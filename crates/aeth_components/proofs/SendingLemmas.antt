-- Components that send something of their own are no more than wires that have a flit behind the drive.
use Rattle.std.proofs.Common.{ℕ, zero, suc, ◌≡◌, ◌≤◌, ◌+◌, ◌∙◌, refl, sym, ap, arith, cond, Bool}
use Rattle.std.proofs.Common.{true, false, eqb, inl, inr, List, [], ◌∷◌, map, filter, count_by}
use Rattle.std.proofs.Common.{get_or, is_some, Some, slice_get, eq-eqb, ne_eqb}
use Rattle.std.proofs.lemmas.{Bool.cases_Bool, List.length-map, List.Sums.length-filter}
use Rattle.std.proofs.lemmas.{List.Sums.sum_by-cons, Option.get_or_from_slice_get, Option.same_Some}
use Rattle.std.proofs.lemmas.{Option.slice_get-get_or, Option.slice_get_within}
use Rattle.std.specs.List.{AllByRecursion, IsDistinct, range_with_len}
use Rattle.aeth_clocked.specs.{Driven.AreDisjoint, Driven.driven, Order.AreChosen}
use Rattle.aeth_clocked.proofs.DrivenLemmas.{AreDisjoint-tail, driven-at}
use Rattle.aeth_clocked.proofs.FewLemmas.{chosen-few}
use Rattle.aeth_router.specs.Part.{emit_of, outputs_of}
use Rattle.aeth_router.specs.declared.part.Part.{Part}
use Rattle.aeth_router.specs.declared.part.Part.TheVariants.{Interface, Router, Stage, TableRouter}
use Rattle.aeth_components.specs.{Components.wires_driven, Wirings.IsWired, Wirings.wiring_of}
use Rattle.aeth_components.specs.{FlitsOnWires.flits_on, FlitsOnWires.sends_own}
use Rattle.aeth_components.proofs.WiringLemmas.{AreDisjoint-parts, AreLinks-outputs}

-- The wire on which an interface sends.
abbrev leaving_of : Part → ℕ
leaving_of (Interface ni) = ni.leaving.0
leaving_of (Router router) = 0
leaving_of (TableRouter router) = 0
leaving_of (Stage stage) = 0

-- The wires on which components send something of their own.
abbrev leavings : ℕ → List Part → List ℕ
leavings cycle parts = map leaving_of (filter (sends_own cycle) parts)

-- A component that does sends on its wire, and emits a flit there.
leaving-output : (cycle : ℕ) (part : Part) → sends_own cycle part ≡ true
    → outputs_of part (leaving_of part) ≡ true
leaving-output cycle (Interface ni) sends = eq-eqb ni.leaving.0 ni.leaving.0 refl
leaving-output cycle (Router router) sends = absurd (cc sends)
leaving-output cycle (TableRouter router) sends = absurd (cc sends)
leaving-output cycle (Stage stage) sends = absurd (cc sends)

leaving-emits : (cycle : ℕ) (part : Part) → sends_own cycle part ≡ true
    → is_some (emit_of part cycle (leaving_of part)) ≡ true
leaving-emits cycle (Interface ni) sends = sends
leaving-emits cycle (Router router) sends = absurd (cc sends)
leaving-emits cycle (TableRouter router) sends = absurd (cc sends)
leaving-emits cycle (Stage stage) sends = absurd (cc sends)

-- Each of these wires is a component's.
record LeavesAt (cycle : ℕ) (parts : List Part) (wire : ℕ) : Type 0 where
  number : ℕ
  part : Part
  at : slice_get parts number ≡ Some part
  sends : sends_own cycle part ≡ true
  is : wire ≡ leaving_of part

-- One component further on.
later : (cycle : ℕ) (part : Part) (parts : List Part) (wire : ℕ) → LeavesAt cycle parts wire
    → LeavesAt cycle (part ∷ parts) wire
later cycle part parts wire rest = record {
  number = suc rest.number;
  part = rest.part;
  at = rest.at;
  sends = rest.sends;
  is = rest.is;
}

leaves-at : (cycle : ℕ) (parts : List Part) (place wire : ℕ)
    → slice_get (leavings cycle parts) place ≡ Some wire → LeavesAt cycle parts wire
leaves-at cycle [] place wire at = absurd (cc at)
leaves-at cycle (part ∷ parts) zero wire at =
    elim (cases_Bool (sends_own cycle part)) [
      | inl sends ↦ record {
        number = 0;
        part = part;
        at = refl;
        sends = sends;
        is = sym (same_Some (leaving_of part) wire (rw sends at at));
      }
      | inr mute ↦ later cycle part parts wire (leaves-at cycle parts zero wire (rw mute at at))
    ]
leaves-at cycle (part ∷ parts) (suc place) wire at =
    elim (cases_Bool (sends_own cycle part)) [
      | inl sends ↦ later cycle part parts wire (leaves-at cycle parts place wire (rw sends at at))
      | inr mute ↦
          later cycle part parts wire (leaves-at cycle parts (suc place) wire (rw mute at at))
    ]

-- A number that no item is.
apart-all : (number : ℕ) (xs : List ℕ)
    → ((place x : ℕ) → slice_get xs place ≡ Some x → eqb number x ≡ false)
    → AllByRecursion (λ x. eqb number x ≡ false) xs
apart-all number [] apart = tt
apart-all number (x ∷ xs) apart =
    (apart 0 x refl, apart-all number xs (λ place y at. apart (suc place) y at))

-- No two of these wires are one.
leavings-distinct : (cycle : ℕ) (parts : List Part) → AreDisjoint outputs_of parts
    → IsDistinct eqb (leavings cycle parts)
unfolding IsDistinct
leavings-distinct cycle [] disjoint = tt
leavings-distinct cycle (part ∷ parts) disjoint =
    let rest = leavings-distinct cycle parts (AreDisjoint-tail outputs_of part parts disjoint) in
    elim (cases_Bool (sends_own cycle part)) [
      | inl sends ↦ rw sends (
        apart-all (leaving_of part) (leavings cycle parts) (λ place wire at.
            let other = leaves-at cycle parts place wire at in
            ne_eqb (leaving_of part) wire (λ same.
            let one = disjoint 0 (suc other.number) wire part other.part refl other.at
            (ap (outputs_of part) (sym same) ∙ leaving-output cycle part sends)
            (ap (outputs_of other.part) other.is
            ∙ leaving-output cycle other.part other.sends) in
            omega (arith, one))),
        rest,
      )
      | inr mute ↦ rw mute rest
    ]

-- How many of what is shown pass a test.
count_by-map : {X Y : Type 0} (test : Y → Bool) (f : X → Y) (xs : List X)
    → count_by test (map f xs) ≡ count_by (λ x. test (f x)) xs
count_by-map test f [] = refl
count_by-map test f (x ∷ xs) =
    sum_by-cons (λ y. cond (test y) 1 0) (f x) (map f xs)
    ∙ ap (λ n. cond (test (f x)) 1 0 + n) (count_by-map test f xs)
    ∙ sym (sum_by-cons (λ x. cond (test (f x)) 1 0) x xs)

module _ (cycle count : ℕ) (parts : List Part) (wired : IsWired (map wiring_of parts) count) where
  leavings-chosen : AreChosen count (leavings cycle parts)
  leavings-chosen = record {
    distinct = leavings-distinct cycle parts (AreDisjoint-parts parts count wired);
    below = λ place default within.
        let wire = get_or (leavings cycle parts) place default in
        let own = leaves-at cycle parts place wire
        (slice_get-get_or (leavings cycle parts) place default within) in
        AreLinks-outputs parts count wired own.number own.part
        (slice_get_within parts own.number own.part own.at) wire
        (ap (λ (part : Part). outputs_of part wire)
        (get_or_from_slice_get parts own.number own.part own.part own.at)
        ∙ ap (outputs_of own.part) own.is ∙ leaving-output cycle own.part own.sends);
  }

  -- Behind the drive each of them has a flit.
  leaving-driven : (place wire : ℕ) → slice_get (leavings cycle parts) place ≡ Some wire
      → is_some (driven outputs_of emit_of parts cycle wire) ≡ true
  leaving-driven place wire at =
      let own = leaves-at cycle parts place wire at in
      ap is_some (driven-at outputs_of emit_of parts own.number cycle wire own.part
      (AreDisjoint-parts parts count wired) own.at
      (ap (outputs_of own.part) own.is ∙ leaving-output cycle own.part own.sends))
      ∙ ap (λ n. is_some (emit_of own.part cycle n)) own.is
      ∙ leaving-emits cycle own.part own.sends

  pub sending-few : count_by (sends_own cycle) parts ≤ flits_on (wires_driven parts count cycle)
  sending-few =
      let test = λ (wire : ℕ). is_some (driven outputs_of emit_of parts cycle wire) in
      let few = chosen-few test (leavings cycle parts) count leavings-chosen leaving-driven in
      let size = length-map (filter (sends_own cycle) parts) leaving_of in
      let kept = length-filter (sends_own cycle) parts in
      let flits = count_by-map is_some (driven outputs_of emit_of parts cycle)
      (range_with_len 0 count) in
      omega (arith, few, size, kept, flits)
