-- What is put into the cells of links and slots, place by place.
use Rattle.std.proofs.Common.{◌≡◌, ◌∙◌, ◌<◌, ◌≤◌, ◌⊎◌, ◌↔◌, ◌+◌, ◌*◌, ℕ, List, [], length, Contains}
use Rattle.std.proofs.Common.{Some, slice_get, refl, sym, ap, subst, inl, inr, arith}
use Rattle.std.proofs.Math.Nat.{mod-lt, mul-le-mul_right}
use Rattle.std.proofs.lemmas.{Bool.cases_lt, Option.same_Some}
use Rattle.aeth_base.{specs.declared.ids.LinkId.LinkId, proofs.Members.Contains-nil}
use Rattle.aeth_chip.specs.{Chip.ChipData, Paths.offset}
use Rattle.aeth_group.specs.declared.grant.Grant.{Grant}
use Rattle.aeth_slots.specs.SlotSet.{Slots, rotated}
use Rattle.aeth_slots.proofs.SlotSetLemmas.{Contains-rotated}
use Rattle.aeth_audit.specs.Places.{Adds, ArePlaces, IsInCell, IsOfGrant, IsOfGrants, cell_at}
use Rattle.aeth_audit.specs.declared.places.Place.{Place}
use Rattle.aeth_audit.proofs.CellLemmas.{Cells, IsAt}

module _ (first : ℕ) (slots : List ℕ) (this : Place) where
  -- No slot is below 0.
  pub in_cell-none : (n : ℕ) (x : Place) → IsInCell first slots 0 this n x → ⊥
  in_cell-none n x is = let below = is.below in absurd (omega arith)

  -- A slot that the list has is put in.
  pub in_cell-has : (k : ℕ) → Contains slots k → (n : ℕ) (x : Place)
      → (IsInCell first slots k this n x ⊎ IsAt (first + k) this n x)
      ↔ IsInCell first slots (k + 1) this n x
  in_cell-has k has n x = (
    elim [
      | inl is ↦
          let below = is.below in
          record {
            same = is.same;
            slot = is.slot;
            below = omega arith;
            has = is.has;
            cell = is.cell;
          }
      | inr put ↦ record {
        same = put.1;
        slot = k;
        below = omega arith;
        has = has;
        cell = put.0;
      }
    ],
    λ is. elim (cases_lt is.slot k) [
      | inl less ↦ inl (record {
        same = is.same;
        slot = is.slot;
        below = less;
        has = is.has;
        cell = is.cell;
      })
      | inr past ↦
          let below = is.below in
          let cell = is.cell in
          inr (omega arith, is.same)
    ],
  )

  -- Another is passed over.
  pub in_cell-other : (k : ℕ) → (Contains slots k → ⊥) → (n : ℕ) (x : Place)
      → IsInCell first slots k this n x ↔ IsInCell first slots (k + 1) this n x
  in_cell-other k other n x = (
    λ is.
        let below = is.below in
        record {
          same = is.same;
          slot = is.slot;
          below = omega arith;
          has = is.has;
          cell = is.cell;
        },
    λ is. elim (cases_lt is.slot k) [
      | inl less ↦ record {
        same = is.same;
        slot = is.slot;
        below = less;
        has = is.has;
        cell = is.cell;
      }
      | inr past ↦
          let below = is.below in
          let slot : is.slot ≡ k = omega arith in
          absurd (other (subst (Contains slots) slot is.has))
    ],
  )

-- A slot of a rotated set is below the size.
pub rotated-below : (by : ℕ) (set : Slots) (t : ℕ) → 1 ≤ set.size
    → Contains (rotated by set).slots t → t < set.size
rotated-below by set t some has =
    let (s, inside, at) = (Contains-rotated by set t).0 has in
    let below = mod-lt (s + by) {m = set.size} (omega arith) in
    omega arith

module _ (chip : ChipData) (number : ℕ) (grant : Grant) where
  pub of_grant-none : (n : ℕ) (x : Place) → IsOfGrant chip number grant 0 n x → ⊥
  of_grant-none n x is = let below = is.below in absurd (omega arith)

  -- One more place.
  pub of_grant-more : (i : ℕ) (link : LinkId) (this : Place) → 1 ≤ grant.slots.size
      → slice_get grant.path i ≡ Some link
      → this ≡ record { grant = number; place = i; ahead = offset chip.links grant.path i }
      → (n : ℕ) (x : Place) → (IsOfGrant chip number grant i n x
      ⊎ IsInCell (link.0 * chip.slots) (rotated this.ahead grant.slots).slots grant.slots.size this
      n x) ↔ IsOfGrant chip number grant (i + 1) n x
  of_grant-more i link this some at is_this n x = (
    elim [
      | inl is ↦
          let below = is.below in
          record {
            link = is.link;
            slot = is.slot;
            grant_is = is.grant_is;
            below = omega arith;
            at = is.at;
            ahead = is.ahead;
            has = is.has;
            cell = is.cell;
          }
      | inr put ↦
          let own : IsOfGrant chip number grant (i + 1) n this =
          subst (IsOfGrant chip number grant (i + 1) n) (sym is_this) (record {
            link = link;
            slot = put.slot;
            grant_is = refl;
            below = omega arith;
            at = at;
            ahead = refl;
            has = subst (λ (p : Place). Contains (rotated p.ahead grant.slots).slots put.slot)
                is_this put.has;
            cell = put.cell;
          }) in
          subst (IsOfGrant chip number grant (i + 1) n) (sym put.same) own
    ],
    λ is. elim (cases_lt x.place i) [
      | inl less ↦ inl (record {
        link = is.link;
        slot = is.slot;
        grant_is = is.grant_is;
        below = less;
        at = is.at;
        ahead = is.ahead;
        has = is.has;
        cell = is.cell;
      })
      | inr past ↦
          let below = is.below in
          let place : x.place ≡ i = omega arith in
          let links : is.link ≡ link = same_Some is.link link
          (sym is.at ∙ ap (slice_get grant.path) place ∙ at) in
          let ahead : x.ahead ≡ offset chip.links grant.path i =
          is.ahead ∙ ap (offset chip.links grant.path) place in
          let same : x ≡ this =
          (λ j. record { grant = is.grant_is j; place = place j; ahead = ahead j }) ∙ sym is_this in
          inr (record {
            same = same;
            slot = is.slot;
            below = rotated-below x.ahead grant.slots is.slot some is.has;
            has = subst (λ (p : Place). Contains (rotated p.ahead grant.slots).slots is.slot) same
                is.has;
            cell = is.cell ∙ ap (λ (k : LinkId). k.0 * chip.slots + is.slot) links;
          })
    ],
  )

module _ (chip : ChipData) (grants : List Grant) where
  -- One more grant.
  pub of_grants-more : (k : ℕ) (grant : Grant) → slice_get grants k ≡ Some grant → (n : ℕ)
      (x : Place) → (IsOfGrants chip grants k n x ⊎ IsOfGrant chip k grant (length grant.path) n x)
      ↔ IsOfGrants chip grants (k + 1) n x
  of_grants-more k grant at n x = (
    elim [
      | inl is ↦
          let below = is.below in
          record {
            grant = is.grant;
            below = omega arith;
            is_grant = is.is_grant;
            of = is.of;
          }
      | inr put ↦
          let number = put.grant_is in
          record {
            grant = grant;
            below = omega arith;
            is_grant = ap (slice_get grants) number ∙ at;
            of = subst (λ (m : ℕ). IsOfGrant chip m grant (length grant.path) n x) (sym number) put;
          }
    ],
    λ is. elim (cases_lt x.grant k) [
      | inl less ↦ inl (record {
        grant = is.grant;
        below = less;
        is_grant = is.is_grant;
        of = is.of;
      })
      | inr past ↦
          let below = is.below in
          let number : x.grant ≡ k = omega arith in
          let same : is.grant ≡ grant = same_Some is.grant grant
          (sym is.is_grant ∙ ap (slice_get grants) number ∙ at) in
          let own = subst (λ (g : Grant). IsOfGrant chip x.grant g (length g.path) n x) same
          is.of in
          inr (subst (λ (m : ℕ). IsOfGrant chip m grant (length grant.path) n x) number own)
    ],
  )

  -- What is added to empty cells is all that they have.
  pub are_places : (old new : Cells) → ((n : ℕ) → cell_at old n ≡ [])
      → Adds (IsOfGrants chip grants (length grants)) old new → ArePlaces chip grants new
  are_places old new empty adds n x = (
    λ has. elim ((adds n x).0 has) [
      | inl before ↦ Contains-nil (subst (λ (xs : List Place). Contains xs x) (empty n) before)
      | inr put ↦ put
    ],
    λ is. (adds n x).1 (inr is),
  )

-- The cells of a link lie within those of all.
pub cells-within : (l count size : ℕ) → l < count → l * size + size ≤ count * size
cells-within l count size below =
    let all : (l + 1) * size ≤ count * size = mul-le-mul_right size (omega arith) in
    omega arith
