-- What is in the cell of a link and a slot is what the link may be reserved for in a cycle of the
-- slot.
use Rattle.std.proofs.Common.{◌≡◌, ◌∙◌, ◌+◌, ◌-◌, ◌*◌, ◌%◌, ℕ, List, length, Contains, Some}
use Rattle.std.proofs.Common.{slice_get, refl, sym, ap, subst, arith}
use Rattle.std.proofs.Math.Nat.{mod-add-mod, mod-eq_of_lt, mod-lt}
use Rattle.std.proofs.lemmas.{List.Elements.All-contains, Nat.same_from_place, Option.same_Some}
use Rattle.std.proofs.lemmas.{Option.slice_get_within}
use Rattle.aeth_base.proofs.Division.{mod-before}
use Rattle.aeth_base.proofs.Members.{Contains-slice_get, slice_get-Contains}
use Rattle.aeth_group.specs.declared.grant.Grant.{Grant}
use Rattle.aeth_server.proofs.SlotCycleLemmas.{is_slot-member, member-is_slot}
use Rattle.aeth_slots.proofs.{Ascending.Ascends-bounds, SlotSetLemmas.Contains-rotated}
use Rattle.aeth_audit.specs.Judging.{IsFound, IsJudge, IsOpenAt}
use Rattle.aeth_audit.specs.Places.{IsOfGrants, IsPlaced, cell_at}
use Rattle.aeth_audit.specs.declared.{judge.Judge.Judge, places.Place.Place}
use Rattle.aeth_audit.proofs.PlaceLemmas.{rotated-below}

-- The cell of a link and of the slot of a cycle.
abbrev pub cell : Judge → ℕ → ℕ → ℕ
cell judge l t = l * judge.chip.now.slots + t % judge.chip.now.slots

module _ (judge : Judge) (is : IsJudge judge) (l t : ℕ) (place : Place) where
  abbrev size : ℕ
  size = judge.chip.now.slots

  abbrev grants : List Grant
  grants = judge.plan.now.grants

  -- A place of the cell that is open in the cycle is one at which the link is reserved.
  pub found-is : (of : IsOfGrants judge.chip.now grants (length grants)
      (cell judge l t) place)
      → IsOpenAt judge t place of.grant → IsFound judge l t place
  found-is of opened =
      let grant = of.grant in
      let own = of.of in
      let has = Contains-slice_get grants place.grant grant of.is_grant in
      let placed = All-contains (IsPlaced judge.chip.now) grants grant is.placed has in
      let sizes = placed.size in
      let some = is.some in
      let slot_below = rotated-below place.ahead grant.slots own.slot (omega arith) own.has in
      let below = mod-lt t {m = size} (omega arith) in
      let (links, slots) = same_from_place own.link.0 own.slot l (t % size) size (omega arith) below
      (sym own.cell) in
      let (start, inside, at) = (Contains-rotated place.ahead grant.slots own.slot).0 own.has in
      let bounds = Ascends-bounds 0 size grant.slots.slots placed.starts start inside in
      let reached = opened.reached in
      let injected = t - place.ahead in
      let back : injected + place.ahead ≡ t = omega arith in
      let enters : (start + place.ahead) % size ≡ (injected + place.ahead) % size =
      ap (λ n. (start + place.ahead) % n) (sym sizes) ∙ sym at ∙ slots
      ∙ ap (λ n. n % size) (sym back) in
      let same : start ≡ injected % size =
      sym (mod-eq_of_lt bounds.1) ∙ mod-before start injected place.ahead size some enters in
      record {
        grant = grant;
        is_grant = of.is_grant;
        at = own.at ∙ ap (λ (n : ℕ). Some (record { 0 = n })) links;
        ahead = own.ahead;
        opened = opened;
        slot = is_slot-member size grant.slots.slots injected
            (subst (Contains grant.slots.slots) same inside);
      }

  -- And the other way round.
  pub is-found : (found : IsFound judge l t place)
      → IsOfGrants judge.chip.now grants (length grants)
      (cell judge l t) place
  is-found found =
      let grant = found.grant in
      let has = Contains-slice_get grants place.grant grant found.is_grant in
      let placed = All-contains (IsPlaced judge.chip.now) grants grant is.placed has in
      let sizes = placed.size in
      let reached = found.opened.reached in
      let injected = t - place.ahead in
      let back : injected + place.ahead ≡ t = omega arith in
      let inside = member-is_slot size grant.slots.slots injected found.slot in
      let enters : t % size ≡ (injected % size + place.ahead) % grant.slots.size =
      ap (λ n. n % size) (sym back) ∙ sym (mod-add-mod injected size place.ahead)
      ∙ ap (λ n. (injected % size + place.ahead) % n) (sym sizes) in
      record {
        grant = grant;
        below = slice_get_within grants place.grant grant found.is_grant;
        is_grant = found.is_grant;
        of = record {
          link = record { 0 = l };
          slot = t % size;
          grant_is = refl;
          below = slice_get_within grant.path place.place (record { 0 = l }) found.at;
          at = found.at;
          ahead = found.ahead;
          has = (Contains-rotated place.ahead grant.slots (t % size)).1
              (injected % size, inside, enters);
          cell = refl;
        };
      }

module _ (judge : Judge) (is : IsJudge judge) (l t : ℕ) (listed : List Place)
    (cell_is : listed ≡ cell_at judge.table.now.places.cells.items
    (l * judge.table.now.places.slots + t % judge.table.now.places.slots)) where
  -- The places of the cell, by the size of the slot table.
  own-cell : listed ≡ cell_at judge.table.now.places.cells.items (cell judge l t)
  own-cell = cell_is ∙ ap
      (λ (size : ℕ). cell_at judge.table.now.places.cells.items (l * size + t % size)) is.slots

  -- A place of the cell is one of a grant.
  pub of-grants : (k : ℕ) (place : Place) → slice_get listed k ≡ Some place
      → IsOfGrants judge.chip.now judge.plan.now.grants (length judge.plan.now.grants)
      (cell judge l t) place
  of-grants k place at = (is.places (cell judge l t) place).0
      (subst (λ (xs : List Place). Contains xs place) own-cell
      (Contains-slice_get listed k place at))

  -- One that is open is found.
  pub found-at : (k : ℕ) (place : Place) (grant : Grant) → slice_get listed k ≡ Some place
      → slice_get judge.plan.now.grants place.grant ≡ Some grant → IsOpenAt judge t place grant
      → IsFound judge l t place
  found-at k place grant at is_grant opened =
      let of = of-grants k place at in
      let same : grant ≡ of.grant = same_Some grant of.grant (sym is_grant ∙ of.is_grant) in
      found-is judge is l t place of (subst (IsOpenAt judge t place) same opened)

  -- Where none is open, none is found.
  pub never-found : ((k : ℕ) (place : Place) (grant : Grant) → slice_get listed k ≡ Some place
      → slice_get judge.plan.now.grants place.grant ≡ Some grant → IsOpenAt judge t place grant
      → ⊥) → (place : Place) → IsFound judge l t place → ⊥
  never-found never place found =
      let has = subst (λ (xs : List Place). Contains xs place) (sym own-cell)
      ((is.places (cell judge l t) place).1 (is-found judge is l t place found)) in
      let (k, at) = slice_get-Contains listed place has in
      never k place found.grant at found.is_grant found.opened
