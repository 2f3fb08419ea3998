-- The slots that flits of a grant take on a link of its path, in the set of that link.
use Rattle.std.proofs.Common.{◌≡◌, ◌<◌, ◌+◌, ◌∙◌, ℕ, List, Some, length, set, slice_get, sym, ap}
use Rattle.std.proofs.Common.{inl, inr, arith}
use Rattle.std.proofs.lemmas.{Bool.cases_eq, Option.same_Some, Option.slice_get_within}
use Rattle.aeth_base.proofs.Lists.{slice_get-slice_set_other, slice_get-slice_set_same}
use Rattle.aeth_chip.specs.{Paths.offset, declared.node.Link.Link}
use Rattle.aeth_group.specs.declared.grant.Grant.{Grant}
use Rattle.aeth_slots.specs.SlotSet.{Slots, rotated}
use Rattle.aeth_check.specs.Masks.{AreTaken}

-- The links before one have their sets.
abbrev pub AreTakenTo : List Link → Grant → List Slots → ℕ → Type 0
AreTakenTo links grant sets n = (i : ℕ) → i < n
    → slice_get sets i ≡ Some (rotated (offset links grant.path i) grant.slots)

-- One more link has its set.
pub taken-more : (links : List Link) (grant : Grant) (sets : List Slots) (i : ℕ) (one : Slots)
    → i < length sets → one ≡ rotated (offset links grant.path i) grant.slots
    → AreTakenTo links grant sets i → AreTakenTo links grant (set sets i one) (i + 1)
taken-more links grant sets i one within is before = λ j low. elim (cases_eq j i) [
  | inl same ↦
      ap (slice_get (set sets i one)) same ∙ slice_get-slice_set_same sets i one within
      ∙ ap Some (is ∙ ap (λ k. rotated (offset links grant.path k) grant.slots) (sym same))
  | inr other ↦ slice_get-slice_set_other sets i j one other ∙ before j (omega (arith, low, other))
]

module _ (links : List Link) (grant : Grant) (sets : List Slots) (are : AreTaken links grant sets)
  where
    -- Each link of the path has a set.
    pub taken-within : (i : ℕ) → i < length grant.path → i < length sets
    taken-within i low = slice_get_within sets i _ (are i low)

    -- It is the grant's, turned by the delays of the links before.
    pub taken-set : (i : ℕ) (set : Slots) → i < length grant.path → slice_get sets i ≡ Some set
        → set ≡ rotated (offset links grant.path i) grant.slots
    taken-set i set low at = same_Some set _ (sym at ∙ are i low)
