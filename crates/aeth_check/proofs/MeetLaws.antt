-- Laws of meetings: slots that a mask and turned starts have in common, and paths link by link.
use Rattle.std.proofs.Common.{◌≡◌, ◌∙◌, ◌<◌, ◌+◌, ◌*◌, ◌%◌, ◌||◌, ℕ, Bool, true, false, List, []}
use Rattle.std.proofs.Common.{◌∷◌, Contains, length, Some, slice_get, drop, refl, sym, ap, arith}
use Rattle.std.proofs.Common.{get_or, nat_lt, lt-ltb, ltb-true}
use Rattle.std.proofs.lemmas.{Nat.mod_below, Option.same_Some, Option.slice_get-get_or}
use Rattle.std.specs.List.{list_any}
use Rattle.aeth_base.specs.declared.ids.LinkId.{LinkId}
use Rattle.aeth_base.proofs.{Lists.drop-slice_get, Members.Contains-some}
use Rattle.aeth_chip.specs.{declared.node.Link.Link, Paths.offset}
use Rattle.aeth_chip.proofs.OffsetLemmas.{offset-more}
use Rattle.aeth_slots.specs.SlotSet.{Slots, common, rotated, slots_where}
use Rattle.aeth_slots.proofs.SlotSetLemmas.{Contains-common, Contains-rotated}
use Rattle.aeth_slots.proofs.TestLemmas.{Contains-where}
use Rattle.aeth_group.proofs.ListLemmas.{any_from_passes, passes_from_any, same_tests}
use Rattle.aeth_group.specs.Tables.{IsTable}
use Rattle.aeth_check.specs.Meetings.{meets}

some_item : (xs : List ℕ) → 0 < length xs → (x : ℕ) × Contains xs x
some_item [] some = absurd (omega arith)
some_item (x ∷ xs) some = (x, (0, omega arith, refl))

-- A mask and turned starts have a slot in common exactly where a start comes to a slot of the mask.
pub common_decides : (size : ℕ) (test : ℕ → Bool) (starts : Slots) (after : ℕ) → 0 < size
    → starts.size ≡ size
    → nat_lt 0 (length (common (slots_where size test) (rotated after starts)).slots)
    ≡ list_any (λ x. test ((x + after) % starts.size)) starts.slots
common_decides size test starts after some is =
    let mask = slots_where size test in
    let turned = rotated after starts in
    same_tests _ _
    (λ yes.
    let found = some_item (common mask turned).slots (ltb-true 0 _ yes) in
    let both = (Contains-common mask turned found.0).0 found.1 in
    let start = (Contains-rotated after starts found.0).0 both.1 in
    let passes = ((Contains-where size test found.0).0 both.0).1 in
    any_from_passes (λ x. test ((x + after) % starts.size)) starts.slots start.0 start.1
    (ap test (sym start.2) ∙ passes))
    (λ yes.
    let start = passes_from_any (λ x. test ((x + after) % starts.size)) starts.slots yes in
    let slot : ℕ = (start.item + after) % starts.size in
    let turned_below : slot < starts.size =
    mod_below (start.item + after) starts.size (omega arith) in
    let below : slot < size = omega arith in
    let in_mask = (Contains-where size test slot).1 (below, start.passes) in
    let in_turned = (Contains-rotated after starts slot).1 (start.item, start.is_in, refl) in
    lt-ltb 0 _ (Contains-some (common mask turned).slots slot
    ((Contains-common mask turned slot).1 (in_mask, in_turned))))

-- The mask of a use case and link has a slot in common with turned starts where a start comes to
-- one of its slots.
pub mask_meets : (size links u k : ℕ) (test : ℕ → ℕ → ℕ → Bool) (masks : List Slots)
    (mask turned starts : Slots) (after : ℕ) (answer : Bool) → 0 < size → starts.size ≡ size
    → IsTable size links test masks → k < links → u * links + k < length masks
    → mask ≡ get_or masks (u * links + k) mask → turned ≡ rotated after starts
    → answer ≡ nat_lt 0 (length (common mask turned).slots)
    → answer ≡ list_any (λ x. test u k ((x + after) % starts.size)) starts.slots
mask_meets size links u k test masks mask turned starts after answer some is table low within at
    turns answers =
    let was : mask ≡ slots_where size (test u k) =
    at ∙ same_Some _ _ (sym (slice_get-get_or masks (u * links + k) mask within)
    ∙ table u k low within) in
    answers
    ∙ ap (λ m. nat_lt 0 (length (common m turned).slots)) was
    ∙ ap (λ t. nat_lt 0 (length (common (slots_where size (test u k)) t).slots)) turns
    ∙ common_decides size (test u k) starts after some is

module _ (test : ℕ → ℕ → Bool) (starts : Slots) (links : List Link) (path : List LinkId) (i : ℕ)
    (k : LinkId) (at : slice_get path i ≡ Some k) where
  -- One link more.
  meets_step : meets test starts links (offset links path i) (drop i path)
      ≡ (list_any (λ x. test k.0 ((x + offset links path i) % starts.size)) starts.slots
      || meets test starts links (offset links path (i + 1)) (drop (i + 1) path))
  meets_step =
      ap (meets test starts links (offset links path i)) (drop-slice_get path i k at)
      ∙ ap (λ after. list_any (λ x. test k.0 ((x + offset links path i) % starts.size)) starts.slots
      || meets test starts links after (drop (i + 1) path)) (sym (offset-more links path i k at))

  -- Here flits meet.
  pub meets_here : (total : Bool)
      → meets test starts links (offset links path i) (drop i path) ≡ total
      → list_any (λ x. test k.0 ((x + offset links path i) % starts.size)) starts.slots ≡ true
      → true ≡ total
  meets_here total so_far here =
      ap (λ b. b || meets test starts links (offset links path (i + 1)) (drop (i + 1) path))
      (sym here) ∙ sym meets_step ∙ so_far

  -- Here they don't.
  pub meets_on : (total : Bool)
      → meets test starts links (offset links path i) (drop i path) ≡ total
      → list_any (λ x. test k.0 ((x + offset links path i) % starts.size)) starts.slots ≡ false
      → meets test starts links (offset links path (i + 1)) (drop (i + 1) path) ≡ total
  meets_on total so_far here =
      ap (λ b. b || meets test starts links (offset links path (i + 1)) (drop (i + 1) path))
      (sym here) ∙ sym meets_step ∙ so_far
