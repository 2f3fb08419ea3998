-- Entries of hops: one hop more, and one list of hops after another.
use Rattle.std.proofs.Common.{◌≡◌, ◌<◌, ◌+◌, ◌*◌, ◌++◌, ◌∙◌, ℕ, Bool, true, false, cond, eqb, List}
use Rattle.std.proofs.Common.{[], ◌∷◌, Option, Some, None, length, slice_get, replicate}
use Rattle.std.proofs.Common.{append_assoc, refl, sym, ap, subst, inl, inr, arith, find, option_map}
use Rattle.std.proofs.Common.{eq-eqb, eqb-true, append-nil}
use Rattle.std.proofs.lemmas.Bool.{and_from, and_parts, cases_Bool, both_ways}
use Rattle.std.proofs.lemmas.List.{get_or-replicate, length-replicate, Folds.find-append}
use Rattle.std.proofs.lemmas.Nat.{same_from_place}
use Rattle.std.proofs.lemmas.Option.{none-some, same_Some, slice_get-get_or}
use Rattle.std.proofs.Math.ListN.{length-set}
use Rattle.std.specs.{Option.option_or, List.slice_set}
use Rattle.aeth_base.proofs.Lists.{slice_get-slice_set_other, slice_get-slice_set_same}
use Rattle.aeth_base.specs.declared.ids.LinkId.{LinkId}
use Rattle.aeth_rtable.specs.{Entries.Adds, Entries.HasEntries, Hops.entry_at, Hops.leads_onto}
use Rattle.aeth_rtable.specs.{declared.hops.Hop.Hop}

-- Where a hop comes from.
abbrev from_of : Option Hop → Option LinkId
from_of found = option_map (λ (hop : Hop). hop.from) found

or_none : (o : Option Hop) → option_or o None ≡ o
or_none None = refl
or_none (Some hop) = refl

-- The first that is found stays.
first_stays : (found more : Option Hop) (from : LinkId) → from_of found ≡ Some from
    → from_of (option_or found more) ≡ Some from
first_stays None more from is = absurd (none-some from is)
first_stays (Some hop) more from is = is

-- Where none is found, the next one is.
next_found : (found more : Option Hop) → from_of found ≡ None
    → from_of (option_or found more) ≡ from_of more
next_found None more none = refl
next_found (Some hop) more none = absurd (none-some hop.from (sym none))

module _ (slots : ℕ) (hops : List Hop) (hop : Hop) (entries : List (Option LinkId))
    (has : HasEntries slots hops entries) where
  -- The place of the hop.
  abbrev place : ℕ
  place = hop.to.0 * slots + hop.slot

  -- What is found once there is one hop more.
  entry-push : (link slot : ℕ) → entry_at (hops ++ hop ∷ []) link slot
      ≡ from_of (option_or (find (leads_onto link slot) hops)
      (cond (leads_onto link slot hop) (Some hop) None))
  entry-push link slot = ap from_of (find-append (leads_onto link slot) hops (hop ∷ []))

  -- The same as before where it doesn't lead there.
  entry-other : (link slot : ℕ) → leads_onto link slot hop ≡ false
      → entry_at (hops ++ hop ∷ []) link slot ≡ entry_at hops link slot
  entry-other link slot other = entry-push link slot
      ∙ ap (λ (b : Bool). from_of (option_or (find (leads_onto link slot) hops) (cond b (Some hop) None)))
      other
      ∙ ap from_of (or_none (find (leads_onto link slot) hops))

  -- A hop leads to its own place alone.
  own_place : (link slot : ℕ) → leads_onto link slot hop ≡ true → place ≡ link * slots + slot
  own_place link slot leads =
      let parts = and_parts (eqb hop.to.0 link) (eqb hop.slot slot) leads in
      ap (λ (n : ℕ). n * slots + hop.slot) (eqb-true hop.to.0 link parts.0)
      ∙ ap (λ (n : ℕ). link * slots + n) (eqb-true hop.slot slot parts.1)

  -- Where something is noted at its place, nothing changes.
  pub noted-before : (from : LinkId) → slice_get entries place ≡ Some (Some from)
      → HasEntries slots (hops ++ hop ∷ []) entries
  noted-before from before link slot below within =
      elim (cases_Bool (leads_onto link slot hop)) [
        | inl leads ↦
            let here : entry_at hops link slot ≡ Some from =
            same_Some _ _ (sym (has link slot below within)
            ∙ ap (slice_get entries) (sym (own_place link slot leads)) ∙ before) in
            has link slot below within
            ∙ ap (λ (o : Option LinkId). Some o) (here ∙ sym (entry-push link slot
            ∙ first_stays (find (leads_onto link slot) hops)
            (cond (leads_onto link slot hop) (Some hop) None) from here))
        | inr other ↦ has link slot below within
            ∙ ap (λ (o : Option LinkId). Some o) (sym (entry-other link slot other))
      ]

  -- Else it is noted there.
  pub noted-more : hop.slot < slots → place < length entries → slice_get entries place ≡ Some None
      → HasEntries slots (hops ++ hop ∷ []) (slice_set entries place (Some hop.from))
  noted-more fits room none link slot below within =
      let inside : link * slots + slot < length entries =
      omega (arith, length-set entries place (Some hop.from), within) in
      elim (cases_Bool (leads_onto link slot hop)) [
        | inl leads ↦
            let own = own_place link slot leads in
            let nothing : entry_at hops link slot ≡ None =
            same_Some _ _ (sym (has link slot below inside) ∙ ap (slice_get entries) (sym own) ∙ none)
            in
            ap (slice_get (slice_set entries place (Some hop.from))) (sym own)
            ∙ slice_get-slice_set_same entries place (Some hop.from) room
            ∙ ap (λ (o : Option LinkId). Some o) (sym (entry-push link slot
            ∙ next_found (find (leads_onto link slot) hops)
            (cond (leads_onto link slot hop) (Some hop) None) nothing
            ∙ ap (λ (b : Bool). from_of (cond b (Some hop) None)) leads))
        | inr other ↦
            slice_get-slice_set_other entries place (link * slots + slot) (Some hop.from)
            (λ same.
            let own = same_from_place hop.to.0 hop.slot link slot slots fits below (sym same) in
            both_ways (leads_onto link slot hop) other (and_from (eqb hop.to.0 link)
            (eqb hop.slot slot) (eq-eqb hop.to.0 link own.0) (eq-eqb hop.slot slot own.1)))
            ∙ has link slot below inside
            ∙ ap (λ (o : Option LinkId). Some o) (sym (entry-other link slot other))
      ]

-- No hop has no entry.
pub none_noted : (slots count : ℕ) → HasEntries slots [] (replicate count None)
none_noted slots count link slot below within =
    let none : Option LinkId = None in
    let inside : link * slots + slot < count = omega (arith, length-replicate count none, within) in
    slice_get-get_or (replicate count none) (link * slots + slot) none within
    ∙ ap (λ (o : Option LinkId). Some o)
    (get_or-replicate count (link * slots + slot) none none inside)

-- No hop changes nothing.
pub Adds-none : (slots : ℕ) (entries : List (Option LinkId)) → Adds slots [] entries entries
Adds-none slots entries hops has =
    subst (λ (hs : List Hop). HasEntries slots hs entries) (sym (append-nil hops)) has

-- Some hops, and then others.
pub Adds-then : (slots : ℕ) (first second : List Hop) (old mid new : List (Option LinkId))
    → Adds slots first old mid → Adds slots second mid new → Adds slots (first ++ second) old new
Adds-then slots first second old mid new one two hops has =
    subst (λ (hs : List Hop). HasEntries slots hs new) (append_assoc hops first second)
    (two (hops ++ first) (one hops has))
