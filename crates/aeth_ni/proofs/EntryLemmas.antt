-- A write does to an interface what it does to the list of entries, and to no other interface.
use Rattle.std.proofs.Common.{◌≡◌, ◌≢◌, ◌<◌, ◌↔◌, ◌&&◌, ◌∙◌, ℕ, false, eqb, refl, sym, ap, subst}
use Rattle.std.proofs.Common.{inl, inr, arith, List, ◌∷◌, Contains, length, Some, None, slice_get}
use Rattle.std.proofs.Common.{eq-eqb, ne_eqb}
use Rattle.std.proofs.lemmas.{Bool.cases_eq, Bool.Decides.nat_tests, Option.same_Some}
use Rattle.std.specs.List.{slice_set}
use Rattle.aeth_base.proofs.Lists.{slice_get-slice_set_same, slice_get-slice_set_other}
use Rattle.aeth_base.proofs.Members.{Contains-there, Contains-cases, Contains-filter}
use Rattle.aeth_base.proofs.Members.{filter-Contains}
use Rattle.aeth_base.specs.declared.ids.NiId.{NiId}
use Rattle.aeth_ni.specs.declared.write.Write.{Write}
use Rattle.aeth_ni.specs.declared.write.Write.TheVariants.{ClearSlot, ClearRoute, SetRoute, SetSlot}
use Rattle.aeth_ni.specs.Interface.{InterfaceState}
use Rattle.aeth_ni.specs.Program.{Entry, entries_behind, without_entry}
use Rattle.aeth_ni.specs.Writes.{addressee, IsWritable, written, written_at}
use Rattle.aeth_ni.specs.Entries.{Holds}

-- An entry of another slot stays.
without_entry-other : (ni : NiId) (slot : ℕ) (entries : List Entry) (entry : Entry)
    → (eqb entry.ni.0 ni.0 && eqb entry.slot slot) ≡ false
    → Contains (without_entry ni slot entries) entry ↔ Contains entries entry
without_entry-other ni slot entries entry other = (
  (λ has. (filter-Contains _ entries entry has).0),
  (λ has. Contains-filter _ entries entry has (rw other refl)),
)

-- The slot's own is gone.
pub without_entry-same : (ni : NiId) (slot : ℕ) (entries : List Entry) (entry : Entry)
    → entry.ni.0 ≡ ni.0 → entry.slot ≡ slot → Contains (without_entry ni slot entries) entry → ⊥
without_entry-same ni slot entries entry same at has =
    let kept = (filter-Contains _ entries entry has).1 in grind (arith, nat_tests)

module _ (interface : InterfaceState) (entries : List Entry) (slot : ℕ)
    (within : slot < length interface.entries) (holds : Holds interface entries) where
  -- A slot of the interface is cleared.
  Holds-cleared : Holds (record interface { entries = slice_set interface.entries slot None })
      (without_entry interface.number slot entries)
  Holds-cleared s queue = elim (cases_eq s slot) [
    | inl same ↦ (
      (λ at. absurd (let now = slice_get-slice_set_same interface.entries slot None within in
          let there : slice_get (slice_set interface.entries slot None) slot ≡ Some (Some queue) =
          rw same at at in cc)),
      (λ has. absurd (without_entry-same interface.number slot entries _ refl same has)),
    )
    | inr other ↦
        let stays = slice_get-slice_set_other interface.entries slot s None other in
        let kept = without_entry-other interface.number slot entries
        (record { ni = interface.number; slot = s; queue = queue })
        (grind (arith, nat_tests)) in
        rw stays ((λ at. kept.1 ((holds s queue).0 at)), (λ has. (holds s queue).1 (kept.0 has)))
  ]

  -- A slot of the interface names a queue.
  Holds-named : (named : ℕ)
      → Holds (record interface { entries = slice_set interface.entries slot (Some named) })
      (record { ni = interface.number; slot = slot; queue = named }
      ∷ without_entry interface.number slot entries)
  Holds-named named s queue = elim (cases_eq s slot) [
    | inl same ↦
        let now = slice_get-slice_set_same interface.entries slot (Some named) within in
        rw same (
          (λ at. let is : named ≡ queue =
              same_Some named queue (same_Some (Some named) (Some queue) (sym now ∙ at)) in (
                0,
                omega arith,
                ap (λ (k : ℕ). record { ni = interface.number; slot = slot; queue = k }) is,
              )),
          (λ has. elim (Contains-cases _ _ _ has) [
            | inl is ↦ now ∙ ap (λ (entry : Entry). Some (Some entry.queue)) is
            | inr later ↦
                absurd (without_entry-same interface.number slot entries _ refl refl later)
          ]),
        )
    | inr other ↦
        let stays = slice_get-slice_set_other interface.entries slot s (Some named) other in
        let kept = without_entry-other interface.number slot entries
        (record { ni = interface.number; slot = s; queue = queue })
        (grind (arith, nat_tests)) in
        rw stays (
          (λ at. Contains-there _ _ _ (kept.1 ((holds s queue).0 at))),
          (λ has. elim (Contains-cases _ _ _ has) [
            | inl is ↦ absurd (other (sym (ap (λ (entry : Entry). entry.slot) is)))
            | inr later ↦ (holds s queue).1 (kept.0 later)
          ]),
        )
  ]

-- A write to the interface.
pub Holds-written : (write : Write) (interface : InterfaceState) (entries : List Entry)
    → addressee write ≡ interface.number → IsWritable write interface → Holds interface entries
    → Holds (written write interface) (entries_behind entries write)
Holds-written (ClearSlot ni slot) interface entries to within holds =
    subst (λ (n : NiId).
    Holds (written (ClearSlot ni slot) interface) (without_entry n slot entries))
    (sym to) (Holds-cleared interface entries slot within holds)
Holds-written (ClearRoute ni queue) interface entries to within holds = holds
Holds-written (SetRoute ni queue route remote credits) interface entries to within holds = holds
Holds-written (SetSlot ni slot queue) interface entries to within holds =
    subst (λ (n : NiId). Holds (written (SetSlot ni slot queue) interface)
    (record { ni = n; slot = slot; queue = queue } ∷ without_entry n slot entries)) (sym to)
    (Holds-named interface entries slot within.0 holds queue)

-- The entries of an interface that a slot of another leaves.
Holds-elsewhere : (interface : InterfaceState) (entries : List Entry) (ni : NiId) (slot : ℕ)
    → ni.0 ≢ interface.number.0 → Holds interface entries
    → Holds interface (without_entry ni slot entries)
Holds-elsewhere interface entries ni slot other holds s queue =
    let kept = without_entry-other ni slot entries
    (record { ni = interface.number; slot = s; queue = queue }) (grind (arith, nat_tests)) in
    ((λ at. kept.1 ((holds s queue).0 at)), (λ has. (holds s queue).1 (kept.0 has)))

-- A write to another interface.
pub Holds-other : (write : Write) (interface : InterfaceState) (entries : List Entry)
    → (addressee write).0 ≢ interface.number.0 → Holds interface entries
    → Holds interface (entries_behind entries write)
Holds-other (ClearSlot ni slot) interface entries other holds =
    Holds-elsewhere interface entries ni slot other holds
Holds-other (ClearRoute ni queue) interface entries other holds = holds
Holds-other (SetRoute ni queue route remote credits) interface entries other holds = holds
Holds-other (SetSlot ni slot named) interface entries other holds = λ s queue.
    let rest = Holds-elsewhere interface entries ni slot other holds s queue in (
      (λ at. Contains-there _ _ _ (rest.0 at)),
      (λ has. elim (Contains-cases _ _ _ has) [
        | inl is ↦ absurd (other (ap (λ (entry : Entry). entry.ni.0) is))
        | inr later ↦ rest.1 later
      ]),
    )

-- A write to any.
pub Holds-written_at : (write : Write) (interface : InterfaceState) (entries : List Entry)
    → (addressee write ≡ interface.number → IsWritable write interface) → Holds interface entries
    → Holds (written_at write interface) (entries_behind entries write)
Holds-written_at write interface entries within holds =
    elim (cases_eq (addressee write).0 interface.number.0) [
      | inl same ↦
          let to : addressee write ≡ interface.number =
          ap (λ (n : ℕ). record { 0 = n }) same in
          rw (eq-eqb (addressee write).0 interface.number.0 same)
          (Holds-written write interface entries to (within to) holds)
      | inr other ↦
          rw (ne_eqb (addressee write).0 interface.number.0 other)
          (Holds-other write interface entries other holds)
    ]
