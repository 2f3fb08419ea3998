-- What is added to cells, and what is put at the end of one.
use Rattle.std.proofs.Common.{◌≡◌, ◌∙◌, ◌<◌, ◌⊎◌, ◌↔◌, ◌++◌, ◌==◌, ℕ, Bool, cond, List, [], ◌∷◌}
use Rattle.std.proofs.Common.{length, Contains, get_or, sym, ap, subst, inl, inr, eq-eqb, eqb-true}
use Rattle.std.proofs.Common.{append-nil, slice_set}
use Rattle.std.proofs.lemmas.{Bool.cases_Bool, Bool.false≢true, List.Elements.Contains-append_cases}
use Rattle.std.proofs.lemmas.{List.Elements.Contains-append_left}
use Rattle.std.proofs.lemmas.{List.Elements.Contains-append_right, Option.slice_get-get_or}
use Rattle.std.specs.declared.{alloc.Global.Global, vec.Vec.Vec}
use Rattle.aeth_base.proofs.Lists.{slice_get-slice_set_other, slice_get-slice_set_same}
use Rattle.aeth_base.proofs.Members.{Contains-cases, Contains-here, Contains-nil}
use Rattle.aeth_audit.specs.Places.{Adds, cell_at, cell_in}
use Rattle.aeth_audit.specs.declared.places.Place.{Place}

abbrev pub Cells : Type 0
Cells = List (Vec Place Global)

abbrev pub Puts : Type 1
Puts = ℕ → Place → Type 0

-- Nothing is added, where there is nothing to add.
pub adds-none : (R : Puts) (cells : Cells) → ((n : ℕ) (x : Place) → R n x → ⊥) → Adds R cells cells
adds-none R cells never n x = (
  λ has. inl has,
  elim [
    | inl has ↦ has
    | inr put ↦ absurd (never n x put)
  ],
)

-- The same is added, in other words.
pub adds-same : (P R : Puts) (old new : Cells) → Adds P old new
    → ((n : ℕ) (x : Place) → P n x ↔ R n x) → Adds R old new
adds-same P R old new adds same n x = (
  λ has. elim ((adds n x).0 has) [
    | inl before ↦ inl before
    | inr put ↦ inr ((same n x).0 put)
  ],
  elim [
    | inl before ↦ (adds n x).1 (inl before)
    | inr put ↦ (adds n x).1 (inr ((same n x).1 put))
  ],
)

-- What is added in two steps.
pub adds-both : (P Q : Puts) (old mid new : Cells) → Adds P old mid → Adds Q mid new
    → Adds (λ n x. P n x ⊎ Q n x) old new
adds-both P Q old mid new first second n x = (
  λ has. elim ((second n x).0 has) [
    | inl middle ↦ elim ((first n x).0 middle) [
      | inl before ↦ inl before
      | inr put ↦ inr (inl put)
    ]
    | inr put ↦ inr (inr put)
  ],
  elim [
    | inl before ↦ (second n x).1 (inl ((first n x).1 (inl before)))
    | inr either ↦ elim either [
      | inl put ↦ (second n x).1 (inl ((first n x).1 (inr put)))
      | inr put ↦ (second n x).1 (inr put)
    ]
  ],
)

-- What is put at the end of a cell is there, and other cells stay.
pub pushed-cell : (cells : Cells) (cell : ℕ) (d pushed : Vec Place Global) (place : Place)
    → cell < length cells → pushed.items ≡ (get_or cells cell d).items ++ place ∷ [] → (n : ℕ)
    → cell_at (slice_set cells cell pushed) n
    ≡ cell_at cells n ++ cond (n == cell) (place ∷ []) []
pushed-cell cells cell d pushed place within items n =
    elim (cases_Bool (n == cell)) [
      | inl here ↦
          let same = eqb-true n cell here in
          let old : (get_or cells cell d).items ≡ cell_at cells n =
          ap cell_in (sym (slice_get-get_or cells cell d within)) ∙ ap (cell_at cells) (sym same) in
          ap (cell_at (slice_set cells cell pushed)) same
          ∙ ap cell_in (slice_get-slice_set_same cells cell pushed within) ∙ items
          ∙ ap (λ (xs : List Place). xs ++ place ∷ []) old
          ∙ ap (λ (b : Bool). cell_at cells n ++ cond b (place ∷ []) []) (sym here)
      | inr other ↦
          ap cell_in (slice_get-slice_set_other cells cell n pushed
          (λ same. false≢true (sym other ∙ eq-eqb n cell same)))
          ∙ sym (append-nil (cell_at cells n))
          ∙ ap (λ (b : Bool). cell_at cells n ++ cond b (place ∷ []) []) (sym other)
    ]

-- A place that is put at the end of a cell is added to it.
abbrev pub IsAt : ℕ → Place → Puts
IsAt cell place n x = (n ≡ cell) × (x ≡ place)

pub pushed-adds : (cell : ℕ) (place : Place) (old new : Cells)
    → ((n : ℕ) → cell_at new n ≡ cell_at old n ++ cond (n == cell) (place ∷ []) [])
    → Adds (IsAt cell place) old new
pushed-adds cell place old new pushed n x =
    elim (cases_Bool (n == cell)) [
      | inl here ↦
          let now : cell_at new n ≡ cell_at old n ++ place ∷ [] =
          pushed n ∙ ap (λ (b : Bool). cell_at old n ++ cond b (place ∷ []) []) here in (
            λ has. elim (Contains-append_cases (cell_at old n) (place ∷ []) x
                (subst (λ (xs : List Place). Contains xs x) now has)) [
                  | inl before ↦ inl before
                  | inr end ↦ elim (Contains-cases place [] x end) [
                    | inl same ↦ inr (eqb-true n cell here, sym same)
                    | inr none ↦ Contains-nil none
                  ]
                ],
            elim [
              | inl before ↦ subst (λ (xs : List Place). Contains xs x) (sym now)
                  (Contains-append_left (cell_at old n) (place ∷ []) x before)
              | inr put ↦ subst (λ (xs : List Place). Contains xs x) (sym now)
                  (Contains-append_right (cell_at old n) (place ∷ []) x
                  (subst (Contains (place ∷ [])) (sym put.1) (Contains-here place [])))
            ],
          )
      | inr other ↦
          let now : cell_at new n ≡ cell_at old n ++ [] =
          pushed n ∙ ap (λ (b : Bool). cell_at old n ++ cond b (place ∷ []) []) other in (
            λ has. elim (Contains-append_cases (cell_at old n) [] x
                (subst (λ (xs : List Place). Contains xs x) now has)) [
                  | inl before ↦ inl before
                  | inr end ↦ Contains-nil end
                ],
            elim [
              | inl before ↦ subst (λ (xs : List Place). Contains xs x) (sym now)
                  (Contains-append_left (cell_at old n) [] x before)
              | inr put ↦ absurd (false≢true (sym other ∙ eq-eqb n cell put.0))
            ],
          )
    ]
