-- What comes of a unit's try: it is refused, and nothing is changed, or both its channels are granted.
use Rattle.std.proofs.Common.{◌≡◌, ◌≢◌, ◌∙◌, ◌⊎◌, ◌++◌, List, [], ◌∷◌, Contains, Option, Some, None}
use Rattle.std.proofs.Common.{refl, sym, ap, subst, inl, inr}
use Rattle.std.proofs.lemmas.{List.Elements.Contains-append_left, List.Elements.Contains-push}
use Rattle.std.proofs.lemmas.{List.Elements.Contains-push_cases, Option.none-some}
use Rattle.aeth_base.specs.declared.ids.Side.{Side, TheVariants.Back, TheVariants.Fwd}
use Rattle.aeth_base.specs.declared.ids.Unit.{Unit as GroupUnit}
use Rattle.aeth_chip.specs.Chip.{IsChip}
use Rattle.aeth_app.specs.App.{IsApp}
use Rattle.aeth_group.specs.{Members.GroupsData, Members.units_of, declared.grant.Grant.Grant}
use Rattle.aeth_alloc.specs.Channels.{Design, Reserved, grant_of, tried}
use Rattle.aeth_alloc.specs.Turns.{UnitTry, after_back, after_fwd, unit_tried}
use Rattle.aeth_alloc.proofs.SoundLemmas.{IsSound, sound-found}
use Rattle.aeth_alloc.proofs.TriedLemmas.{IsTried, tried-some}

-- A grant is for a side of a unit.
pub record IsFor (grants : List Grant) (unit : GroupUnit) (side : Side) : Type 0 where
  pub grant : Grant
  pub listed : Contains grants grant
  pub unit_is : grant.unit ≡ unit
  pub side_is : grant.side ≡ side

-- What comes of a unit's try: all that is reserved stays sound; the unit is refused, and nothing is
-- changed, or its two channels are granted.
pub record IsUnitTry (design : Design) (groups : GroupsData) (before : Reserved) (unit : GroupUnit)
    (unit_try : UnitTry) : Type 0 where
  pub sound : IsSound design groups unit_try.reserved
  pub old : (grant : Grant) → Contains before.book.grants grant
      → Contains unit_try.reserved.book.grants grant
  pub new : (grant : Grant) → Contains unit_try.reserved.book.grants grant
      → Contains before.book.grants grant ⊎ (grant.unit ≡ unit)
  pub granted : unit_try.refused ≡ None
      → (side : Side) → IsFor unit_try.reserved.book.grants unit side
  pub kept : (side : Side) → unit_try.refused ≡ Some side → (grant : Grant)
      → Contains unit_try.reserved.book.grants grant → Contains before.book.grants grant

-- A grant for a side of a unit was put behind others.
record IsGrown (old new : List Grant) (unit : GroupUnit) (side : Side) : Type 0 where
  grant : Grant
  unit_is : grant.unit ≡ unit
  side_is : grant.side ≡ side
  is : new ≡ old ++ grant ∷ []

module _ {unit : GroupUnit} {side : Side} (old new : List Grant) (grown : IsGrown old new unit side)
  where
    grown-old : (grant : Grant) → Contains old grant → Contains new grant
    grown-old grant has = subst (λ gs. Contains gs grant) (sym grown.is)
        (Contains-append_left old (grown.grant ∷ []) grant has)

    grown-new : (grant : Grant) → Contains new grant
        → Contains old grant ⊎ ((grant.unit ≡ unit) × (grant.side ≡ side))
    grown-new grant has =
        elim (Contains-push_cases old grown.grant grant
        (subst (λ gs. Contains gs grant) grown.is has)) [
          | inl before ↦ inl before
          | inr same ↦ inr (
            ap (λ (g : Grant). g.unit) (sym same) ∙ grown.unit_is,
            ap (λ (g : Grant). g.side) (sym same) ∙ grown.side_is,
          )
        ]

    grown-for : IsFor new unit side
    grown-for = record {
      grant = grown.grant;
      listed = subst (λ gs. Contains gs grown.grant) (sym grown.is) (Contains-push old grown.grant);
      unit_is = grown.unit_is;
      side_is = grown.side_is;
    }

tried-grows : (design : Design) (reserved new : Reserved) (unit : GroupUnit) (side : Side)
    → IsTried design reserved unit side new
    → IsGrown reserved.book.grants new.book.grants unit side
tried-grows design reserved new unit side is = record {
  grant = grant_of unit side is.found;
  unit_is = refl;
  side_is = refl;
  is = sym (ap (λ (r : Reserved). r.book.grants) is.new_is);
}

fwd≢back : Fwd ≢ Back
fwd≢back is = cc is

module _ (design : Design) (groups : GroupsData) (chip : IsChip design.chip)
    (app : IsApp design.app) (before : Reserved) (sound : IsSound design groups before)
    (unit : GroupUnit) (among : Contains (units_of groups) unit)
    (none : (grant : Grant) → Contains before.book.grants grant → grant.unit ≡ unit → ⊥) where
  -- A channel of the unit was granted, which had no grant.
  sound-tried : (reserved new : Reserved) (side : Side) → IsSound design groups reserved
      → IsTried design reserved unit side new
      → ((grant : Grant) → Contains reserved.book.grants grant → grant.unit ≡ unit
      → grant.side ≢ side)
      → IsSound design groups new
  sound-tried reserved new side was is free =
      subst (IsSound design groups) is.new_is
      (sound-found design groups app reserved was is.connection unit side is.found is.is
      is.candidate among free)

  -- Nothing was changed.
  unchanged : (side : Side)
      → IsUnitTry design groups before unit (record { reserved = before; refused = Some side })
  unchanged side = record {
    sound = sound;
    old = λ grant has. has;
    new = λ grant has. inl has;
    granted = λ never. absurd (none-some side (sym never));
    kept = λ side is grant has. has;
  }

  -- The `fwd` channel was granted.
  fwd-tried : (one : Reserved) → tried design before unit Fwd ≡ Some one
      → IsTried design before unit Fwd one
  fwd-tried one granted =
      tried-some design before chip sound.book sound.of.links unit Fwd one granted

  -- What is reserved then is sound.
  pub sound-one : (one : Reserved) → tried design before unit Fwd ≡ Some one
      → IsSound design groups one
  sound-one one granted =
      sound-tried before one Fwd sound (fwd-tried one granted)
      (λ grant has same side. none grant has same)

  -- After the `back` channel was tried.
  try-back : (one : Reserved) → tried design before unit Fwd ≡ Some one
      → (back : Option Reserved) → tried design one unit Back ≡ back
      → IsUnitTry design groups before unit (after_back before back)
  try-back one granted None at = unchanged Back
  try-back one granted (Some both) at =
      let first = tried-grows design before one unit Fwd (fwd-tried one granted) in
      let old = before.book.grants in
      let mid = one.book.grants in
      let between = sound-one one granted in
      let its = tried-some design one chip between.book between.of.links unit Back both at in
      let second = tried-grows design one both unit Back its in
      let new = both.book.grants in
      let fwd = grown-for old mid first in
      let each : (side : Side) → IsFor new unit side =
      elim [
        | Fwd ↦ record {
          grant = fwd.grant;
          listed = grown-old mid new second fwd.grant fwd.listed;
          unit_is = fwd.unit_is;
          side_is = fwd.side_is;
        }
        | Back ↦ grown-for mid new second
      ] in
      record {
        sound = sound-tried one both Back between its (λ grant has same.
            elim (grown-new old mid first grant has) [
              | inl before ↦ absurd (none grant before same)
              | inr (unit, fwd) ↦ λ back. fwd≢back (sym fwd ∙ back)
            ]);
        old = λ grant has. grown-old mid new second grant (grown-old old mid first grant has);
        new = λ grant has. elim (grown-new mid new second grant has) [
          | inl earlier ↦ elim (grown-new old mid first grant earlier) [
            | inl earliest ↦ inl earliest
            | inr (same, side) ↦ inr same
          ]
          | inr (same, side) ↦ inr same
        ];
        granted = λ granted. each;
        kept = λ side never. absurd (none-some side never);
      }

  -- After the `fwd` channel was tried.
  try-fwd : (fwd : Option Reserved) → tried design before unit Fwd ≡ fwd
      → IsUnitTry design groups before unit (after_fwd design before unit fwd)
  try-fwd None at = unchanged Fwd
  try-fwd (Some one) at =
      try-back one at (tried design one unit Back) refl

  -- What comes of the unit.
  pub try-of-unit : IsUnitTry design groups before unit (unit_tried design before unit)
  try-of-unit = try-fwd (tried design before unit Fwd) refl
