-- Keys that are a table's fields in their order are none of them wrong.
use Rattle.std.proofs.Common.{◌≡◌, ◌∙◌, sym, ap, ℕ, true, false, ◌&&◌, List, [], ◌∷◌, map, Option}
use Rattle.std.proofs.Common.{Some, None, Less, Equal, Greater, Ordering, nat_cmp, refl, inl, inr}
use Rattle.std.proofs.Common.{is_none, ◌⊎◌}
use Rattle.std.proofs.lemmas.{Bool.and_parts, Bool.cases_Bool, Cmp.nat_list_cmp_total}
use Rattle.std.proofs.lemmas.{Cmp.tied_itself, Option.same_Some, Slice.Eq.bytes_eq-Decides}
use Rattle.std.specs.{List.Sorted.IsStrictlySortedBy, Ordering.is_lt, Ordering.match_ordering}
use Rattle.std.specs.{Str.bytes_eq, Cmp.Lexicographic.slice_cmp}
use Rattle.toml.specs.Data.{Data, Members, no_members, member, get_member}
use Rattle.aeth_document.specs.Keys.{Fields, entries_of, has_kind, is_expected, is_optional}
use Rattle.aeth_document.specs.Keys.{is_missing, least_wrong_key, misfit_keys, missing_keys}
use Rattle.aeth_document.specs.declared.keys.Kind.{Kind}
use Rattle.aeth_document.specs.KeysInOrder.{are_optional, are_some, fields_behind, fits_in_order}
use Rattle.aeth_document.proofs.Least.{IsBelow}

-- A key that stands before another isn't the same.
apart : (a b : List ℕ) → slice_cmp nat_cmp a b ≡ Less → bytes_eq a b ≡ false
apart a b less =
    elim (cases_Bool (bytes_eq a b)) [
      | inl same ↦
          let tied = tied_itself nat_list_cmp_total b in
          let equal = rw ((bytes_eq-Decides a b).0 same) at less in
          absurd (cc (sym tied ∙ equal))
      | inr other ↦ other
    ]

less-from_is_lt : (o : Ordering) → is_lt o ≡ true → o ≡ Less
less-from_is_lt Less is = refl
less-from_is_lt Equal is = absurd (cc is)
less-from_is_lt Greater is = absurd (cc is)

-- An entry stands at the first field and fits it.
abbrev AtFirst : (List ℕ × Kind) → Fields → Fields → (List ℕ × Data) → Type 0
AtFirst f fs behind e = (f.0 ≡ e.0) × (has_kind f.1 e.1 ≡ true) × (fs ≡ behind)

-- The first may be absent and is lesser, and the entry stands further on.
abbrev PastFirst : (List ℕ × Kind) → Fields → Fields → (List ℕ × Data) → Type 0
PastFirst f fs behind e =
    (is_optional f.1 ≡ true) × (slice_cmp nat_cmp f.0 e.0 ≡ Less)
    × (fields_behind fs e ≡ Some behind)

first_field : (f : List ℕ × Kind) (fs behind : Fields) (e : List ℕ × Data)
    → fields_behind (f ∷ fs) e ≡ Some behind → AtFirst f fs behind e ⊎ PastFirst f fs behind e
first_field f fs behind e found =
    elim (cases_Bool (bytes_eq f.0 e.0)) [
      | inl same ↦ elim (cases_Bool (has_kind f.1 e.1)) [
        | inl fits ↦ inl (
          (bytes_eq-Decides f.0 e.0).0 same,
          fits,
          same_Some _ _ (rw (same, fits) at found),
        )
        | inr other ↦ absurd (cc (rw (same, other) at found))
      ]
      | inr other ↦
          elim (cases_Bool (is_optional f.1 && is_lt (slice_cmp nat_cmp f.0 e.0))) [
            | inl past ↦
                let (optional, less) = and_parts _ _ past in
                inr (optional, less-from_is_lt _ less, rw (other, past) at found)
            | inr stays ↦ absurd (cc (rw (other, stays) at found))
          ]
    ]

-- The entry fits its field.
behind-fits : (fields behind : Fields) (e : List ℕ × Data) → fields_behind fields e ≡ Some behind
    → is_expected fields e ≡ true
behind-fits [] behind e found = absurd (cc found)
behind-fits (f ∷ fs) behind e found =
    elim (first_field f fs behind e found) [
      | inl (same, fits, is) ↦ rw ((bytes_eq-Decides f.0 e.0).1 same) fits
      | inr (optional, less, more) ↦ rw (apart f.0 e.0 less) (behind-fits fs behind e more)
    ]

-- A later entry fits the fields where it fits those behind.
behind-later : (fields behind : Fields) (e later : List ℕ × Data)
    → fields_behind fields e ≡ Some behind → slice_cmp nat_cmp e.0 later.0 ≡ Less
    → is_expected fields later ≡ is_expected behind later
behind-later [] behind e later found below = absurd (cc found)
behind-later (f ∷ fs) behind e later found below =
    elim (first_field f fs behind e found) [
      | inl (same, fits, is) ↦
          let other : bytes_eq f.0 later.0 ≡ false = apart f.0 later.0 (rw same below) in
          rw other (ap (λ fields. is_expected fields later) is)
      | inr (optional, less, more) ↦
          let other = apart f.0 later.0 (nat_list_cmp_total.trans f.0 e.0 later.0 less below) in
          rw other (behind-later fs behind e later more below)
    ]

-- Entries that fit the fields behind an entry's fit all of them, where they follow it.
behind-misfits : (fields behind : Fields) (e : List ℕ × Data) (es : List (List ℕ × Data))
    → fields_behind fields e ≡ Some behind → IsBelow e.0 (map (λ x. x.0) es)
    → misfit_keys behind es ≡ [] → misfit_keys fields es ≡ []
behind-misfits fields behind e [] found below none = refl
behind-misfits fields behind e (later ∷ es) found below none =
    elim (cases_Bool (is_expected behind later)) [
      | inl fits ↦
          let same = behind-later fields behind e later found below.0 ∙ fits in
          rw same (behind-misfits fields behind e es found below.1 (rw fits at none))
      | inr misfit ↦ absurd (cc (rw misfit at none))
    ]

-- Where the fields are in order, each entry fits.
no_misfits : (fields : Fields) (es : List (List ℕ × Data))
    → IsStrictlySortedBy (slice_cmp nat_cmp) (map (λ e. e.0) es)
    → fits_in_order fields es ≡ true → misfit_keys fields es ≡ []
unfolding IsStrictlySortedBy
no_misfits fields [] sorted fits = refl
no_misfits fields (e ∷ es) sorted fits =
    let go : (found : Option Fields) → fields_behind fields e ≡ found
    → are_some (λ behind. fits_in_order behind es) found ≡ true
    → misfit_keys fields (e ∷ es) ≡ [] =
    elim [
      | None ↦ λ is none. absurd (cc none)
      | Some behind ↦ λ is rest.
          rw (behind-fits fields behind e is)
          (behind-misfits fields behind e es is sorted.0 (no_misfits behind es sorted.1 rest))
    ] in
    go (fields_behind fields e) refl fits

-- A field that a table has is in one with an entry more.
has-more : (key : List ℕ) (value : Data) (table : Members) (f : List ℕ × Kind)
    → is_missing table f ≡ false → is_missing (member key value table) f ≡ false
has-more key value table f has =
    elim (cases_Bool (is_optional f.1)) [
      | inl optional ↦ rw optional refl
      | inr needed ↦
          let there : is_none (get_member f.0 table) ≡ false = rw needed at has in
          let go : (o : Ordering)
          → is_none (match_ordering o (get_member f.0 table) (Some value) (get_member f.0 table))
          ≡ false =
          elim [ Less ↦ there | Equal ↦ refl | Greater ↦ there ] in
          rw needed (go (slice_cmp nat_cmp f.0 key))
    ]

missing-more : (key : List ℕ) (value : Data) (table : Members) (fields : Fields)
    → missing_keys table fields ≡ [] → missing_keys (member key value table) fields ≡ []
missing-more key value table [] none = refl
missing-more key value table (f ∷ fs) none =
    elim (cases_Bool (is_missing table f)) [
      | inl missing ↦ absurd (cc (rw missing at none))
      | inr has ↦
          rw (has-more key value table f has)
          (missing-more key value table fs (rw has at none))
    ]

-- A field that a table's first entry stands at isn't missing.
has-first : (key : List ℕ) (value : Data) (table : Members) (f : List ℕ × Kind) → f.0 ≡ key
    → is_missing (member key value table) f ≡ false
has-first key value table f same =
    elim (cases_Bool (is_optional f.1)) [
      | inl optional ↦ rw optional refl
      | inr needed ↦ rw (needed, same, tied_itself nat_list_cmp_total key) refl
    ]

-- What a table lacks of all fields, it lacks of those behind its first entry's.
behind-missing : (fields behind : Fields) (key : List ℕ) (value : Data) (table : Members)
    → fields_behind fields (key, value) ≡ Some behind
    → missing_keys (member key value table) behind ≡ []
    → missing_keys (member key value table) fields ≡ []
behind-missing [] behind key value table found none = absurd (cc found)
behind-missing (f ∷ fs) behind key value table found none =
    elim (first_field f fs behind (key, value) found) [
      | inl (same, fits, is) ↦
          rw (has-first key value table f same, is) none
      | inr (optional, less, more) ↦
          rw optional (behind-missing fs behind key value table more none)
    ]

-- No field is missing where all may be.
optional-missing : (fields : Fields) → are_optional fields ≡ true
    → missing_keys no_members fields ≡ []
optional-missing [] all = refl
optional-missing (f ∷ fs) all =
    let (optional, more) = and_parts (is_optional f.1) (are_optional fs) all in
    rw optional (optional-missing fs more)

-- Where the fields are in order, none is missing.
no_missing : (fields : Fields) (table : Members) → fits_in_order fields (entries_of table) ≡ true
    → missing_keys table fields ≡ []
no_missing fields no_members fits = optional-missing fields fits
no_missing fields (member key value table) fits =
    let go : (found : Option Fields) → fields_behind fields (key, value) ≡ found
    → are_some (λ behind. fits_in_order behind (entries_of table)) found ≡ true
    → missing_keys (member key value table) fields ≡ [] =
    elim [
      | None ↦ λ is none. absurd (cc none)
      | Some behind ↦ λ is rest.
          behind-missing fields behind key value table is
          (missing-more key value table behind (no_missing behind table rest))
    ] in
    go (fields_behind fields (key, value)) refl fits

-- So no key is wrong.
pub none_wrong : (fields : Fields) (table : Members)
    → IsStrictlySortedBy (slice_cmp nat_cmp) (map (λ e. e.0) (entries_of table))
    → fits_in_order fields (entries_of table) ≡ true → None ≡ least_wrong_key fields table
unfolding least_wrong_key
none_wrong fields table sorted fits =
    rw (no_missing fields table fits, no_misfits fields (entries_of table) sorted fits) refl
