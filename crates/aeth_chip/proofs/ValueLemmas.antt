-- What a table with another value at a key has, and which of its keys are wrong.
use Rattle.std.proofs.Common.{◌≡◌, ◌∙◌, ℕ, true, false, List, [], ◌∷◌, Some, None, Less, Equal}
use Rattle.std.proofs.Common.{Greater, Ordering, nat_cmp, refl, sym, inl, inr, is_none}
use Rattle.std.proofs.lemmas.{Bool.cases_Bool, Map.Lookups.exact_bytes, Map.Text.is_eq-slice_cmp}
use Rattle.std.proofs.lemmas.{Option.same_Some}
use Rattle.std.specs.{Cmp.Lexicographic.slice_cmp, Ordering.is_eq, Str.bytes_eq}
use Rattle.toml.specs.Data.{Data, Members, get_member, member, no_members, same_key}
use Rattle.aeth_chip.specs.Versions.{with_value}
use Rattle.aeth_document.specs.Keys.{Fields, entries_of, is_expected, is_missing, is_optional}
use Rattle.aeth_document.specs.Keys.{least_wrong_key, misfit_keys, missing_keys, wrong_key}
use Rattle.aeth_document.specs.declared.keys.Kind.{Kind}

-- ---- what stands at a key

order_is_equal : (order : Ordering) → is_eq order ≡ true → order ≡ Equal
order_is_equal Less same = absurd (cc same)
order_is_equal Equal same = refl
order_is_equal Greater same = absurd (cc same)

-- One key is the other.
same_is : (key other : List ℕ) → same_key key other ≡ true → key ≡ other
same_is key other same = exact_bytes key other (order_is_equal (slice_cmp nat_cmp key other) same)

-- What stands at a key that is the first of a table.
here : (key other : List ℕ) (value : Data) (table : Members) → same_key key other ≡ true
    → get_member key (member other value table) ≡ Some value
here key other value table same =
    rw (order_is_equal (slice_cmp nat_cmp key other) same) refl

-- What stands at another key is what the rest has.
past : (key other : List ℕ) (value : Data) (table : Members) → same_key key other ≡ false
    → get_member key (member other value table) ≡ get_member key table
past key other value table apart =
    let go : (order : Ordering) → slice_cmp nat_cmp key other ≡ order → is_eq order ≡ false
    → get_member key (member other value table) ≡ get_member key table =
    elim [
      | Less ↦ λ is less. rw is refl
      | Equal ↦ λ is equal. absurd (cc equal)
      | Greater ↦ λ is greater. rw is refl
    ] in
    go (slice_cmp nat_cmp key other) refl apart

-- A key has the new value.
pub get_member-own : (key : List ℕ) (value old : Data) (table : Members)
    → get_member key table ≡ Some old → get_member key (with_value key value table) ≡ Some value
get_member-own key value old no_members at = absurd (cc at)
get_member-own key value old (member other first table) at =
    elim (cases_Bool (same_key key other)) [
      | inl same ↦ rw same (here key other value table same)
      | inr apart ↦
          rw apart (past key other first (with_value key value table) apart
          ∙ get_member-own key value old table (sym (past key other first table apart) ∙ at))
    ]

-- Another key has what it had.
pub get_member-other : (key k : List ℕ) (value : Data) (table : Members)
    → same_key k key ≡ false → get_member k (with_value key value table) ≡ get_member k table
get_member-other key k value no_members apart = refl
get_member-other key k value (member other first table) apart =
    elim (cases_Bool (same_key key other)) [
      | inl same ↦
          let differs : same_key k other ≡ false = rw (← same_is key other same) apart in
          rw same (past k other value table differs ∙ sym (past k other first table differs))
      | inr differs ↦ rw (differs, get_member-other key k value table apart) refl
    ]

-- ---- the keys that are wrong

-- A key is there with the new value where it was there before.
is_none-kept : (key k : List ℕ) (value old : Data) (table : Members)
    → get_member key table ≡ Some old
    → is_none (get_member k (with_value key value table)) ≡ is_none (get_member k table)
is_none-kept key k value old table at =
    elim (cases_Bool (same_key k key)) [
      | inl same ↦ rw (same_is k key same, get_member-own key value old table at, at) refl
      | inr apart ↦ rw (get_member-other key k value table apart) refl
    ]

missing-kept : (key : List ℕ) (value old : Data) (table : Members) (fields : Fields)
    → get_member key table ≡ Some old
    → missing_keys (with_value key value table) fields ≡ missing_keys table fields
missing-kept key value old table [] at = refl
missing-kept key value old table (field ∷ fields) at =
    let rest = missing-kept key value old table fields at in
    let same = is_none-kept key field.0 value old table at in
    elim (cases_Bool (is_missing table field)) [
      | inl missing ↦ rw (same, missing, rest) refl
      | inr has ↦ rw (same, has, rest) refl
    ]

misfits-kept : (key : List ℕ) (value old : Data) (table : Members) (fields : Fields)
    → get_member key table ≡ Some old
    → is_expected fields (key, value) ≡ is_expected fields (key, old)
    → misfit_keys fields (entries_of (with_value key value table))
    ≡ misfit_keys fields (entries_of table)
misfits-kept key value old no_members fields at alike = refl
misfits-kept key value old (member other first table) fields at alike =
    elim (cases_Bool (same_key key other)) [
      | inl same ↦
          let is : key ≡ other = same_is key other same in
          let old_is : first ≡ old =
          same_Some first old (sym (here key other first table same) ∙ at) in
          let fits : is_expected fields (other, value) ≡ is_expected fields (other, first) =
          rw (← is, old_is) alike in
          elim (cases_Bool (is_expected fields (other, first))) [
            | inl expected ↦ rw (same, fits, expected) refl
            | inr misfit ↦ rw (same, fits, misfit) refl
          ]
      | inr apart ↦
          let rest = misfits-kept key value old table fields
          (sym (past key other first table apart) ∙ at) alike in
          elim (cases_Bool (is_expected fields (other, first))) [
            | inl expected ↦ rw (apart, expected, rest) refl
            | inr misfit ↦ rw (apart, misfit, rest) refl
          ]
    ]

-- The least wrong key is the same with another value that fits as the old one did.
pub wrong_key-kept : (key : List ℕ) (value old : Data) (table : Members) (fields : Fields)
    → get_member key table ≡ Some old
    → is_expected fields (key, value) ≡ is_expected fields (key, old)
    → wrong_key fields (with_value key value table) ≡ wrong_key fields table
unfolding least_wrong_key
wrong_key-kept key value old table fields at alike =
    let missing = missing-kept key value old table fields at in
    let misfits = misfits-kept key value old table fields at alike in
    rw (missing, misfits) refl

misfits-absent : (key : List ℕ) (kind : Kind) (fields : Fields) (table : Members)
    → get_member key table ≡ None
    → misfit_keys ((key, kind) ∷ fields) (entries_of table)
    ≡ misfit_keys fields (entries_of table)
misfits-absent key kind fields no_members at = refl
misfits-absent key kind fields (member other first table) at =
    elim (cases_Bool (same_key key other)) [
      | inl same ↦ absurd (cc (sym (here key other first table same) ∙ at))
      | inr apart ↦
          let rest = misfits-absent key kind fields table
          (sym (past key other first table apart) ∙ at) in
          let differs : bytes_eq key other ≡ false = sym (is_eq-slice_cmp key other) ∙ apart in
          elim (cases_Bool (is_expected fields (other, first))) [
            | inl expected ↦ rw (differs, expected, rest) refl
            | inr misfit ↦ rw (differs, misfit, rest) refl
          ]
    ]

-- A field that may be absent changes nothing where it is absent.
pub wrong_key-absent : (key : List ℕ) (kind : Kind) (fields : Fields) (table : Members)
    → is_optional kind ≡ true → get_member key table ≡ None
    → wrong_key ((key, kind) ∷ fields) table ≡ wrong_key fields table
unfolding least_wrong_key
wrong_key-absent key kind fields table optional at =
    rw (optional, misfits-absent key kind fields table at) refl
