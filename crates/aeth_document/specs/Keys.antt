-- The keys of a table.
--
--   Fields, fields_view       the keys that a table has, and what stands there
--   has_kind, is_expected     whether a value fits, and whether it fits its field
--   least_wrong_key           the least key that is missing, unknown or of another kind
--   wrong_key                 the same as a refusal shows it
-- This project's own.
use Rattle.std.proofs.Common.{true, false, not, ℕ, Bool, List, [], ◌∷◌, ◌++◌, map, filter, fold}
use Rattle.std.proofs.Common.{Option, Some, None, option_map, is_some, is_none, if◌then◌else◌}
use Rattle.std.specs.{List.list_all, Str.bytes_eq, Ordering.is_lt, Ordering.nat_cmp}
use Rattle.std.specs.{Cmp.Lexicographic.slice_cmp}
use Rattle.toml.specs.Data.{Data, Items, no_items, item, Members, no_members, member, get_member}
use Rattle.toml.specs.Data.{as_str, as_integer, as_array, as_table}
use Rattle.aeth_document.specs.declared.keys.{Field.Field, Kind.Kind}
use Rattle.aeth_base.specs.{declared.shown.Shown.Shown, Shown.shown_text}
use Rattle.aeth_document.specs.declared.keys.Kind.TheVariants as kind

-- The items of an array in order.
abbrev pub listed : Items → List Data
listed no_items = []
listed (item d ds) = d ∷ listed ds

-- The keys and values of a table in order.
abbrev pub entries_of : Members → List (List ℕ × Data)
entries_of no_members = []
entries_of (member k d ms) = (k, d) ∷ entries_of ms

-- The keys of a table with what stands at each.
abbrev pub Fields : Type 0
Fields = List (List ℕ × Kind)

-- The fields of a table as this list.
abbrev pub fields_view : List Field → Fields
fields_view fields = map (λ f. (f.0.now, f.1)) fields

-- The array is there, and each of its items passes the test.
abbrev pub all_items : (Data → Bool) → Option Items → Bool
all_items p None = false
all_items p (Some ds) = list_all p (listed ds)

-- Whether a value is of a kind. An array without items is one of texts and one of tables.
abbrev pub has_kind : Kind → Data → Bool
has_kind kind.Integer d = is_some (as_integer d)
has_kind kind.OptionalInteger d = is_some (as_integer d)
has_kind kind.Text d = is_some (as_str d)
has_kind kind.OptionalText d = is_some (as_str d)
has_kind kind.Table d = is_some (as_table d)
has_kind kind.Texts d = all_items (λ x. is_some (as_str x)) (as_array d)
has_kind kind.OptionalTexts d = all_items (λ x. is_some (as_str x)) (as_array d)
has_kind kind.Tables d = all_items (λ x. is_some (as_table x)) (as_array d)

-- The value fits the field that stands under its key.
abbrev pub is_expected : Fields → (List ℕ × Data) → Bool
is_expected [] e = false
is_expected (f ∷ fs) e = if bytes_eq f.0 e.0 then has_kind f.1 e.1 else is_expected fs e

-- Whether a field of this kind may be absent.
abbrev pub is_optional : Kind → Bool
is_optional kind.Integer = false
is_optional kind.OptionalInteger = true
is_optional kind.Text = false
is_optional kind.OptionalText = true
is_optional kind.Table = false
is_optional kind.Texts = false
is_optional kind.OptionalTexts = true
is_optional kind.Tables = false

-- Whether the table lacks a field that it has to have.
abbrev pub is_missing : Members → (List ℕ × Kind) → Bool
is_missing ms f = if is_optional f.1 then false else is_none (get_member f.0 ms)

-- The keys that a table lacks.
abbrev pub missing_keys : Members → Fields → List (List ℕ)
missing_keys ms fields = map (λ f. f.0) (filter (is_missing ms) fields)

-- The keys that are unknown or whose values are of another kind.
abbrev pub misfit_keys : Fields → List (List ℕ × Data) → List (List ℕ)
misfit_keys fields es = map (λ e. e.0) (filter (λ e. not (is_expected fields e)) es)

-- The lesser of the keys in byte order.
abbrev pub lesser : Option (List ℕ) → List ℕ → Option (List ℕ)
lesser None k = Some k
lesser (Some b) k = if is_lt (slice_cmp nat_cmp k b) then Some k else Some b

-- The lesser of the keys, where the second counts.
abbrev pub lesser_where : Bool → Option (List ℕ) → List ℕ → Option (List ℕ)
lesser_where b best k = if b then lesser best k else best

-- The least key in byte order.
abbrev pub least : List (List ℕ) → Option (List ℕ)
least ks = fold lesser None ks

-- The first key.
abbrev pub first_of : List (List ℕ) → Option (List ℕ)
first_of [] = None
first_of (k ∷ ks) = Some k

-- The least key of a table that is missing, unknown or of another kind.
unfoldable pub least_wrong_key : Fields → Members → Option (List ℕ)
least_wrong_key fields ms = least (missing_keys ms fields ++ misfit_keys fields (entries_of ms))

-- The same key as a refusal shows it.
abbrev pub wrong_key : Fields → Members → Option Shown
wrong_key fields ms = option_map shown_text (least_wrong_key fields ms)
