-- What holds of each row that records tell.
use Rattle.std.proofs.Common.{◌≡◌, ◌≤◌, ◌+◌, ℕ, Bool, List, [], ◌∷◌, Option, Some, None, Result, Ok}
use Rattle.std.proofs.Common.{Err, refl, ap, subst, inl, inr, arith, All, option_map}
use Rattle.std.proofs.lemmas.{Bool.cases_Bool, Bool.Decides.nat_tests, List.Elements.All-cons}
use Rattle.std.proofs.lemmas.{List.Elements.All-nil, Option.same_Some}
use Rattle.aeth_base.specs.{Faults.BrokenRule, Limits.max_cycles, Number.number_of}
use Rattle.aeth_base.specs.{declared.ids.Channel.Channel, declared.ids.Side.Side}
use Rattle.aeth_text.specs.Fields.{side_in}
use Rattle.aeth_trace.specs.{Fields.at_most, Fields.channel_in, Fields.channel_with, Fields.four_of}
use Rattle.aeth_trace.specs.{Fields.named, Fields.number_to, Fields.three_of, Limits.max_pull}
use Rattle.aeth_trace.specs.{Limits.max_value, Receivers.pull_in, Receivers.pull_on}
use Rattle.aeth_trace.specs.{Rules.row_before, Rules.rows_from, Rules.table_of, Switches.switch_in}
use Rattle.aeth_trace.specs.{Switches.switch_of, Switches.switch_with, Words.word_in, Words.word_on}
use Rattle.aeth_trace.specs.{declared.receivers.PullRow.PullRow}
use Rattle.aeth_trace.specs.{declared.switches.SwitchRow.SwitchRow, declared.words.WordRow.WordRow}

-- The rows of a result; none where it has none.
abbrev rows_in : {A : Type 0} → Result (List A) BrokenRule → List A
rows_in (Ok rows) = rows
rows_in (Err broken) = []

-- What holds of a row and of those after it holds of all.
before-All : {A : Type 0} (P : A → Type 0) (row : ℕ) (one : Option A)
    (later : Result (List A) BrokenRule) (rows : List A) → ((told : A) → one ≡ Some told → P told)
    → ((more : List A) → later ≡ Ok more → All P more) → row_before row one later ≡ Ok rows
    → All P rows
before-All P row None later rows here all is = absurd (cc is)
before-All P row (Some told) (Err broken) rows here all is = absurd (cc is)
before-All P row (Some told) (Ok more) rows here all is =
    subst (All P) (ap rows_in is)
    (All-cons P told more (here told refl) (all more refl))

-- What holds of each row that a record tells holds of all.
rows-All : {A : Type 0} (tell : List (List ℕ) → Option A) (P : A → Type 0)
    → ((fields : List (List ℕ)) (told : A) → tell fields ≡ Some told → P told) → (row : ℕ)
    (records : List (List (List ℕ))) (rows : List A) → rows_from tell row records ≡ Ok rows
    → All P rows
rows-All tell P each row [] rows is = subst (All P) (ap rows_in is) (All-nil P)
rows-All tell P each row (fields ∷ records) rows is =
    before-All P row (tell fields) (rows_from tell (row + 1) records) rows (each fields)
    (λ more told. rows-All tell P each (row + 1) records more told) is

-- The same of the rows under a header.
pub table-All : {A : Type 0} (is_header : List (List ℕ) → Bool) (tell : List (List ℕ) → Option A)
    (P : A → Type 0)
    → ((fields : List (List ℕ)) (told : A) → tell fields ≡ Some told → P told)
    → (records : List (List (List ℕ))) (rows : List A) → table_of is_header tell records ≡ Ok rows
    → All P rows
table-All is_header tell P each [] rows is = absurd (cc is)
table-All is_header tell P each (header ∷ records) rows is =
    elim (cases_Bool (is_header header)) [
      | inl heads ↦ rows-All tell P each 1 records rows (rw heads at is)
      | inr other ↦ absurd (cc (rw other at is))
    ]

-- A number up to a limit is within it.
at_most-within : (most : ℕ) (one : Option ℕ) (number : ℕ) → at_most most one ≡ Some number
    → number ≤ most
at_most-within most None number is = absurd (cc is)
at_most-within most (Some other) number is = grind (arith, nat_tests)

pub number_to-within : (most : ℕ) (text : List ℕ) (number : ℕ) → number_to most text ≡ Some number
    → number ≤ most
number_to-within most text number is = at_most-within most (number_of text) number is

-- The numbers of a channel's row are those of its fields.
channel_with-numbers : (connection : ℕ) (side : Option Side) (cycle number : Option ℕ)
    (told : Channel × ℕ × ℕ) → channel_with connection side cycle number ≡ Some told
    → (cycle ≡ Some told.1) × (number ≡ Some told.2)
channel_with-numbers connection None cycle number told is = absurd (cc is)
channel_with-numbers connection (Some side) None number told is = absurd (cc is)
channel_with-numbers connection (Some side) (Some cycle) None told is = absurd (cc is)
channel_with-numbers connection (Some side) (Some cycle) (Some number) told is =
    let same = same_Some _ told is in
    (ap (λ (t : Channel × ℕ × ℕ). Some t.1) same, ap (λ (t : Channel × ℕ × ℕ). Some t.2) same)

-- The numbers of a channel's row are within their limits.
channel_in-within : (names : List (List ℕ)) (most : ℕ)
    (fields : Option (List ℕ × List ℕ × List ℕ × List ℕ)) (told : Channel × ℕ × ℕ)
    → channel_in names most fields ≡ Some told → (told.1 ≤ max_cycles) × (told.2 ≤ most)
channel_in-within names most None told is = absurd (cc is)
channel_in-within names most (Some fields) told is =
    let numbers = channel_with-numbers (named names fields.0) (side_in fields.1)
    (number_to max_cycles fields.2) (number_to most fields.3) told is in (
      number_to-within max_cycles fields.2 told.1 numbers.0,
      number_to-within most fields.3 told.2 numbers.1,
    )

-- What holds of each value that a function makes of an optional one holds of the value made.
mapped : {A B : Type 0} (f : A → B) (P : B → Type 0) (one : Option A) (made : B)
    → ((x : A) → one ≡ Some x → P (f x)) → option_map f one ≡ Some made → P made
mapped f P None made each is = absurd (cc is)
mapped f P (Some x) made each is = subst P (same_Some (f x) made is) (each x refl)

-- A word's cycle is within its limit.
pub word_in-within : (names fields : List (List ℕ)) (word : WordRow)
    → word_in names fields ≡ Some word → word.cycle ≤ max_cycles
word_in-within names fields word is =
    mapped word_on (λ (row : WordRow). row.cycle ≤ max_cycles)
    (channel_in names max_value (four_of fields)) word
    (λ told at. (channel_in-within names max_value (four_of fields) told at).0) is

-- The numbers of a receiver's row are within their limits.
pub pull_in-within : (names fields : List (List ℕ)) (row : PullRow)
    → pull_in names fields ≡ Some row → (row.cycle ≤ max_cycles) × (row.pull ≤ max_pull)
pull_in-within names fields row is =
    mapped pull_on (λ (row : PullRow). (row.cycle ≤ max_cycles) × (row.pull ≤ max_pull))
    (channel_in names max_pull (four_of fields)) row
    (λ told at. channel_in-within names max_pull (four_of fields) told at) is

-- The numbers of a switch are those of its fields.
switch_with-numbers : (cycle : Option ℕ) (to : ℕ) (drain : Option ℕ) (row : SwitchRow)
    → switch_with cycle to drain ≡ Some row → (cycle ≡ Some row.cycle) × (drain ≡ Some row.drain)
switch_with-numbers None to drain row is = absurd (cc is)
switch_with-numbers (Some cycle) to None row is = absurd (cc is)
switch_with-numbers (Some cycle) to (Some drain) row is =
    let same = same_Some _ row is in
    (ap (λ (r : SwitchRow). Some r.cycle) same, ap (λ (r : SwitchRow). Some r.drain) same)

-- The numbers of a switch are within their limits.
switch_of-within : (names : List (List ℕ)) (fields : Option (List ℕ × List ℕ × List ℕ))
    (row : SwitchRow) → switch_of names fields ≡ Some row
    → (row.cycle ≤ max_cycles) × (row.drain ≤ max_cycles)
switch_of-within names None row is = absurd (cc is)
switch_of-within names (Some fields) row is =
    let numbers = switch_with-numbers (number_to max_cycles fields.0) (named names fields.1)
    (number_to max_cycles fields.2) row is in (
      number_to-within max_cycles fields.0 row.cycle numbers.0,
      number_to-within max_cycles fields.2 row.drain numbers.1,
    )

pub switch_in-within : (names fields : List (List ℕ)) (row : SwitchRow)
    → switch_in names fields ≡ Some row → (row.cycle ≤ max_cycles) × (row.drain ≤ max_cycles)
switch_in-within names fields row is = switch_of-within names (three_of fields) row is
