-- The table of taken seats, after a core took a seat, and after it gave it back.
use Rattle.std.proofs.Common.{◌≡◌, ◌≢◌, ◌<◌, ◌∙◌, ◌+◌, ◌*◌, ◌||◌, ℕ, Bool, true, false, List}
use Rattle.std.proofs.Common.{length, get_or, set, Some, None, Option, refl, sym, ap, inl, inr}
use Rattle.std.proofs.Common.{arith, map, slice_get, take, drop, length-set, length-take}
use Rattle.std.proofs.Common.{length-drop, get_or-take, get_or-drop, replicate}
use Rattle.std.proofs.lemmas.Bool.{cases_eq}
use Rattle.std.proofs.lemmas.List.{same_lists, length-replicate, get_or-replicate}
use Rattle.std.proofs.lemmas.List.FromFn.{get_or-map-range_with_len, length-map-range_with_len}
use Rattle.std.proofs.lemmas.Option.{get_or_from_slice_get, slice_get-get_or}
use Rattle.std.specs.List.{range_with_len}
use Rattle.aeth_base.specs.declared.ids.NiId.{NiId}
use Rattle.aeth_base.proofs.Lists.{slice_get-slice_set_same, slice_get-slice_set_other}
use Rattle.aeth_app.specs.Limits.{seats_per_ni}
use Rattle.aeth_seats.specs.Places.{Place, is_taken, seat_of, sits_on, taken_seats}
use Rattle.aeth_seats.specs.Table.{AreFew, IsTakenTable, TableData, entry_of}
use Rattle.aeth_seats.proofs.TakenLemmas.{none-taken, is_taken-cleared, is_taken-more}
use Rattle.aeth_seats.proofs.TakenLemmas.{is_taken-same, sits_on-away, sits_on-own}

-- Two seats that are at one entry are one seat.
pub same_entry : (ni seat ni' seat' : ℕ) → seat < seats_per_ni → seat' < seats_per_ni
    → entry_of ni seat ≡ entry_of ni' seat' → (ni ≡ ni') × (seat ≡ seat')
same_entry ni seat ni' seat' low low' same = (omega arith, omega arith)

-- The entry of a seat of an interface is in the table.
pub entry_within : (nis ni seat size : ℕ) → ni < nis → seat < seats_per_ni
    → size ≡ seats_per_ni * nis → entry_of ni seat < size
entry_within nis ni seat size on low sizes = omega arith

-- A table in which one entry is written says of each seat whether it is taken then.
table-set : (nis : ℕ) (places places' : List (Option Place)) (taken : List Bool) (ni seat : ℕ)
    (mark : Bool) → IsTakenTable nis places taken → ni < nis → seat < seats_per_ni
    → is_taken places' ni seat ≡ mark
    → ((n s : ℕ) → ((n ≡ ni) × (s ≡ seat) → ⊥) → is_taken places' n s ≡ is_taken places n s)
    → IsTakenTable nis places' (set taken (entry_of ni seat) mark)
table-set nis places places' taken ni seat mark table on low here others =
    let size = length-set taken (entry_of ni seat) mark in
    let there = entry_within nis ni seat (length taken) on low table.size in
    record {
      size = size ∙ table.size;
      each = λ n s on' low'. elim (cases_eq (entry_of n s) (entry_of ni seat)) [
        | inl same ↦
            let (one, other) = same_entry n s ni seat low' low same in
            ap (slice_get (set taken (entry_of ni seat) mark)) same
            ∙ slice_get-slice_set_same taken (entry_of ni seat) mark there
            ∙ ap Some (sym here ∙ ap (λ k. is_taken places' k seat) (sym one)
            ∙ ap (is_taken places' n) (sym other))
        | inr apart ↦
            slice_get-slice_set_other taken (entry_of ni seat) (entry_of n s) mark apart
            ∙ table.each n s on' low'
            ∙ ap Some (sym (others n s (λ same. apart (
            ap (λ k. entry_of k s) same.0 ∙ ap (entry_of ni) same.1))))
      ];
    }

-- The table once a core that had no seat sits on one.
pub table-placed : (nis : ℕ) (places : List (Option Place)) (taken : List Bool) (core : ℕ)
    (ni : NiId) (seat : ℕ) → IsTakenTable nis places taken → core < length places
    → seat_of places core ≡ None → ni.0 < nis → seat < seats_per_ni
    → IsTakenTable nis (set places core (Some (ni, seat))) (set taken (entry_of ni.0 seat) true)
table-placed nis places taken core ni seat table there none on low =
    table-set nis places _ taken ni.0 seat true table on low
    (is_taken-more places core (ni, seat) ni.0 seat there none
    ∙ ap (λ b. b || is_taken places ni.0 seat) (sits_on-own ni seat))
    (λ n s apart. is_taken-more places core (ni, seat) n s there none
    ∙ ap (λ b. b || is_taken places n s)
    (sits_on-away (ni, seat) n s (λ same. apart (sym same.0, sym same.1))))

-- The table once the only core on a seat gave it back.
pub table-taken_back : (nis : ℕ) (places : List (Option Place)) (taken : List Bool) (core : ℕ)
    (ni : NiId) (seat : ℕ) → IsTakenTable nis places taken → core < length places
    → seat_of places core ≡ Some (ni, seat) → ni.0 < nis → seat < seats_per_ni
    → ((other : ℕ) → other ≢ core → sits_on ni.0 seat (seat_of places other) ≡ false)
    → IsTakenTable nis (set places core None) (set taken (entry_of ni.0 seat) false)
table-taken_back nis places taken core ni seat table there sits on low alone =
    table-set nis places _ taken ni.0 seat false table on low
    (is_taken-cleared places core ni.0 seat alone)
    (λ n s apart. is_taken-same places core n s there
    (ap (sits_on n s) sits
    ∙ sits_on-away (ni, seat) n s (λ same. apart (sym same.0, sym same.1))))

entry-at : (ni seat : ℕ) → entry_of ni 0 + seat ≡ entry_of ni seat
entry-at ni seat = omega arith

-- The entries of an interface say which of its seats are taken.
pub row_is : (nis : ℕ) (places : List (Option Place)) (taken : List Bool) (ni : ℕ)
    → IsTakenTable nis places taken → ni < nis
    → take seats_per_ni (drop (entry_of ni 0) taken) ≡ taken_seats places ni
unfolding taken_seats
row_is nis places taken ni table on =
    let first : ℕ = entry_of ni 0 in
    let seats : List Bool = map (is_taken places ni) (range_with_len 0 seats_per_ni) in
    let size : length (take seats_per_ni (drop first taken)) ≡ seats_per_ni =
    omega (
      arith,
      length-take seats_per_ni (drop first taken),
      length-drop first taken,
      table.size,
    ) in
    same_lists (take seats_per_ni (drop first taken)) seats
    (size ∙ sym (length-map-range_with_len (is_taken places ni) 0 seats_per_ni))
    (λ k d within.
    let low : k < seats_per_ni = omega arith in
    get_or-take seats_per_ni (drop first taken) k d low ∙ get_or-drop first taken k d
    ∙ ap (λ e. get_or taken e d) (entry-at ni k)
    ∙ get_or_from_slice_get taken (entry_of ni k) (is_taken places ni k) d (table.each ni k on low)
    ∙ sym (get_or-map-range_with_len (is_taken places ni) 0 seats_per_ni k k d low (omega arith)))

-- Where no seat is taken.
pub table-none : (nis cores : ℕ) (places : List (Option Place)) (taken : List Bool)
    → places ≡ replicate cores None → taken ≡ replicate (seats_per_ni * nis) false
    → IsTakenTable nis places taken
table-none nis cores places taken no_places none = record {
  size = ap length none ∙ length-replicate (seats_per_ni * nis) false;
  each = λ ni seat on low.
      let within = entry_within nis ni seat (seats_per_ni * nis) on low refl in
      let size = length-replicate (seats_per_ni * nis) false in
      let there : entry_of ni seat < length (replicate (seats_per_ni * nis) false) = omega arith in
      ap (λ ts. slice_get ts (entry_of ni seat)) none
      ∙ slice_get-get_or (replicate (seats_per_ni * nis) false) (entry_of ni seat) false there
      ∙ ap Some (get_or-replicate (seats_per_ni * nis) (entry_of ni seat) false false within
      ∙ sym (ap (λ ps. is_taken ps ni seat) no_places ∙ none-taken cores ni seat));
}

-- There are few enough cores where one was written.
pub few-set : (table : TableData) (core : ℕ) (place : Option Place) → AreFew table
    → AreFew (record { nis = table.nis; places = set table.places core place })
few-set table core place few = record {
  nis = few.nis;
  cores = let size = length-set table.places core place in omega (arith, few.cores);
}
