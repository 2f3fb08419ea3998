-- Laws of wires that are kept as flits and marks.
use Rattle.std.proofs.Common.{ℕ, ◌<◌, ◌≡◌, ◌≢◌, ◌+◌, ◌-◌, ◌∙◌, refl, sym, ap, arith, inl, inr, ◌↔◌}
use Rattle.std.proofs.Common.{zero, suc, Bool, true, false, not, IsTrue, Option, Some, None, IsSome}
use Rattle.std.proofs.Common.{is_some, List, [], ◌∷◌, eqb, filter, length, length-set, replicate}
use Rattle.std.proofs.Common.{slice_get, unwrap_or, ne_eqb}
use Rattle.std.proofs.lemmas.Bool.{cases_Bool, cases_eq, cases_lt}
use Rattle.std.proofs.lemmas.List.FromFn.{length-map-range_with_len, get_or-map-range_with_len}
use Rattle.std.proofs.lemmas.Option.{slice_get-get_or, slice_get_past}
use Rattle.std.specs.List.{range_with_len, slice_set}
use Rattle.aeth_base.proofs.Lists.{same_list, slice_get-slice_set_same, slice_get-slice_set_other}
use Rattle.aeth_base.proofs.MarkedLemmas.{filter-alike, filter-short}
use Rattle.aeth_base.proofs.TestLemmas.{is_some-false}
use Rattle.aeth_base.specs.Marks.{bit_of, is_marked, marked_from, room_of}
use Rattle.aeth_clocked.specs.declared.flit.Flit.{Flit}
use Rattle.aeth_clocked.specs.MarkedWires.{AreMarksOf, marked_flit, marked_wires}
use Rattle.aeth_clocked.specs.Wires.{flit_on, has_flit, used_from}
use Rattle.aeth_clocked.proofs.ClearLemmas.{all-empty}

-- As many links as flits.
pub as_many_wires : (marks : List ℕ) (flits : List Flit)
    → length (marked_wires marks flits) ≡ length flits
as_many_wires marks flits =
    length-map-range_with_len (marked_flit marks flits) 0 (length flits)

-- So it is by any name of them.
pub as_many_kept : (marks : List ℕ) (flits : List Flit) (wires : List (Option Flit))
    → marked_wires marks flits ≡ wires → length wires ≡ length flits
as_many_kept marks flits wires kept =
    ap (λ (list : List (Option Flit)). length list) (sym kept) ∙ as_many_wires marks flits

-- The flit of a link.
pub slice_get-marked_wires : (marks : List ℕ) (flits : List Flit) (link : ℕ) → link < length flits
    → slice_get (marked_wires marks flits) link ≡ Some (marked_flit marks flits link)
slice_get-marked_wires marks flits link within =
    let wires = marked_wires marks flits in
    let size = as_many_wires marks flits in
    slice_get-get_or wires link None (omega arith)
    ∙ ap (λ (flit : Option Flit). Some flit)
    (get_or-map-range_with_len (marked_flit marks flits) 0 (length flits) link link None within
    (omega arith))

-- What the bit of a link tells.
pub marked_flit-none : (marks : List ℕ) (flits : List Flit) (link : ℕ) → bit_of marks link ≢ 1
    → marked_flit marks flits link ≡ None
marked_flit-none marks flits link unmarked = rw (ne_eqb (bit_of marks link) 1 unmarked) refl

pub marked_flit-some : (marks : List ℕ) (flits : List Flit) (link : ℕ) → bit_of marks link ≡ 1
    → marked_flit marks flits link ≡ slice_get flits link
marked_flit-some marks flits link marked = rw marked refl

-- Wires with no mark are all empty.
pub marked_wires-none : (marks : List ℕ) (flits : List Flit) (count : ℕ) → length flits ≡ count
    → ((link : ℕ) → bit_of marks link ≡ 0) → marked_wires marks flits ≡ replicate count None
marked_wires-none marks flits count size none =
    let same = as_many_wires marks flits in
    all-empty (marked_wires marks flits)
    (λ link within.
    ap (λ (found : Option (Option Flit)). unwrap_or found None)
    (slice_get-marked_wires marks flits link (omega arith))
    ∙ marked_flit-none marks flits link (λ one. omega (arith, none link, one)))
    ∙ ap (λ n. replicate n None) (same ∙ size)

-- The flit of one link changes.
pub marked_wires-set : (old new : List ℕ) (before after : List Flit) (place : ℕ)
    (flit : Option Flit) → place < length before → length after ≡ length before
    → marked_flit new after place ≡ flit
    → ((link : ℕ) → link ≢ place → bit_of new link ≡ bit_of old link)
    → ((link : ℕ) → link ≢ place → slice_get after link ≡ slice_get before link)
    → marked_wires new after ≡ slice_set (marked_wires old before) place flit
marked_wires-set old new before after place flit below size here bits flits =
    let wires = marked_wires old before in
    let many = as_many_wires old before in
    let as_many = as_many_wires new after in
    let set_as_many : length (slice_set wires place flit) ≡ length wires =
    length-set wires place flit in
    same_list (marked_wires new after) (slice_set wires place flit) (λ link.
    elim (cases_lt link (length before)) [
      | inl within ↦
          slice_get-marked_wires new after link (omega arith)
          ∙ elim (cases_eq link place) [
            | inl same ↦
                ap (λ (found : Option Flit). Some found) (ap (marked_flit new after) same ∙ here)
                ∙ sym (ap (slice_get (slice_set wires place flit)) same
                ∙ slice_get-slice_set_same wires place flit (omega arith))
            | inr other ↦
                ap (λ (found : Option Flit). Some found) (rw (bits link other, flits link other) refl)
                ∙ sym (slice_get-slice_set_other wires place link flit other
                ∙ slice_get-marked_wires old before link within)
          ]
      | inr past ↦
          slice_get_past (marked_wires new after) link (omega arith)
          ∙ sym (slice_get_past (slice_set wires place flit) link (omega arith))
    ])

-- A flit stands at each place.
is_some-slice_get : (flits : List Flit) (link : ℕ) → link < length flits
    → is_some (slice_get flits link) ≡ true
is_some-slice_get [] link within = absurd (omega arith)
is_some-slice_get (flit ∷ flits) zero within = refl
is_some-slice_get (flit ∷ flits) (suc link) within = is_some-slice_get flits link (omega arith)

-- Just the links with a flit are marked.
pub has_flit-marked_wires : (marks : List ℕ) (flits : List Flit) (link : ℕ)
    → AreMarksOf (length flits) marks
    → has_flit (marked_wires marks flits) link ≡ is_marked marks link
has_flit-marked_wires marks flits link are =
    let size = as_many_wires marks flits in
    elim (cases_lt link (length flits)) [
      | inl within ↦
          ap (λ (found : Option (Option Flit)). is_some (unwrap_or found None))
          (slice_get-marked_wires marks flits link within)
          ∙ elim (cases_Bool (is_marked marks link)) [
            | inl marked ↦ rw marked (is_some-slice_get flits link within)
            | inr unmarked ↦ rw unmarked refl
          ]
      | inr past ↦
          ap (λ (found : Option (Option Flit)). is_some (unwrap_or found None))
          (slice_get_past (marked_wires marks flits) link (omega arith))
          ∙ sym (ap (λ bit. eqb bit 1) (are.past link past))
    ]

-- A link that isn't marked is empty, and any other has a flit.
pub flit_on-none : (marks : List ℕ) (flits : List Flit) (link : ℕ)
    → AreMarksOf (length flits) marks → bit_of marks link ≢ 1
    → flit_on (marked_wires marks flits) link ≡ None
flit_on-none marks flits link are unmarked =
    is_some-false (flit_on (marked_wires marks flits) link)
    (has_flit-marked_wires marks flits link are ∙ ne_eqb (bit_of marks link) 1 unmarked)

pub flit_on-some : (marks : List ℕ) (flits : List Flit) (link : ℕ)
    → AreMarksOf (length flits) marks → bit_of marks link ≡ 1
    → IsSome (flit_on (marked_wires marks flits) link)
flit_on-some marks flits link are marked =
    has_flit-marked_wires marks flits link are ∙ ap (λ bit. eqb bit 1) marked

-- A link with a flit is one of the links, and the flit stands at its place.
module _ (marks : List ℕ) (flits : List Flit) (link : ℕ)
    (some : IsSome (flit_on (marked_wires marks flits) link)) where
  pub flit-within : link < length flits
  flit-within =
      let size = as_many_wires marks flits in
      elim (cases_lt link (length flits)) [
        | inl within ↦ within
        | inr past ↦
            absurd (cc (sym some ∙ ap (λ (found : Option (Option Flit)). is_some (unwrap_or found None))
            (slice_get_past (marked_wires marks flits) link (omega arith))))
      ]

  pub flit-there : AreMarksOf (length flits) marks
      → flit_on (marked_wires marks flits) link ≡ slice_get flits link
  flit-there are =
      elim (cases_eq (bit_of marks link) 1) [
        | inl marked ↦
            ap (λ (found : Option (Option Flit)). unwrap_or found None)
            (slice_get-marked_wires marks flits link flit-within)
            ∙ marked_flit-some marks flits link marked
        | inr unmarked ↦
            absurd (cc (sym some ∙ ap is_some (flit_on-none marks flits link are unmarked)))
      ]

-- A link is empty just where it isn't marked.
pub empty-unmarked : (marks : List ℕ) (flits : List Flit) (link : ℕ) (has : Bool)
    → AreMarksOf (length flits) marks → (IsTrue has ↔ (bit_of marks link ≡ 1))
    → IsTrue (not has) ↔ (flit_on (marked_wires marks flits) link ≡ None)
empty-unmarked marks flits link true are (marked, _) =
    let some = flit_on-some marks flits link are (marked refl) in
    (λ free. absurd (cc free), λ none. absurd (cc (sym (ap is_some none) ∙ some)))
empty-unmarked marks flits link false are (_, has) = (
  (λ free. flit_on-none marks flits link are (λ one. cc (has one))),
  (λ none. refl),
)

-- The marked links are those with a flit.
pub marked_from-marked_wires : (marks : List ℕ) (flits : List Flit)
    → AreMarksOf (length flits) marks
    → marked_from marks 0 ≡ used_from (marked_wires marks flits) 0
marked_from-marked_wires marks flits are =
    let wires = marked_wires marks flits in
    let size = as_many_wires marks flits in
    let room = are.room in
    let more = room_of marks - length flits in
    let all : room_of marks - 0 ≡ length flits + more = omega arith in
    let count : length wires - 0 ≡ length flits = omega arith in
    ap (λ n. filter (is_marked marks) (range_with_len 0 n)) all
    ∙ filter-short (is_marked marks) 0 (length flits) more
    (λ link past. ap (λ bit. eqb bit 1) (are.past link (omega arith)))
    ∙ filter-alike (is_marked marks) (has_flit wires) (range_with_len 0 (length flits))
    (λ link. sym (has_flit-marked_wires marks flits link are))
    ∙ ap (λ n. filter (has_flit wires) (range_with_len 0 n)) (sym count)
