-- The rows of what is seen on wires, from wire to wire.
use Rattle.std.proofs.Common.{◌≡◌, ◌≤◌, ◌<◌, ◌+◌, ◌-◌, ◌++◌, ◌∙◌, ℕ, zero, suc, List, [], Option}
use Rattle.std.proofs.Common.{None, sym, ap, inl, inr, arith, append_assoc, append-nil, flat_map}
use Rattle.std.proofs.Common.{map}
use Rattle.std.proofs.lemmas.{Bool.cases_lt, Grind.flat_map-append, List.Concat.flat_map-cons}
use Rattle.std.specs.{List.range_with_len, Option.option_to_list}
use Rattle.aeth_base.proofs.Ranges.{range_more}
use Rattle.aeth_clocked.specs.{Wires.flit_on, declared.flit.Flit.Flit}
use Rattle.aeth_audit.specs.{Lines.row_line, declared.row.LinkRow.LinkRow}
use Rattle.aeth_links.specs.Carried.{lines_of, row_of}
use Rattle.aeth_links.specs.Seen.{rows_at, rows_from, rows_seen}

module _ (wires : List (Option Flit)) (links t : ℕ) where
  -- A wire without a flit has no row.
  rows_at-none : (l : ℕ) → flit_on wires l ≡ None → rows_at wires t l ≡ []
  rows_at-none l none =
      ap (λ (flit : Option Flit). map (row_of t l) (option_to_list flit)) none

  -- The rows from a wire on begin with its own.
  rows_from-next : (l : ℕ) → l < links
      → rows_from wires links t l ≡ rows_at wires t l ++ rows_from wires links t (l + 1)
  rows_from-next l below =
      ap (flat_map (rows_at wires t)) (range_more l links below)
      ∙ flat_map-cons (rows_at wires t) l (range_with_len (l + 1) (links - (l + 1)))

  -- There are none behind the last wire.
  rows_from-end : (l : ℕ) → links ≤ l → rows_from wires links t l ≡ []
  rows_from-end l past =
      let none : links - l ≡ 0 = omega arith in
      ap (λ (n : ℕ). flat_map (rows_at wires t) (range_with_len l n)) none

  -- Wires without flits are passed over.
  pub rows_from-until : (n a b : ℕ) → a + n ≡ b
      → ((l : ℕ) → a ≤ l → l < b → flit_on wires l ≡ None)
      → rows_from wires links t a ≡ rows_from wires links t b
  rows_from-until zero a b is empty =
      let same : a ≡ b = omega arith in ap (rows_from wires links t) same
  rows_from-until (suc n) a b is empty =
      let rest = rows_from-until n (a + 1) b (omega arith)
      (λ l least most. empty l (omega arith) most) in
      elim (cases_lt a links) [
        | inl below ↦
            rows_from-next a below
            ∙ ap (λ (rows : List LinkRow). rows ++ rows_from wires links t (a + 1))
            (rows_at-none a (empty a (omega arith) (omega arith)))
            ∙ rest
        | inr past ↦ rows_from-end a past ∙ sym (rows_from-end b (omega arith))
      ]

  -- The rows from 0 on are all of them.
  pub rows_from-all : rows_from wires links t 0 ≡ rows_seen wires links t
  rows_from-all =
      let all : links - 0 ≡ links = omega arith in
      ap (λ (n : ℕ). flat_map (rows_at wires t) (range_with_len 0 n)) all

  -- The lines of a wire stand before those from the next wire with a flit on.
  pub lines-next : (text : List ℕ) (l next : ℕ) → l < links → l + 1 ≤ next
      → ((k : ℕ) → l + 1 ≤ k → k < next → flit_on wires k ≡ None)
      → (text ++ lines_of (rows_at wires t l)) ++ lines_of (rows_from wires links t next)
      ≡ text ++ lines_of (rows_from wires links t l)
  lines-next text l next below later empty =
      let until = rows_from-until (next - (l + 1)) (l + 1) next (omega arith) empty in
      append_assoc text (lines_of (rows_at wires t l)) (lines_of (rows_from wires links t next))
      ∙ ap (λ (lines : List ℕ). text ++ lines)
      (ap (λ (rows : List LinkRow). lines_of (rows_at wires t l) ++ lines_of rows) (sym until)
      ∙ sym (flat_map-append row_line (rows_at wires t l) (rows_from wires links t (l + 1)))
      ∙ ap lines_of (sym (rows_from-next l below)))

  -- Behind the last wire nothing is left.
  pub lines-end : (text : List ℕ) (l : ℕ) → links ≤ l
      → text ++ lines_of (rows_from wires links t l) ≡ text
  lines-end text l past =
      ap (λ (rows : List LinkRow). text ++ lines_of rows) (rows_from-end l past) ∙ append-nil text
