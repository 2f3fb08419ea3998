-- The rows of what links carry: which they are, and which stands for a link in a cycle.
use Rattle.std.proofs.Common.{◌≡◌, ◌≤◌, ◌<◌, ◌∙◌, ℕ, ◌&&◌, Bool, List, [], ◌∷◌, Some, filter}
use Rattle.std.proofs.Common.{Contains, length, refl, sym, ap, subst, arith, eqb-true, eq-eqb}
use Rattle.std.proofs.Common.{lt-ltb, ltb-true, ◌==◌, nat_lt}
use Rattle.std.proofs.lemmas.Bool.{and_from, and_parts}
use Rattle.std.specs.List.{range_with_len}
use Rattle.aeth_base.proofs.Members.{Contains-filter, Contains-flat_map, Contains-here}
use Rattle.aeth_base.proofs.Members.{Contains-map, filter-Contains, flat_map-Contains, map-Contains}
use Rattle.aeth_base.proofs.Members.{sole-Contains}
use Rattle.aeth_base.proofs.Ranges.{Contains-range, range-Contains}
use Rattle.aeth_clocked.specs.declared.flit.Flit.{Flit}
use Rattle.aeth_report.specs.{Carries.carries, Flows.Run}
use Rattle.aeth_tables.proofs.FindLaws.{found_is, found_some}
use Rattle.aeth_audit.specs.{Audit.row_on, declared.row.LinkRow.LinkRow}
use Rattle.aeth_links.specs.Carried.{carried_rows, row_of, rows_in, rows_on}

-- A list of one item has it.
Contains-one : {X : Type 0} (x : X) → Contains (x ∷ []) x
Contains-one x = Contains-here x []

module _ (run : Run) where
  -- A row of what a link carries.
  pub record IsRowOf (row : LinkRow) : Type 0 where
    pub cycle : row.cycle < run.cycles
    pub link : row.link.0 < length run.design.chip.links
    pub flit : Contains (carries run row.link.0 row.cycle) row.flit

  -- Each row is one.
  pub carried-is : (row : LinkRow) → Contains (carried_rows run) row → IsRowOf row
  carried-is row has =
      let links = length run.design.chip.links in
      let cycle = flat_map-Contains (rows_in run) (range_with_len 0 run.cycles) row has in
      let t = cycle.0 in
      let link = flat_map-Contains (rows_on run t) (range_with_len 0 links) row cycle.2 in
      let l = link.0 in
      let flit = map-Contains (row_of t l) (carries run l t) row link.2 in
      subst IsRowOf flit.1 (record {
        cycle = range-Contains run.cycles t cycle.1;
        link = range-Contains links l link.1;
        flit = flit.2;
      })

  -- What a link carries has a row.
  pub is-carried : (t l : ℕ) (flit : Flit) → t < run.cycles
      → l < length run.design.chip.links → Contains (carries run l t) flit
      → Contains (carried_rows run) (row_of t l flit)
  is-carried t l flit early known on =
      let links = length run.design.chip.links in
      Contains-flat_map (rows_in run) (range_with_len 0 run.cycles) t (row_of t l flit)
      (Contains-range 0 run.cycles t (omega arith) (omega arith))
      (Contains-flat_map (rows_on run t) (range_with_len 0 links) l (row_of t l flit)
      (Contains-range 0 links l (omega arith) (omega arith))
      (Contains-map (row_of t l) (carries run l t) flit on))

  -- The rows before a cycle.
  abbrev pub rows_below : ℕ → List LinkRow
  rows_below cycles = filter (λ row. nat_lt row.cycle cycles) (carried_rows run)

  module _ (cycles : ℕ) (within : cycles ≤ run.cycles) where
    -- Each is that of a flit, and lies before the cycle.
    pub below-is : (row : LinkRow) → Contains (rows_below cycles) row
        → IsRowOf row × (row.cycle < cycles)
    below-is row has =
        let found = filter-Contains (λ (one : LinkRow). nat_lt one.cycle cycles)
        (carried_rows run) row has in
        (carried-is row found.0, ltb-true row.cycle cycles found.1)

    -- Where a link carries one flit alone, the row for it is that of the flit.
    pub row_on-is : (t l : ℕ) (flit : Flit) → t < cycles → l < length run.design.chip.links
        → carries run l t ≡ flit ∷ [] → row_on (rows_below cycles) t l ≡ Some (row_of t l flit)
    row_on-is t l flit early known alone =
        let test : LinkRow → Bool = λ row. row.cycle == t && row.link.0 == l in
        let on : Contains (carries run l t) flit =
        subst (λ (flits : List Flit). Contains flits flit) (sym alone) (Contains-one flit) in
        let has = Contains-filter (λ (row : LinkRow). nat_lt row.cycle cycles) (carried_rows run)
        (row_of t l flit) (is-carried t l flit (omega arith) known on) (lt-ltb t cycles early) in
        let found = found_some test (rows_below cycles) (row_of t l flit) has
        (and_from (t == t) (l == l) (eq-eqb t t refl) (eq-eqb l l refl)) in
        let row = found.0 in
        let is = found_is test (rows_below cycles) row found.1 in
        let parts = and_parts (row.cycle == t) (row.link.0 == l) is.1 in
        let cycle : row.cycle ≡ t = eqb-true row.cycle t parts.0 in
        let link : row.link.0 ≡ l = eqb-true row.link.0 l parts.1 in
        let own : Contains (carries run row.link.0 row.cycle) row.flit =
        (below-is row is.0).0.flit in
        let here : Contains (carries run l t) row.flit =
        subst (λ (n : ℕ). Contains (carries run n t) row.flit) link
        (subst (λ (u : ℕ). Contains (carries run row.link.0 u) row.flit) cycle own) in
        let same : row.flit ≡ flit = sym (sole-Contains flit row.flit
        (subst (λ (flits : List Flit). Contains flits row.flit) alone here)) in
        let rows : row ≡ row_of t l flit =
        λ q. record { cycle = cycle q; link = record { 0 = link q }; flit = same q } in
        found.1 ∙ ap (λ (one : LinkRow). Some one) rows
