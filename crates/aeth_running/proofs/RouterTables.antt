-- The tables of routers in a network are those of the rows in force.
use Rattle.std.proofs.Common.{◌≡◌, ◌∙◌, ◌+◌, ◌-◌, ◌*◌, ◌++◌, ℕ, zero, suc, List, [], ◌∷◌, None}
use Rattle.std.proofs.Common.{Option, Some, ap, arith, filter, fold, inl, inr, length, map, refl}
use Rattle.std.proofs.Common.{replicate, slice_get, subst, sym, ◌==◌, nat_lt, length-set}
use Rattle.std.proofs.lemmas.{Bool.cases_Bool, List.length-replicate, List.map-append}
use Rattle.std.proofs.lemmas.{List.Elements.Contains-append_cases, List.Sums.fold-append}
use Rattle.std.specs.List.{range_with_len}
use Rattle.aeth_base.proofs.Members.{Contains-slice_get, flat_map-Contains, map-Contains}
use Rattle.aeth_chip.specs.{Chip.ChipData, Paths.delay_of}
use Rattle.aeth_ni.specs.Interface.{InterfaceState}
use Rattle.aeth_router.proofs.RowLemmas.{with_table-kept}
use Rattle.aeth_router.specs.Router.{new_router}
use Rattle.aeth_router.specs.Rows.{is_for, with_row, with_table, without_entries}
use Rattle.aeth_router.specs.TableRouter.{TableRouterState, new_table_router, place_from}
use Rattle.aeth_router.specs.declared.part.Part.{Part}
use Rattle.aeth_router.specs.declared.part.Part.TheVariants.{Interface, Router, Stage, TableRouter}
use Rattle.aeth_router.specs.declared.router_row.RouterRow.{RouterRow}
use Rattle.aeth_components.proofs.WiringLemmas.{from-map, views-map}
use Rattle.aeth_components.specs.Changes.{event_done, happened, on_interface, switched, with_part}
use Rattle.aeth_components.specs.Components.{ComponentsState, ComponentsCycle}
use Rattle.aeth_components.specs.Entering.{entered, with_rows}
use Rattle.aeth_components.specs.Events.{event_part}
use Rattle.aeth_components.specs.Making.{link_stages, made_interface, made_router, made_stage}
use Rattle.aeth_components.specs.Making.{made_stages, new_parts}
use Rattle.aeth_components.specs.declared.event.Event.{Event}
use Rattle.aeth_components.specs.declared.making.RouterKind.{RouterKind}
use Rattle.aeth_components.specs.declared.making.RouterKind.TheVariants.{ByHeader, ByTable}
use Rattle.aeth_accepted.specs.Inputs.{Inputs}
use Rattle.aeth_stimuli.proofs.WordWindows.{below-none}
use Rattle.aeth_refinement.proofs.Routed.{table-there, tables-kept, tables-switched}
use Rattle.aeth_refinement.specs.Routed.{table_in, without_table}
use Rattle.aeth_running.proofs.InOrder.{below-next}
use Rattle.aeth_running.specs.Routing.{ByHeaders, ByTables, Entering, IsRoutingFor, Routing}
use Rattle.aeth_running.specs.Routing.{entered_first, entered_with, enterings_in, kind_of, rows_at}
use Rattle.aeth_running.specs.Routing.{rows_before}

-- Where routers read headers there are no tables to be asked for.
pub headers-route : (inputs : Inputs) → IsRoutingFor inputs ByHeaders
headers-route inputs is = absurd (cc is)

-- A router with a table, in a network of that kind, is one of a chip's, with the entries of just these
-- rows, whatever flits it holds.
pub record IsTableOf (chip : ChipData) (kind : RouterKind) (rows : List RouterRow)
    (router : TableRouterState) : Type 0 where
  pub kind_is : kind ≡ ByTable
  pub number : ℕ
  pub is : record router { held = [] }
      ≡ record (with_table rows (new_table_router (record { 0 = number }) chip)) { held = [] }

-- So is each router with a table.
abbrev pub HaveTables : ChipData → RouterKind → List RouterRow → List Part → Type 0
HaveTables chip kind rows parts = (i : ℕ) (router : TableRouterState)
    → slice_get parts i ≡ Some (TableRouter router) → IsTableOf chip kind rows router

-- A router but for the flits that it holds.
abbrev bare : TableRouterState → TableRouterState
bare router = record router { held = [] }

-- Rows enter it alike.
bare-row : (router : TableRouterState) (row : RouterRow)
    → bare (with_row router row) ≡ with_row (bare router) row
bare-row router row = elim (cases_Bool (is_for router.number row)) [
  | inl own ↦ rw own refl
  | inr other ↦ rw other refl
]

bare-rows : (rows : List RouterRow) (router : TableRouterState)
    → bare (fold with_row router rows) ≡ fold with_row (bare router) rows
bare-rows [] router = refl
bare-rows (row ∷ rows) router =
    bare-rows rows (with_row router row)
    ∙ ap (λ (one : TableRouterState). fold with_row one rows) (bare-row router row)

bare-table : (rows : List RouterRow) (router : TableRouterState)
    → bare (with_table rows router) ≡ with_table rows (bare router)
bare-table rows router = bare-rows rows (without_entries router)

-- Of rows that enter one after the other the last count.
without-row : (router : TableRouterState) (row : RouterRow)
    → without_entries (with_row router row) ≡ without_entries router
without-row router row = elim (cases_Bool (is_for router.number row)) [
  | inl own ↦ rw own (ap (λ (size : ℕ). record router { entries = replicate size None })
      (length-set router.entries (row.port * router.slots + row.slot)
      (place_from router.links (Some row.from))))
  | inr other ↦ rw other refl
]

without-rows : (rows : List RouterRow) (router : TableRouterState)
    → without_entries (fold with_row router rows) ≡ without_entries router
without-rows [] router = refl
without-rows (row ∷ rows) router =
    without-rows rows (with_row router row) ∙ without-row router row

with_table-again : (router : TableRouterState) (rows others : List RouterRow)
    → with_table rows (with_table others router) ≡ with_table rows router
with_table-again router rows others =
    let none : Option ℕ = None in
    ap (λ (one : TableRouterState). fold with_row one rows)
    (without-rows others (without_entries router)
    ∙ ap (λ (size : ℕ). record router { entries = replicate size none })
    (length-replicate (length router.entries) none))

-- A change of components that keeps tables.
pub tables-same : (chip : ChipData) (kind : RouterKind) (rows : List RouterRow)
    (one other : List Part) → map table_in one ≡ map table_in other
    → HaveTables chip kind rows other → HaveTables chip kind rows one
tables-same chip kind rows one other same tables i router at =
    let own = table-there one other same i router at in
    let table = tables i own.0 own.1 in
    record { kind_is = table.kind_is; number = table.number; is = own.2 ∙ table.is }

-- Rows that enter.
entered-of : (rows : List RouterRow) (part : Part) (router : TableRouterState)
    → TableRouter router ≡ entered rows part
    → (own : TableRouterState) × (part ≡ TableRouter own) × (router ≡ with_table rows own)
entered-of rows (Interface ni) router is = absurd (cc is)
entered-of rows (Router own) router is = absurd (cc is)
entered-of rows (TableRouter own) router is = (own, refl, cc is)
entered-of rows (Stage stage) router is = absurd (cc is)

pub tables-enter : (chip : ChipData) (kind : RouterKind) (old rows : List RouterRow)
    (parts : List Part) → HaveTables chip kind old parts
    → HaveTables chip kind rows (with_rows rows parts)
tables-enter chip kind old rows parts tables i router at =
    let found = from-map (entered rows) parts i (TableRouter router) at in
    let own = entered-of rows found.0 router found.2 in
    let table = tables i own.0 (found.1 ∙ ap (λ (part : Part). Some part) own.1) in
    let new = new_table_router (record { 0 = table.number }) chip in
    record {
      kind_is = table.kind_is;
      number = table.number;
      is = ap bare own.2 ∙ bare-table rows own.0 ∙ ap (with_table rows) table.is
          ∙ sym (bare-table rows (with_table old new))
          ∙ ap bare (with_table-again new rows old);
    }

-- All that enter in a cycle.
abbrev rows_with : List RouterRow → Entering → List RouterRow
rows_with rows entering = entering.rows

tables-entered : (chip : ChipData) (kind : RouterKind) (enterings : List Entering)
    (rows : List RouterRow) (parts : List Part) → HaveTables chip kind rows parts
    → HaveTables chip kind (fold rows_with rows enterings) (fold entered_with parts enterings)
tables-entered chip kind [] rows parts tables = tables
tables-entered chip kind (entering ∷ enterings) rows parts tables =
    tables-entered chip kind enterings entering.rows (with_rows entering.rows parts)
    (tables-enter chip kind rows entering.rows parts tables)

-- Rows in force in a cycle are those before it, and then what enters in it.
rows-next : (inputs : Inputs) (routing : Routing) → IsRoutingFor inputs routing → (t : ℕ)
    → rows_at routing t ≡ fold rows_with (rows_before routing t) (enterings_in routing t)
rows-next inputs ByHeaders routes t = refl
rows-next inputs (ByTables first later) routes t =
    ap (fold rows_with first)
    (below-next (λ (entering : Entering). entering.cycle) t later (routes refl).order)
    ∙ fold-append rows_with first (filter (λ entering. nat_lt entering.cycle t) later)
    (filter (λ entering. entering.cycle == t) later)

-- So routers have these once they are ready for the cycle.
pub tables-ready : (inputs : Inputs) (routing : Routing) → IsRoutingFor inputs routing → (t : ℕ)
    (parts : List Part)
    → HaveTables inputs.chip (kind_of routing) (rows_before routing t) parts
    → HaveTables inputs.chip (kind_of routing) (rows_at routing t)
    (fold entered_with parts (enterings_in routing t))
tables-ready inputs routing routes t parts tables =
    subst (λ (rows : List RouterRow). HaveTables inputs.chip (kind_of routing) rows
    (fold entered_with parts (enterings_in routing t))) (sym (rows-next inputs routing routes t))
    (tables-entered inputs.chip (kind_of routing) (enterings_in routing t)
    (rows_before routing t) parts tables)

-- And behind it.
pub tables-behind : (chip : ChipData) (kind : RouterKind) (rows : List RouterRow)
    (events : List Event) (t : ℕ) (old new : ComponentsState) → ComponentsCycle events t old new
    → HaveTables chip kind rows old.parts → HaveTables chip kind rows new.parts
tables-behind chip kind rows events t old new cycle =
    tables-same chip kind rows new.parts old.parts (tables-kept events t old new cycle)

-- ---- before the first cycle

-- Nothing has entered by then.
none-early : (later : List Entering) → filter (λ entering. nat_lt entering.cycle 0) later ≡ []
none-early later = below-none (λ (entering : Entering). entering.cycle) 0 later
    (λ k default within. omega arith)

-- A fresh router with a table has no entries.
fresh-table : (chip : ChipData) (number : ℕ)
    → with_table [] (new_table_router (record { 0 = number }) chip)
    ≡ new_table_router (record { 0 = number }) chip
fresh-table chip number =
    let none : Option ℕ = None in
    let new = new_table_router (record { 0 = number }) chip in
    ap (λ (size : ℕ). record new { entries = replicate size none })
    (length-replicate (length new.outgoing * chip.slots) none)

made-table : (chip : ChipData) (kind : RouterKind) (number : ℕ) (router : TableRouterState)
    → made_router chip kind number ≡ TableRouter router → IsTableOf chip kind [] router
made-table chip ByHeader number router is = absurd (cc is)
made-table chip ByTable number router is =
    let same : router ≡ new_table_router (record { 0 = number }) chip = cc is in
    record {
      kind_is = refl;
      number = number;
      is = ap bare same ∙ ap bare (sym (fresh-table chip number));
    }

tables-made : (chip : ChipData) (kind : RouterKind) (rooms : List ℕ)
    → HaveTables chip kind [] (new_parts chip kind rooms)
tables-made chip kind rooms i router at =
    let interfaces = map (made_interface chip rooms) (range_with_len 0 (length chip.nis)) in
    let routers = map (made_router chip kind) (range_with_len 0 (length chip.routers)) in
    let stages = made_stages chip.links (length chip.links) in
    elim (Contains-append_cases (interfaces ++ routers) stages (TableRouter router)
    (Contains-slice_get (new_parts chip kind rooms) i (TableRouter router) at)) [
      | inl former ↦ elim (Contains-append_cases interfaces routers (TableRouter router) former) [
        | inl first ↦
            let (number, is, listed) = map-Contains (made_interface chip rooms)
            (range_with_len 0 (length chip.nis)) (TableRouter router) first in
            absurd (cc is)
        | inr second ↦
            let (number, is, listed) = map-Contains (made_router chip kind)
            (range_with_len 0 (length chip.routers)) (TableRouter router) second in
            made-table chip kind number router is
      ]
      | inr third ↦
          let (link, listed, own) = flat_map-Contains (link_stages chip.links)
          (range_with_len 0 (length chip.links)) (TableRouter router) third in
          let (place, is, there) = map-Contains (made_stage chip.links link)
          (range_with_len 0 (delay_of chip.links (record { 0 = link }) - 1)) (TableRouter router)
          own in
          absurd (cc is)
    ]

-- The events before the first cycle change no table.
pub tables-loaded : (chip : ChipData) (kind : RouterKind) (rooms : List ℕ) (events : List Event)
    → HaveTables chip kind [] (switched events (new_parts chip kind rooms))
tables-loaded chip kind rooms events =
    let made = new_parts chip kind rooms in
    tables-same chip kind [] (switched events made) made (tables-switched events made)
    (tables-made chip kind rooms)

-- Then the first rows have entered.
pub tables-first : (chip : ChipData) (routing : Routing) (rooms : List ℕ) (events : List Event)
    → HaveTables chip (kind_of routing) (rows_before routing 0)
    (entered_first routing (switched events (new_parts chip (kind_of routing) rooms)))
tables-first chip ByHeaders rooms events = tables-loaded chip ByHeader rooms events
tables-first chip (ByTables first later) rooms events =
    let made = new_parts chip ByTable rooms in
    subst (λ (rows : List RouterRow). HaveTables chip ByTable rows
    (with_rows first (switched events made)))
    (ap (fold rows_with first) (sym (none-early later)))
    (tables-enter chip ByTable [] first (switched events made)
    (tables-loaded chip ByTable rooms events))

-- ---- what entering leaves

without-entered : (rows : List RouterRow) (part : Part)
    → without_table (entered rows part) ≡ without_table part
without-entered rows (Interface ni) = refl
without-entered rows (Router router) = refl
without-entered rows (TableRouter router) =
    ap (λ (one : TableRouterState). without_table (TableRouter one)) (with_table-kept rows router)
without-entered rows (Stage stage) = refl

pub but-entered : (enterings : List Entering) (parts : List Part)
    → map without_table (fold entered_with parts enterings) ≡ map without_table parts
but-entered [] parts = refl
but-entered (entering ∷ enterings) parts =
    but-entered enterings (with_rows entering.rows parts)
    ∙ views-map without_table (entered entering.rows) (without-entered entering.rows) parts

-- Events change components alike.
interface-commutes : (change : InterfaceState → InterfaceState) (part : Part)
    → without_table (on_interface change part) ≡ on_interface change (without_table part)
interface-commutes change (Interface ni) = refl
interface-commutes change (Router router) = refl
interface-commutes change (TableRouter router) = refl
interface-commutes change (Stage stage) = refl

part-commutes : (number : ℕ) (change : InterfaceState → InterfaceState) (parts : List Part)
    → map without_table (with_part number (on_interface change) parts)
    ≡ with_part number (on_interface change) (map without_table parts)
part-commutes number change [] = refl
part-commutes zero change (part ∷ parts) =
    ap (λ (one : Part). one ∷ map without_table parts) (interface-commutes change part)
part-commutes (suc number) change (part ∷ parts) =
    ap (λ (others : List Part). without_table part ∷ others) (part-commutes number change parts)

switched-commutes : (events : List Event) (parts : List Part)
    → map without_table (switched events parts) ≡ switched events (map without_table parts)
switched-commutes [] parts = refl
switched-commutes (event ∷ events) parts =
    switched-commutes events (happened parts event)
    ∙ ap (switched events) (part-commutes (event_part event) (event_done event) parts)

-- Routers of both kinds are made alike.
routers-alike : (chip : ChipData) (kind : RouterKind) (numbers : List ℕ)
    → map without_table (map (made_router chip kind) numbers)
    ≡ map without_table (map (made_router chip ByHeader) numbers)
routers-alike chip kind [] = refl
routers-alike chip ByHeader (number ∷ numbers) = refl
routers-alike chip ByTable (number ∷ numbers) =
    ap (λ (others : List Part). Router (new_router (record { 0 = number }) chip.links) ∷ others)
    (routers-alike chip ByTable numbers)

parts-alike : (chip : ChipData) (kind : RouterKind) (rooms : List ℕ)
    → map without_table (new_parts chip kind rooms)
    ≡ map without_table (new_parts chip ByHeader rooms)
parts-alike chip kind rooms =
    let interfaces = map (made_interface chip rooms) (range_with_len 0 (length chip.nis)) in
    let stages = made_stages chip.links (length chip.links) in
    let numbers = range_with_len 0 (length chip.routers) in
    let apart = λ (kind : RouterKind).
    map-append without_table (interfaces ++ map (made_router chip kind) numbers) stages
    ∙ ap (λ (parts : List Part). parts ++ map without_table stages)
    (map-append without_table interfaces (map (made_router chip kind) numbers)) in
    apart kind
    ∙ ap (λ (routers : List Part). (map without_table interfaces ++ routers)
    ++ map without_table stages) (routers-alike chip kind numbers)
    ∙ sym (apart ByHeader)

-- So the components before the first cycle are those that read headers, but for their tables.
pub but-first : (routing : Routing) (chip : ChipData) (rooms : List ℕ) (events : List Event)
    → map without_table
    (entered_first routing (switched events (new_parts chip (kind_of routing) rooms)))
    ≡ map without_table (switched events (new_parts chip ByHeader rooms))
but-first ByHeaders chip rooms events = refl
but-first (ByTables first later) chip rooms events =
    let made = new_parts chip ByTable rooms in
    views-map without_table (entered first) (without-entered first) (switched events made)
    ∙ switched-commutes events made
    ∙ ap (switched events) (parts-alike chip ByTable rooms)
    ∙ sym (switched-commutes events (new_parts chip ByHeader rooms))
