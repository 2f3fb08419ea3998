-- Rows that enter the tables of a network's routers, and those of use cases.
use Rattle.std.proofs.Common.{◌≡◌, ◌<◌, ◌∙◌, ℕ, All, List, [], ◌∷◌, ap, fold, length, map, refl}
use Rattle.std.proofs.Common.{subst, sym, true, Ok}
use Rattle.std.proofs.lemmas.List.{length-map}
use Rattle.std.proofs.lemmas.List.Elements.{All-cons, All-head, All-map, All-nil, All-tail}
use Rattle.std.proofs.lemmas.List.Elements.{All-weaker}
use Rattle.aeth_router.proofs.RowLemmas.{row-fits}
use Rattle.aeth_router.specs.Rows.{IsRowFor, is_for, with_table}
use Rattle.aeth_router.specs.declared.part.Part.{Part}
use Rattle.aeth_router.specs.declared.part.Part.TheVariants.{Interface, Router, Stage, TableRouter}
use Rattle.aeth_router.specs.declared.router_row.RouterRow.{RouterRow}
use Rattle.aeth_trace.specs.{Spans.SpanData, Switches.is_first_at_zero}
use Rattle.aeth_trace.specs.{declared.switches.SwitchRow.SwitchRow}
use Rattle.aeth_components.specs.Entering.{TakesRows, entered, with_rows}
use Rattle.aeth_accepted.specs.Inputs.{Inputs, run_of}
use Rattle.aeth_running.proofs.PlayedTables.{later-fit, played-tables, tables-take}
use Rattle.aeth_running.proofs.RouterTables.{HaveTables}
use Rattle.aeth_running.specs.Network.{NetworkState}
use Rattle.aeth_running.specs.Routing.{AreRowsOn, Entering, entered_with, kind_of, later_rows}
use Rattle.aeth_running.specs.Routing.{rows_before}
use Rattle.aeth_schedule.specs.{Switching.later_switches, Switching.switches_from}
use Rattle.aeth_schedule.specs.{Schedule.ScheduleData, Schedule.schedule_of, Windows.window_by}
use Rattle.aeth_schedule.specs.{Windows.windows_over, declared.windows.Window.Window}
use Rattle.aeth_network.specs.Routes.{entered_by, entered_in, entered_use, first_use, later_uses}
use Rattle.aeth_network.specs.Runs.{IsNetworkOf}
use Rattle.aeth_network.specs.declared.tables.EnteredUse.{EnteredUse}

-- The later rows of a network of accepted inputs can enter the tables of its routers.
pub later-takes : (inputs : Inputs) (all : NetworkState) → IsNetworkOf inputs all
    → All (λ entering. All (TakesRows entering.rows) all.components.parts) (later_rows all.routing)
later-takes inputs all of =
    let kind = kind_of all.routing in
    let before = rows_before all.routing all.time in
    let tables : HaveTables inputs.chip kind before all.components.parts =
    subst (λ (one : NetworkState). HaveTables inputs.chip kind before one.components.parts)
    (sym of.is) (played-tables inputs all.routing of.routed all.time) in
    All-weaker (λ (entering : Entering). AreRowsOn inputs.chip entering.rows)
    (λ (entering : Entering). All (TakesRows entering.rows) all.components.parts)
    (λ entering fit. tables-take inputs.chip entering.rows fit kind before all.components.parts tables)
    (later_rows all.routing) (later-fit inputs all.routing of.routed)

-- Components are as many as before.
size-with : (enterings : List Entering) (parts : List Part)
    → length (fold entered_with parts enterings) ≡ length parts
size-with [] parts = refl
size-with (entering ∷ enterings) parts =
    size-with enterings (with_rows entering.rows parts) ∙ length-map parts (entered entering.rows)

pub size-entered : (enterings : List Entering) (old brought now : List Part) → brought ≡ old
    → now ≡ fold entered_with brought enterings → length now ≡ length old
size-entered enterings old brought now is enters =
    ap length enters ∙ size-with enterings brought ∙ ap length is

-- Rows that can enter can so once others have.
part-takes : (rows others : List RouterRow) (part : Part) → TakesRows rows part
    → TakesRows rows (entered others part)
part-takes rows others (Interface ni) takes = tt
part-takes rows others (Router router) takes = tt
part-takes rows others (TableRouter router) takes =
    All-weaker (λ row. is_for router.number row ≡ true → IsRowFor router row)
    (λ row. is_for (with_table others router).number row ≡ true
    → IsRowFor (with_table others router) row)
    (λ row. row-fits others router (with_table others router) row refl) rows takes
part-takes rows others (Stage stage) takes = tt

pub takes-still : (rows_of : ℕ → List RouterRow) (rows : List RouterRow) (uses : List EnteredUse)
    (parts : List Part) → All (TakesRows rows) parts
    → All (TakesRows rows) (fold (entered_use rows_of) parts uses)
takes-still rows_of rows [] parts takes = takes
takes-still rows_of rows (one ∷ uses) parts takes =
    let others = rows_of one.entered.0 in
    takes-still rows_of rows uses (with_rows others parts)
    (All-map (TakesRows rows) (entered others) parts
    (All-weaker (TakesRows rows) (λ part. TakesRows rows (entered others part))
    (part-takes rows others) parts takes))

-- What holds of the use cases of rows holds of those that their switches enter, and of the one that is loaded.
module _ (spans : SpanData) (P : ℕ → Type 0) where
  uses-all : (u : ℕ) (rows : List SwitchRow) → All (λ row. P row.to.0) rows
      → All (λ one. P one.entered.0) (map (entered_by spans) (switches_from u rows))
  uses-all u [] all = All-nil (λ (one : EnteredUse). P one.entered.0)
  uses-all u (row ∷ rows) all =
      let fits = λ (one : SwitchRow). P one.to.0 in
      All-cons (λ (one : EnteredUse). P one.entered.0)
      (entered_by spans (record { leaves = u; row = row }))
      (map (entered_by spans) (switches_from row.to.0 rows)) (All-head fits row rows all)
      (uses-all row.to.0 rows (All-tail fits row rows all))

  pub later-all : (rows : List SwitchRow) → All (λ row. P row.to.0) rows
      → All (λ one. P one.entered.0) (map (entered_by spans) (later_switches rows))
  later-all [] all = All-nil (λ (one : EnteredUse). P one.entered.0)
  later-all (first ∷ rows) all =
      uses-all first.to.0 rows (All-tail (λ (one : SwitchRow). P one.to.0) first rows all)

pub first-all : (P : ℕ → Type 0) (rows : List SwitchRow) → is_first_at_zero rows ≡ Ok tt
    → All (λ row. P row.to.0) rows → P (first_use rows)
first-all P [] first all = absurd (cc first)
first-all P (row ∷ rows) first all = All-head (λ (one : SwitchRow). P one.to.0) row rows all

-- By the windows of switches the same use cases are entered, in the same cycles.
uses-by : (spans : SpanData) (u : ℕ) (rows : List SwitchRow)
    → entered_in (map (window_by spans) (switches_from u rows)) rows
    ≡ map (entered_by spans) (switches_from u rows)
uses-by spans u [] = refl
uses-by spans u (row ∷ rows) =
    ap (λ (uses : List EnteredUse). entered_by spans (record { leaves = u; row = row }) ∷ uses)
    (uses-by spans row.to.0 rows)

uses-windowed : (spans : SpanData) (rows : List SwitchRow)
    → later_uses (windows_over spans rows) rows ≡ map (entered_by spans) (later_switches rows)
uses-windowed spans [] = refl
uses-windowed spans (first ∷ rows) = uses-by spans first.to.0 rows

-- So it is by the windows of a schedule.
pub uses-scheduled : (inputs : Inputs) (schedule : ScheduleData) (windows : List Window)
    (rows : List SwitchRow) (uses : List EnteredUse) → schedule ≡ schedule_of inputs
    → windows ≡ schedule.windows → rows ≡ inputs.switches → uses ≡ later_uses windows rows
    → uses ≡ map (entered_by (run_of inputs).spans) (later_switches inputs.switches)
uses-scheduled inputs schedule windows rows uses scheduled windows_are rows_are is =
    is ∙ ap (later_uses windows) rows_are
    ∙ ap (λ (all : List Window). later_uses all inputs.switches)
    (windows_are ∙ ap (λ (one : ScheduleData). one.windows) scheduled)
    ∙ uses-windowed (run_of inputs).spans inputs.switches
