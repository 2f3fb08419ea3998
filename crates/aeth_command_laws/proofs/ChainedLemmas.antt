-- What `chain` prints is the log of a chain whose words have landed when they are due.
use Rattle.std.proofs.Common.{◌≡◌, ◌<◌, ℕ, List, [], Option, Some, length, sym, Ok, codes}
use Rattle.std.proofs.lemmas.Option.{same_Some}
use Rattle.aeth_accepted.specs.Inputs.{Inputs, inputs_with}
use Rattle.aeth_answers.specs.{Job.Job, Status.done_status, Task.job_with}
use Rattle.aeth_app.specs.App.{AppData}
use Rattle.aeth_base.specs.declared.ids.UseId.{UseId}
use Rattle.aeth_chain.specs.{Chain.IsChain, Chain.legs_of, ChainBounds.AreDueWordsLanded}
use Rattle.aeth_chain.specs.{ChainInputs.AreTabled, declared.item.ChainItem.ChainItem}
use Rattle.aeth_chain.specs.{ChainItems.items_of, ItemNames.AreItemNames, Shapes.AreShapesIn}
use Rattle.aeth_chain.specs.{Shapes.shapes_in, declared.names.ItemName.ItemName}
use Rattle.aeth_chip.specs.Chip.{ChipData}
use Rattle.aeth_files.proofs.ToldLemmas.{file_kept}
use Rattle.aeth_group.specs.Members.{groups_of}
use Rattle.aeth_plan.specs.{Plan.PlanData, Design.IsDesign}
use Rattle.aeth_plan_commands.specs.Chain.{chain_job, chain_task, items_task, named_task}
use Rattle.aeth_plan_commands.specs.Chain.{planned_task, words_task}
use Rattle.aeth_plan_commands.specs.declared.chain.ChainFiles.{ChainFiles}
use Rattle.aeth_server.specs.declared.shape.ChannelShape.{ChannelShape}
use Rattle.aeth_tables.specs.Tables.{tables_of}
use Rattle.aeth_trace.specs.{Receivers.receivers_of, Words.AreWordsOf, Words.words_of}
use Rattle.aeth_command_laws.specs.Chained.{IsChained}
use Rattle.aeth_command_laws.proofs.ToldLemmas.{FilesTell, RunsTell, design_kept, not_refused}
use Rattle.aeth_command_laws.proofs.ToldLemmas.{plan_kept, use_kept, value_kept}

-- What holds of items, and of chains.
pub record ChainsTell : Type 0 where
  pub chain : (chip : ChipData) (app : AppData) (plan : PlanData) → IsDesign chip app plan
      → (u : UseId) → u.0 < length app.uses → (names : List ItemName) (items : List ChainItem)
      → AreItemNames names → items_of app u.0 names ≡ Ok items
      → IsChain items (shapes_in (tables_of chip app (groups_of app) plan u) items)
  pub tabled : (chip : ChipData) (app : AppData) (plan : PlanData) → IsDesign chip app plan
      → (u : UseId) → u.0 < length app.uses → (names : List ItemName) (items : List ChainItem)
      → AreItemNames names → items_of app u.0 names ≡ Ok items
      → AreShapesIn (tables_of chip app (groups_of app) plan u) items
      (shapes_in (tables_of chip app (groups_of app) plan u) items)
  pub lands : (inputs : Inputs) (u : UseId) (items : List ChainItem) (shapes : List ChannelShape)
      → AreTabled inputs u items shapes → IsChain items shapes → AreWordsOf inputs.app inputs.words
      → AreDueWordsLanded (legs_of items shapes) inputs.words inputs.pulls inputs.cycles

-- A job of `chain` that is done is the log of a chain that was told.
pub chained : FilesTell → RunsTell → ChainsTell → (content : List ℕ → Option (List ℕ))
    (files : ChainFiles) (name : List ℕ) (names : List ItemName) (cycles : ℕ) (asked : Job)
    → AreItemNames names → job_with content (chain_task files name names cycles) ≡ Some asked
    → asked.status ≡ done_status → IsChained content files name names cycles asked
chained tell runs_tell chains content files name names cycles asked are is finished =
    let kept = not_refused tell runs_tell content asked finished in
    let (design, given, on_use) = design_kept tell content asked kept files.chip files.app
    (λ design. named_task design files name names cycles) is in
    let (u, named, known, on_items) = use_kept content asked kept design.app name
    (λ u. items_task design files u names cycles) on_use in
    let (items, of_items, on_plan) = value_kept content asked kept (codes "chain")
    (items_of design.app u.0 names) (λ items. planned_task design files u items cycles) on_items in
    let (plan, planned, on_words) = plan_kept tell runs_tell content asked finished files.chip
    files.app files.plan design given (λ plan. words_task design files plan u items cycles) on_plan in
    let (words, of_words, on_pulls) =
    file_kept content asked kept (codes "words") (words_of design.app) files.words _ on_words in
    let (pulls, of_pulls, at_end) =
    file_kept content asked kept (codes "receivers") (receivers_of design.app) files.receivers _
    on_pulls in
    let shapes = shapes_in (tables_of design.chip design.app (groups_of design.app) plan u) items in
    let inputs : Inputs = inputs_with design.chip design.app plan words pulls [] cycles in
    let tabled : AreTabled inputs u items shapes = record {
      design = planned.accepted;
      of_chip = given.of_chip;
      use_case = known;
      tabled = chains.tabled design.chip design.app plan planned.accepted u known names items are
          of_items;
    } in
    record {
      chain = record {
        design = design;
        plan = plan;
        use_case = u;
        items = items;
        words = words;
        pulls = pulls;
      };
      told = record {
        plan = planned;
        named = named;
        items = of_items;
        words = of_words;
        receivers = of_pulls;
      };
      job_is = sym (same_Some (chain_job design plan u items cycles words pulls) asked at_end);
      lands = chains.lands inputs u items shapes tabled
          (chains.chain design.chip design.app plan planned.accepted u known names items are of_items)
          (runs_tell.words design.app of_words.bytes words of_words.told);
    }
