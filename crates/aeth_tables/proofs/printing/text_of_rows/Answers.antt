use Rattle.std.proofs.Common.{◌≡◌, ◌∙◌, ◌++◌, ℕ, List, All, length, sym, ap, subst, ◌==◌, codes}
use Rattle.std.proofs.lemmas.List.Elements.{All-filter}
use Rattle.aeth_plan.specs.Plan.{name_at}
use Rattle.aeth_text.specs.Spelling.{ended_line, text_of_lines}
use Rattle.aeth_trace.specs.Switches.{use_names}
use Rattle.aeth_tables.specs.Lines.{head_line}
use Rattle.aeth_tables.specs.TableText.{AreOwn, HasTableOf, NamesConnection, entries_with}
use Rattle.aeth_tables.specs.TableText.{entry_lines, listed_entries, listed_queues, queue_lines}
use Rattle.aeth_tables.specs.TableText.{queues_with}
use Rattle.aeth_tables.specs.declared.promised.PromisedRow.{PromisedRow}
use Rattle.aeth_tables.proofs.{OwnRows.Lists, OwnRows.listed, TextLaws.text-all}
use Rattle.aeth_tables.proofs.printing.text_of_rows.Goals as goal

own_of : (nis count : ℕ) (rows : List PromisedRow) (lists shown : Lists) → count ≡ nis
    → AreOwn count rows lists → shown ≡ lists → AreOwn nis rows shown
own_of nis count rows lists shown all own same =
    subst (λ (ls : Lists). AreOwn nis rows ls) (sym same)
    (subst (λ (n : ℕ). AreOwn n rows lists) all own)

-- The lists have rows that name what there is.
pub push_entries-requires-clause-rows : goal.push_entries-requires-clause-rows
push_entries-requires-clause-rows c = λ ni within.
    let rows = c.args.rows.now in
    let own = own_of (length c.args.chip.now.nis) c.nis.result rows c.in_ok-lists.lists.items
    c.deref.result.now c.nis.ensures.nis c.in_ok-lists.ensures.own c.deref.ensures.value in
    subst (λ xs. All (HasTableOf c.args.chip.now) xs) (sym (own ni within))
    (All-filter (λ (one : PromisedRow). one.row.ni.0 == ni) (HasTableOf c.args.chip.now) rows
    c.requires.sizes)

pub push_queues-requires-clause-rows : goal.push_queues-requires-clause-rows
push_queues-requires-clause-rows c = λ ni within.
    let rows = c.args.rows.now in
    let own = own_of (length c.args.chip.now.nis) c.nis.result rows c.in_ok-lists.lists.items
    c.deref-2.result.now c.nis.ensures.nis c.in_ok-lists.ensures.own c.deref-2.ensures.value in
    subst (λ xs. All (NamesConnection c.args.app.now) xs) (sym (own ni within))
    (All-filter (λ (one : PromisedRow). one.row.ni.0 == ni) (NamesConnection c.args.app.now) rows
    c.requires.names)

-- All lines were printed.
pub returns : goal.returns
returns c =
    let chip = c.args.chip.now in
    let app = c.args.app.now in
    let rows = c.args.rows.now in
    let nis = length chip.nis in
    let first = c.deref.result.now in
    let second = c.deref-2.result.now in
    let head = head_line (name_at (use_names app) c.args.u.0) in
    let entries : listed_entries chip first ≡ entry_lines chip rows =
    listed (entries_with chip) nis rows first (own_of nis c.nis.result rows
    c.in_ok-lists.lists.items first c.nis.ensures.nis c.in_ok-lists.ensures.own
    c.deref.ensures.value) in
    let queues : listed_queues chip app second ≡ queue_lines chip app rows =
    listed (queues_with chip app) nis rows second (own_of nis c.nis.result rows
    c.in_ok-lists.lists.items second c.nis.ensures.nis c.in_ok-lists.ensures.own
    c.deref-2.ensures.value) in
    let used : c.push_use.new.out.items ≡ ended_line head =
    c.in_ok-push_use.ensures ∙ ap (λ text. text ++ ended_line head) c.new-out.ensures.items in
    let entered : c.push_entries.new.out.items
    ≡ ended_line head ++ text_of_lines (entry_lines chip rows) =
    c.in_ok-push_entries.ensures
    ∙ ap (λ text. text ++ text_of_lines (listed_entries chip first)) used
    ∙ ap (λ lines. ended_line head ++ text_of_lines lines) entries in
    let queued : c.push_queues.new.out.items ≡ (ended_line head
    ++ text_of_lines (entry_lines chip rows)) ++ text_of_lines (queue_lines chip app rows) =
    c.in_ok-push_queues.ensures
    ∙ ap (λ text. text ++ text_of_lines (listed_queues chip app second)) entered
    ∙ ap (λ lines. (ended_line head ++ text_of_lines (entry_lines chip rows))
    ++ text_of_lines lines) queues in
    c.in_ok-extend_from_slice.ensures.items
    ∙ ap (λ text. text ++ ended_line (codes "end")) queued
    ∙ sym (text-all head (codes "end") (entry_lines chip rows) (queue_lines chip app rows))
