-- The text of certificates and their verdicts, try by try.
use Rattle.std.proofs.Common.{◌≡◌, ◌∙◌, ◌+◌, ◌≤◌, ◌++◌, ◌∷◌, [], ℕ, List, Some, ap, append_assoc}
use Rattle.std.proofs.Common.{arith, drop, get_or, length, map, subst, sym, take, AllPairs, codes}
use Rattle.std.proofs.Common.{option_map, slice_get, unwrap_or, append-nil}
use Rattle.std.proofs.lemmas.{Option.get_or_from_slice_get, Option.slice_get_within}
use Rattle.std.proofs.lemmas.{Grind.flat_map-append, List.drop_all, List.map-append}
use Rattle.aeth_alloc.specs.Trials.{GoesOn, earlier_count, refused_of}
use Rattle.aeth_alloc.specs.declared.outcome.Refused.{Refused}
use Rattle.aeth_app.specs.App.{AppData}
use Rattle.aeth_base.proofs.Lists.{drop-slice_get, option_map-some, take-slice_get}
use Rattle.aeth_base.specs.declared.ids.LinkId.{LinkId}
use Rattle.aeth_explain.specs.CutsText.{block_lines, blocks_lines, cuts_text, line_of}
use Rattle.aeth_explain.specs.SlotTables.{AreTables, SlotTablesData, is_occupied}
use Rattle.aeth_explain.specs.Verdict.{verdict_of}
use Rattle.aeth_explain.specs.declared.try_line.TryLine.{TryLine}
use Rattle.aeth_group.specs.{Members.groups_of, Tables.IsTable, declared.grant.Grant.Grant}
use Rattle.aeth_paths.specs.Trials.{TrialData}
use Rattle.aeth_plan.specs.declared.design.Design.{Design}
use Rattle.aeth_text.specs.{Order.line_after, Spelling.ended_line, Spelling.text_of_lines}
use Rattle.aeth_explain_commands.specs.Explain.{AreBehind, flaw_of, verdicts_job}

-- The line of one try more.
pub lines-more : (tries : List TrialData) (i : ℕ) (refused : Refused)
    → option_map refused_of (slice_get tries i) ≡ Some refused
    → map line_of (take (i + 1) tries) ≡ map line_of (take i tries)
    ++ record { unit = refused.unit; side = refused.side; turn = refused.turn } ∷ []
lines-more tries i refused told =
    let (trial, at, same) = option_map-some refused_of (slice_get tries i) refused told in
    let line : line_of trial ≡ record { unit = refused.unit; side = refused.side; turn = refused.turn } =
    ap (λ (r : Refused). record { unit = r.unit; side = r.side; turn = r.turn }) same in
    ap (map line_of) (take-slice_get tries i trial at)
    ∙ map-append line_of (take i tries) (trial ∷ [])
    ∙ ap (λ (l : TryLine). map line_of (take i tries) ++ l ∷ []) line

module _ (app : AppData) (cuts : TrialData → List (List LinkId)) (tries : List TrialData) where
  -- The lines of the blocks of some tries.
  abbrev pub blocks : List TrialData → List (List ℕ)
  blocks ts = blocks_lines app (map line_of ts) (map cuts ts)

  -- One block more was printed.
  pub text-more : (i : ℕ) (trial : TrialData) (text new : List ℕ) → slice_get tries i ≡ Some trial
      → new ≡ text ++ text_of_lines (block_lines app (line_of trial) (cuts trial))
      → new ++ text_of_lines (blocks (drop (i + 1) tries))
      ≡ text ++ text_of_lines (blocks (drop i tries))
  text-more i trial text new at is =
      let own = block_lines app (line_of trial) (cuts trial) in
      let later = blocks (drop (i + 1) tries) in
      ap (λ t. t ++ text_of_lines later) is
      ∙ append_assoc text (text_of_lines own) (text_of_lines later)
      ∙ ap (λ t. text ++ t) (sym (flat_map-append ended_line own later))
      ∙ ap (λ (ts : List TrialData). text ++ text_of_lines (blocks ts))
      (sym (drop-slice_get tries i trial at))

  -- All were, and the end.
  pub text-whole : (i : ℕ) (head text out : List ℕ) → head ≡ ended_line (codes "explain 1")
      → text ++ text_of_lines (blocks (drop i tries)) ≡ head ++ text_of_lines (blocks tries)
      → length tries ≤ i → out ≡ text ++ ended_line (codes "end")
      → out ≡ cuts_text app (map line_of tries) (map cuts tries)
  unfolding cuts_text
  text-whole i head text out first so_far all is =
      let none : drop i tries ≡ [] = drop_all i tries all in
      let whole : text ≡ head ++ text_of_lines (blocks tries) =
      sym (append-nil text)
      ∙ ap (λ (ts : List TrialData). text ++ text_of_lines (blocks ts)) (sym none) ∙ so_far in
      is ∙ ap (λ t. t ++ ended_line (codes "end")) whole
      ∙ append_assoc head (text_of_lines (blocks tries)) (ended_line (codes "end"))
      ∙ ap (λ h. h ++ (text_of_lines (blocks tries) ++ ended_line (codes "end"))) first
      ∙ ap (λ t. ended_line (codes "explain 1") ++ t)
      (sym (flat_map-append ended_line (blocks tries) (codes "end" ∷ [])))

-- What is left comes to the verdict on the next, or to what is left after it.
pub verdicts-step : (design : Design) (line i : ℕ) (tries : List TrialData)
    (blocks : List (List (List LinkId))) (trial : TrialData) (own : List (List LinkId))
    → slice_get tries i ≡ Some trial → slice_get blocks i ≡ Some own
    → verdicts_job design line (drop i tries) (drop i blocks)
    ≡ unwrap_or (flaw_of design.app line trial
    (verdict_of design.chip (groups_of design.app) trial own))
    (verdicts_job design (line_after line (1 + length own)) (drop (i + 1) tries)
    (drop (i + 1) blocks))
verdicts-step design line i tries blocks trial own at its =
    ap (λ (ts : List TrialData). verdicts_job design line ts (drop i blocks))
    (drop-slice_get tries i trial at)
    ∙ ap (λ (bs : List (List (List LinkId))). verdicts_job design line (trial ∷ drop (i + 1) tries) bs)
    (drop-slice_get blocks i own its)

-- Slot tables without grants are behind all tries.
pub first-tables : (design : Design) (tries : List TrialData) (tables : SlotTablesData)
    → tables.count ≡ 0
    → ((grants : List Grant) → AreTables design.chip (groups_of design.app) grants tables)
    → AreBehind design tries 0 tables
first-tables design tries tables none are k trial from at = (
  omega (arith, none),
  are trial.grants,
)

-- Tables with the grants before a try's turn are behind the tries that come later.
pub behind-next : (design : Design) (tries : List TrialData) (i : ℕ) (trial : TrialData)
    (tables : SlotTablesData) → AllPairs GoesOn tries → slice_get tries i ≡ Some trial
    → tables.count ≡ earlier_count trial
    → AreTables design.chip (groups_of design.app) trial.grants tables
    → AreBehind design tries (i + 1) tables
behind-next design tries i trial tables go_on at count are k later from its =
    let low = slice_get_within tries k later its in
    let first : get_or tries i trial ≡ trial = get_or_from_slice_get tries i trial trial at in
    let second : get_or tries k trial ≡ later = get_or_from_slice_get tries k later trial its in
    let goes : GoesOn trial later =
    rw (← first, ← second) (go_on i k trial (omega (arith, from)) low) in
    let more : earlier_count later ≤ length later.grants = omega arith in (
      omega (arith, count, goes.more),
      record {
        within = omega (arith, count, goes.more, more);
        rows = are.rows;
        table = subst (λ (grants : List Grant). IsTable design.chip.slots (length design.chip.links)
            (is_occupied design.chip.links (groups_of design.app) grants) tables.masks)
            (ap (λ n. take n trial.grants) count ∙ sym goes.same
            ∙ sym (ap (λ n. take n later.grants) count)) are.table;
      },
    )
