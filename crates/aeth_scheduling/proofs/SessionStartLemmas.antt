-- Sessions that go within a run.
use Rattle.std.proofs.Common.{◌≡◌, ◌≤◌, ◌<◌, ◌+◌, ◌-◌, ◌++◌, ℕ, List, [], ◌∷◌, Some, append_assoc}
use Rattle.std.proofs.Common.{arith, drop, get_or, length, map, refl, take, nat_lt, length-drop}
use Rattle.std.proofs.Common.{take_all}
use Rattle.std.proofs.lemmas.{Bool.Decides.nat_tests, List.drop_more, List.Elements.filter-append}
use Rattle.aeth_group.specs.Members.{GroupsData}
use Rattle.aeth_trace.specs.Spans.{SpanData}
use Rattle.aeth_trace.specs.declared.{switches.SwitchRow.SwitchRow, words.WordRow.WordRow}
use Rattle.aeth_schedule.specs.SessionStarts.{session_start_by, session_start_within}
use Rattle.aeth_schedule.specs.SessionStarts.{session_starts_behind}
use Rattle.aeth_schedule.specs.Lines.{changed_lines, lines_at}
use Rattle.aeth_schedule.specs.declared.{session_start.SessionStart.SessionStart, lines.Line.Line}

-- Sessions that go past the end are none of the run's.
pub session_start-late : {X : Type 0} (f : X → SessionStart) (end go : ℕ) (xs : List X)
    → ((x : X) → (f x).channel_state.go ≡ go) → end ≤ go → session_start_within end (map f xs) ≡ []
session_start-late f end go [] at late = refl
session_start-late f end go (x ∷ xs) at late =
    let later = session_start-late f end go xs at late in
    let here = at x in
    grind (arith, nat_tests)

-- Those that go earlier are all the run's.
pub session_start-early : {X : Type 0} (f : X → SessionStart) (end go : ℕ) (xs : List X)
    → ((x : X) → (f x).channel_state.go ≡ go) → go < end
    → session_start_within end (map f xs) ≡ map f xs
session_start-early f end go [] at early = refl
session_start-early f end go (x ∷ xs) at early =
    let later = session_start-early f end go xs at early in
    let here = at x in
    grind (arith, nat_tests)

module _ (groups : GroupsData) (spans : SpanData) (all : List (List Line)) (words : List WordRow)
    (cycles : ℕ) where
  -- The sessions that a row of a list opens, the rows that follow it.
  abbrev pub opened_at : ℕ → SwitchRow → List SwitchRow → List SessionStart
  opened_at from row later =
      map (session_start_by groups spans all words cycles
      (Some (record { leaves = from; row = row }))
      row.to.0 later) (changed_lines groups from row.to.0 (lines_at all row.to.0))

  -- Those of a list of rows from a place on are those of the row there, and those of the others.
  pub session_starts-next : (from place : ℕ) (rows : List SwitchRow) (default : SwitchRow)
      (before after : List SessionStart) → place < length rows
      → after ≡ before ++ session_start_within cycles (opened_at from (get_or rows place default)
      (take (length rows - (place + 1)) (drop (place + 1) rows)))
      → after ++ session_start_within cycles (session_starts_behind groups spans all words cycles
      (get_or rows place default).to.0 (drop (place + 1) rows))
      ≡ before ++ session_start_within cycles
      (session_starts_behind groups spans all words cycles from
      (drop place rows))
  session_starts-next from place rows default before after within is =
      let row = get_or rows place default in
      let rest = drop (place + 1) rows in
      let opened = opened_at from row rest in
      let behind = session_starts_behind groups spans all words cycles row.to.0 rest in
      rw (
        is,
        take_all (length rows - (place + 1)) rest (omega (arith, length-drop (place + 1) rows)),
        drop_more rows place default within,
        filter-append (λ (one : SessionStart). nat_lt one.channel_state.go cycles) opened behind,
        append_assoc before (session_start_within cycles opened)
            (session_start_within cycles behind),
      ) refl
