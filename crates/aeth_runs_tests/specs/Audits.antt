-- Worked audits: what is to be answered for logs of the links of the worked designs.
use Rattle.std.proofs.Common.{◌≡◌, ℕ, List, [], ◌∷◌, map}
use Rattle.aeth_trace.specs.{Spans.SpanData, declared.switches.SwitchRow.SwitchRow}
use Rattle.aeth_reconf.specs.Timeline.{timeline_of}
use Rattle.aeth_report.specs.Design.{Design}
use Rattle.aeth_audit.specs.Audit.{audit_of}
use Rattle.aeth_audit.specs.declared.verdict.Audit.{Audit, TheVariants.Clean, TheVariants.Fault}
use Rattle.aeth_audit.specs.declared.row.LinkRow.{LinkRow}
use Rattle.aeth_runs_tests.specs.Designs.{one_design, one_spans, slow_design, two_design, two_spans}
use Rattle.aeth_runs_tests.specs.Traces.{switch}

-- A row: a cycle, a link, and the three words of a flit.
abbrev row : ℕ → ℕ → ℕ → ℕ → ℕ → LinkRow
row cycle link header first second = record {
  cycle = cycle;
  link = record { 0 = link };
  flit = record { header = header; first = first; second = second };
}

-- For each log, and the end of its audit, this is what is answered.
abbrev AreAudited : Design → SpanData → List SwitchRow → List (List LinkRow × ℕ × Audit) → Type 0
AreAudited design spans switches cases =
    map (λ one. audit_of design (timeline_of design.groups spans switches) one.0 one.1) cases
    ≡ map (λ one. one.2) cases

-- Two words from the first interface to the second, at the three links of their path.
abbrev first : LinkRow
first = row 4 0 2147483649 100 101

abbrev second : LinkRow
second = row 5 4 2147483648 100 101

abbrev third : LinkRow
third = row 6 3 2147483648 100 101

abbrev rest : List LinkRow
rest = second ∷ third ∷ []

abbrev whole : List LinkRow
whole = first ∷ rest

-- A flit that begins again.
abbrev again : List LinkRow
again = first ∷ second ∷ third ∷ row 12 0 2147483649 100 101 ∷ []

abbrev pub OneConnection : Type 0
OneConnection = AreAudited one_design one_spans (switch 0 0 ∷ [])
    ((whole, 7, Clean)
    ∷ ([], 7, Clean)
    -- Its last hop is missing.
    ∷ (first ∷ second ∷ [], 7, Fault 3 2)
    ∷ (first ∷ second ∷ [], 6, Clean)
    -- It enters in a slot of nobody.
    ∷ (row 5 0 2147483649 100 101 ∷ rest, 7, Fault 1 1)
    -- The route of its first flit is that behind a hop.
    ∷ (row 4 0 2147483648 100 101 ∷ rest, 7, Fault 2 1)
    -- The route stays as it was.
    ∷ (first ∷ row 5 4 2147483649 100 101 ∷ third ∷ [], 7, Fault 3 1)
    ∷ (first ∷ second ∷ row 6 3 2147483649 100 101 ∷ [], 7, Fault 3 2)
    ∷ (first ∷ second ∷ row 6 3 2147483649 100 101 ∷ [], 6, Clean)
    -- A word changes on its way.
    ∷ (first ∷ row 5 4 2147483648 7 101 ∷ third ∷ [], 7, Fault 3 1)
    -- Another queue; neither word nor credit; three words; a word beyond the count.
    ∷ (row 4 0 2149580801 100 101 ∷ rest, 7, Fault 2 1)
    ∷ (row 4 0 1 0 0 ∷ rest, 7, Fault 2 1)
    ∷ (row 4 0 3221225473 100 101 ∷ rest, 7, Fault 2 1)
    ∷ (row 4 0 1073741825 100 101 ∷ rest, 7, Fault 2 1)
    -- It comes from nowhere.
    ∷ (rest, 7, Fault 3 1)
    -- In the last cycle before the end it needn't go on.
    ∷ (again, 13, Clean)
    ∷ (again, 14, Fault 3 4)
    ∷ [])

-- The link between the routers takes two cycles.
abbrev pub LinkWithDelay : Type 0
LinkWithDelay = AreAudited slow_design one_spans (switch 0 0 ∷ [])
    ((row 2 0 2147483649 1 2 ∷ row 3 4 2147483648 1 2 ∷ row 5 3 2147483648 1 2 ∷ [], 6, Clean)
    ∷ (row 2 0 2147483649 1 2 ∷ row 3 4 2147483648 1 2 ∷ row 4 3 2147483648 1 2 ∷ [], 6, Fault 3 2)
    ∷ [])

-- Two words of the second connection, which are injected in cycle 9.
abbrev later : List LinkRow
later = row 9 0 2149580801 200 201 ∷ row 10 4 2149580800 200 201
    ∷ row 11 3 2149580800 200 201 ∷ []

-- It goes in cycle 9, and in cycle 10; a flit of the first connection in its slot.
abbrev pub ConnectionOpened : Type 0
ConnectionOpened = AreAudited two_design two_spans (switch 0 0 ∷ switch 5 1 ∷ [])
    ((later, 12, Clean)
    ∷ (row 9 0 2147483649 200 201 ∷ row 10 4 2147483648 200 201 ∷ [], 11, Fault 2 1) ∷ [])

abbrev pub ConnectionNotOpened : Type 0
ConnectionNotOpened = AreAudited two_design two_spans (switch 0 0 ∷ switch 6 1 ∷ [])
    ((later, 12, Fault 1 1) ∷ [])

-- It stops in cycle 10, and in cycle 9.
abbrev pub ConnectionClosing : Type 0
ConnectionClosing = AreAudited two_design two_spans (switch 0 1 ∷ switch 10 0 ∷ [])
    ((later, 12, Clean) ∷ [])

abbrev pub ConnectionClosed : Type 0
ConnectionClosed = AreAudited two_design two_spans (switch 0 1 ∷ switch 9 0 ∷ [])
    ((later, 12, Fault 1 1) ∷ [])
