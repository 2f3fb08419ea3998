-- Each word of a channel that is offered in a run is accepted by one of its sessions, or is outside
-- of all.
use Rattle.std.proofs.Common.{◌≡◌, ◌≤◌, ◌∙◌, ℕ, ◌+◌, ◌&&◌, Bool, cond, List, [], ◌∷◌, filter, map}
use Rattle.std.proofs.Common.{refl, ap, inl, inr, arith, nat_le, nat_lt, not}
use Rattle.std.proofs.lemmas.{Bool.cases_Bool, List.Sums.sum_by-cons}
use Rattle.std.specs.List.{count_by, list_any, sum_by}
use Rattle.aeth_base.proofs.Lists.{count_by-any}
use Rattle.aeth_server.specs.FinishTimes.{arrivals_before}
use Rattle.aeth_trace.specs.declared.words.WordRow.{WordRow}
use Rattle.aeth_report.specs.{Flows.Flow, Flows.is_within, RunLog.is_accepted, RunLog.outside_of}
use Rattle.aeth_report.proofs.Sums.{count_by-none, sum_by-none, sum_by-plus}

-- Whether a word is offered before a cycle.
abbrev pub is_before : ℕ → WordRow → Bool
is_before cycles row = nat_lt row.cycle cycles

-- How many of some words a session accepts before a cycle.
abbrev pub accepts : ℕ → List WordRow → ℕ → ℕ → ℕ
accepts cycles rows go until =
    count_by (λ row. is_before cycles row && is_within go until row) rows

-- How many of them have arrived by then, as a private server counts.
abbrev arrivals : ℕ → ℕ → ℕ → List WordRow → ℕ
arrivals cycles go until rows = arrivals_before
    (filter (λ a. nat_le go a && nat_lt a until) (map (λ (row : WordRow). row.cycle) rows)) cycles

-- One more word.
arrivals-more : (cycles go until : ℕ) (row : WordRow) (rows : List WordRow)
    → arrivals cycles go until (row ∷ rows)
    ≡ cond (is_before cycles row && is_within go until row) 1 0 + arrivals cycles go until rows
arrivals-more cycles go until row rows = elim (cases_Bool (is_within go until row)) [
  | inl is ↦ elim (cases_Bool (is_before cycles row)) [
    | inl early ↦ rw (is, early) (omega arith)
    | inr late ↦ rw (is, late) (omega arith)
  ]
  | inr isnt ↦ elim (cases_Bool (is_before cycles row)) [
    | inl early ↦ rw (isnt, early) (omega arith)
    | inr late ↦ rw (isnt, late) (omega arith)
  ]
]

-- So many of the session's words have arrived by then.
pub arrivals-accepts : (cycles go until : ℕ) (rows : List WordRow)
    → arrivals cycles go until rows ≡ accepts cycles rows go until
arrivals-accepts cycles go until [] = refl
arrivals-accepts cycles go until (row ∷ rows) =
    let rest = arrivals-accepts cycles go until rows in
    let more = arrivals-more cycles go until row rows in
    let counts = sum_by-cons
    (λ (r : WordRow). cond (is_before cycles r && is_within go until r) 1 0) row rows in
    omega arith

module _ (cycles : ℕ) where
  -- How many of some words a flow accepts before the cycle.
  abbrev pub flow_accepts : List WordRow → Flow → ℕ
  flow_accepts rows flow = accepts cycles rows flow.server.go flow.server.until

  -- One more word, over all flows: so many as accept it, where it comes before the cycle.
  accepts-more : (row : WordRow) (rows : List WordRow) (flows : List Flow)
      → sum_by (flow_accepts (row ∷ rows)) flows
      ≡ cond (is_before cycles row) (count_by (is_accepted row) flows) 0
      + sum_by (flow_accepts rows) flows
  accepts-more row rows flows =
      let here = λ (flow : Flow). cond (is_before cycles row && is_accepted row flow) 1 0 in
      let split : sum_by (flow_accepts (row ∷ rows)) flows
      ≡ sum_by (λ flow. here flow + flow_accepts rows flow) flows =
      λ k. sum_by (λ (flow : Flow). sum_by-cons
      (λ (r : WordRow). cond (is_before cycles r && is_accepted r flow) 1 0) row rows k) flows in
      let first : sum_by here flows
      ≡ cond (is_before cycles row) (count_by (is_accepted row) flows) 0 =
      elim (cases_Bool (is_before cycles row)) [
        | inl is ↦ rw is refl
        | inr isnt ↦ rw isnt (sum_by-none (λ (flow : Flow). 0) flows (λ flow. refl))
      ] in
      split ∙ sum_by-plus here (flow_accepts rows) flows
      ∙ ap (λ n. n + sum_by (flow_accepts rows) flows) first

  -- A word is accepted by one of the flows, or by none, where no two accept it.
  one-accounted : (row : WordRow) (flows : List Flow)
      → count_by (is_accepted row) flows ≤ 1
      → cond (is_before cycles row) (count_by (is_accepted row) flows) 0
      + cond (is_before cycles row && not (list_any (is_accepted row) flows)) 1 0
      ≡ cond (is_before cycles row) 1 0
  one-accounted row flows sole = elim (cases_Bool (is_before cycles row)) [
    | inr late ↦ rw late (omega arith)
    | inl early ↦ elim (cases_Bool (list_any (is_accepted row) flows)) [
      | inl some ↦
          let counts = count_by-any (is_accepted row) flows some in rw (early, some) (omega arith)
      | inr none ↦
          let counts = count_by-none (is_accepted row) flows none in
          rw (early, none) (omega arith)
    ]
  ]

  -- What flows accept and what is outside of them are all words before the cycle, where no two flows
  -- accept one word.
  pub accounted : (flows : List Flow) (rows : List WordRow)
      → ((row : WordRow) → count_by (is_accepted row) flows ≤ 1)
      → sum_by (flow_accepts rows) flows + outside_of cycles flows rows
      ≡ count_by (is_before cycles) rows
  accounted flows [] sole =
      let none = sum_by-none (flow_accepts []) flows (λ flow. refl) in omega arith
  accounted flows (row ∷ rows) sole =
      let more = accepts-more row rows flows in
      let outside = sum_by-cons
      (λ (r : WordRow). cond (is_before cycles r && not (list_any (is_accepted r) flows)) 1 0)
      row rows in
      let all = sum_by-cons (λ (r : WordRow). cond (is_before cycles r) 1 0) row rows in
      let one = one-accounted row flows (sole row) in
      let rest = accounted flows rows sole in
      omega arith
