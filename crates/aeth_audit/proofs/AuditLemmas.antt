-- What an audit is given makes what rows are judged with.
use Rattle.std.proofs.Common.{◌≡◌, ◌∙◌, ◌<◌, ◌≤◌, ℕ, List, [], length, map, get_or, sym, ap, subst}
use Rattle.std.proofs.Common.{inl, inr, arith, All}
use Rattle.std.proofs.lemmas.{Bool.cases_lt, List.get_or_past, List.length-map}
use Rattle.std.proofs.lemmas.{List.FromFn.get_or-map-range_with_len}
use Rattle.std.proofs.lemmas.{List.FromFn.length-map-range_with_len, Option.slice_get-get_or}
use Rattle.std.specs.List.{range_with_len, Sorted.IsNonDecreasingBy}
use Rattle.aeth_chip.specs.Chip.{ChipData}
use Rattle.aeth_app.specs.App.{AppData, IsAppOf}
use Rattle.aeth_group.specs.Members.{groups_of}
use Rattle.aeth_plan.specs.{Plan.PlanData, Design.IsDesign}
use Rattle.aeth_text.specs.Order.{Rises}
use Rattle.aeth_trace.specs.{Switches.AreSwitchesOf, declared.switches.SwitchRow.SwitchRow}
use Rattle.aeth_reconf.specs.Timeline.{sessions_at, timeline_of}
use Rattle.aeth_report.specs.{Flows.Run, Flows.sessions_in, Sound.IsSound}
use Rattle.aeth_report.specs.{declared.session.Session.Session}
use Rattle.aeth_report.proofs.SessionsGone.{last_gone, sessions_rise}
use Rattle.aeth_tables.specs.Switching.{spans_of}
use Rattle.aeth_accepted.specs.Inputs.{AreAccepted}
use Rattle.aeth_audit.specs.{Judged.IsJudgeOf, Judged.quiet, Judged.run_on, Judging.IsJudge}
use Rattle.aeth_audit.specs.{Limits.max_link_rows, LinkLog.is_later, OpenSessions.IsLastAlone}
use Rattle.aeth_audit.specs.{Starts.AreStarts, Tables.IsTable, Tables.address_of}
use Rattle.aeth_audit.specs.{declared.judge.Judge.Judge}
use Rattle.aeth_audit.proofs.TableLemmas.{placed}

-- The inputs of a run without words are accepted where the plan and the switches are.
pub quiet-accepted : (chip : ChipData) (app : AppData) (plan : PlanData)
    (switches : List SwitchRow) → IsDesign chip app plan → IsAppOf chip app
    → AreSwitchesOf app (spans_of chip app (groups_of app) plan) switches
    → AreAccepted (quiet chip app plan switches)
quiet-accepted chip app plan switches design of_chip are = record {
  design = design;
  of_chip = of_chip;
  words = record {
    few = omega arith;
    known = λ k d within. absurd (omega arith);
    order = λ i j d le within. absurd (omega arith);
    cycles = λ k d within. absurd (omega arith);
  };
  pulls = record {
    few = omega arith;
    known = λ k d within. absurd (omega arith);
    order = λ i j d le within. absurd (omega arith);
    cycles = λ k d within. absurd (omega arith);
    pulls = λ k d within. absurd (omega arith);
  };
  switches = are;
  cycles = omega arith;
}

module _ (run : Run) (sound : IsSound run) where
  -- A connection's sessions go in their order.
  pub go-rise : (c : ℕ) → IsNonDecreasingBy (λ session. session.go) (sessions_in run c)
  go-rise c i j d le within =
      let all = sessions_in run c in
      sessions_rise run.design.groups run.spans c run.switches sound.apart i j (get_or all i d)
      (get_or all j d) le (slice_get-get_or all i d (omega arith)) (slice_get-get_or all j d within)

  -- And are open one after the other.
  pub last-alone : (c u : ℕ) → IsLastAlone (sessions_in run c) u
  last-alone c u j k e s = last_gone run sound c j k u e s

-- ---- What rows are judged with

module _ (app : AppData) (switches : List SwitchRow) (judge : Judge)
    (design : IsDesign judge.chip.now app judge.plan.now)
    (sound : IsSound (run_on judge.chip.now app judge.plan.now switches))
    (timeline : judge.timeline.now ≡ timeline_of (groups_of app)
    (spans_of judge.chip.now app (groups_of app) judge.plan.now) switches)
    (table : IsTable judge.chip.now app judge.plan.now judge.table.now) where
  abbrev run : Run
  run = run_on judge.chip.now app judge.plan.now switches

  -- The sessions of a connection are those of the run; there are none of a missing one.
  sessions-are : (c : ℕ) → c < (groups_of app).connections
      → sessions_at judge.timeline.now c ≡ sessions_in run c
  sessions-are c known = ap (λ (all : List (List Session)). sessions_at all c) timeline
      ∙ get_or-map-range_with_len (λ k. sessions_in run k) 0 (groups_of app).connections c c []
      known (omega arith)

  sessions-none : (c : ℕ) → (groups_of app).connections ≤ c → sessions_at judge.timeline.now c ≡ []
  sessions-none c past = ap (λ (all : List (List Session)). sessions_at all c) timeline
      ∙ get_or_past (map (λ k. sessions_in run k) (range_with_len 0 (groups_of app).connections)) c
      [] (omega (
        arith,
        past,
        length-map-range_with_len (λ k. sessions_in run k) 0
            (groups_of app).connections,
      ))

  rise : (c : ℕ) → IsNonDecreasingBy (λ session. session.go) (sessions_at judge.timeline.now c)
  rise c = elim (cases_lt c (groups_of app).connections) [
    | inl known ↦ subst (IsNonDecreasingBy (λ session. session.go)) (sym (sessions-are c known))
        (go-rise run sound c)
    | inr past ↦ subst (IsNonDecreasingBy (λ session. session.go)) (sym (sessions-none c past))
        (λ i j d le within. absurd (omega arith))
  ]

  alone : (c u : ℕ) → IsLastAlone (sessions_at judge.timeline.now c) u
  alone c u = elim (cases_lt c (groups_of app).connections) [
    | inl known ↦ subst (λ (all : List Session). IsLastAlone all u) (sym (sessions-are c known))
        (last-alone run sound c u)
    | inr past ↦ subst (λ (all : List Session). IsLastAlone all u) (sym (sessions-none c past))
        (λ j k e s at. absurd (cc at))
  ]

  -- They are what rows may be judged with, where these rise, are few, and on links of the chip.
  pub is_judge : Rises is_later judge.rows.now → length judge.rows.now ≤ max_link_rows
      → All (λ row. row.link.0 < length judge.chip.now.links) judge.rows.now
      → AreStarts judge.rows.now judge.starts.now → IsJudge judge
  is_judge rises few known starts = record {
    some = design.chip_is.some_slots;
    slots = table.slots;
    size = table.size;
    places = table.places;
    addressed = ap length table.addresses ∙ length-map judge.plan.now.grants
        (address_of judge.chip.now app judge.plan.now.seats);
    placed = placed judge.chip.now app judge.plan.now design;
    rise = rise;
    alone = alone;
    rows = rises;
    few = few;
    known = known;
    starts = starts;
  }

  -- And they are those of the plan through the switches.
  pub is_judge_of : IsJudgeOf app switches judge
  is_judge_of = record {
    design = design;
    sound = sound;
    sessions = sessions-are;
    addresses = table.addresses;
  }
