-- Until when channels accept words, and that the session that went last is the one that accepts them.
use Rattle.std.proofs.Common.{◌≡◌, ◌≤◌, ◌<◌, ◌∙◌, ℕ, zero, suc, ◌+◌, ◌*◌, ◌||◌, Bool, List, filter}
use Rattle.std.proofs.Common.{fold, length, map, replicate, sym, ap, arith, ◌==◌, nat_lt}
use Rattle.std.proofs.Common.{slice_index, le-ltb}
use Rattle.std.proofs.lemmas.List.{get_or-replicate, length-replicate, Folds.fold-map}
use Rattle.std.proofs.lemmas.List.{Sums.fold-append}
use Rattle.std.specs.List.{AllPairs, list_any, Sorted.IsNonDecreasingBy}
use Rattle.aeth_base.specs.declared.ids.Channel.{Channel}
use Rattle.aeth_base.proofs.{Lists.list_any-map, Filters.filter-map, Filters.filter-swap}
use Rattle.aeth_trace.specs.{Channels.channel_number, declared.words.WordRow.WordRow}
use Rattle.aeth_report.specs.{Flows.close_at, Flows.flow_of, Flows.flows_on, Flows.sessions_in}
use Rattle.aeth_report.specs.{RunLog.is_accepted, declared.session.Session.Session}
use Rattle.aeth_accepted.specs.Inputs.{Inputs, run_of}
use Rattle.aeth_schedule.specs.SessionStarts.{session_starts_of}
use Rattle.aeth_schedule.specs.declared.session_start.SessionStart.{SessionStart}
use Rattle.aeth_stimuli.specs.Stimuli.{session_starts_over, is_over, stimuli_of}
use Rattle.aeth_stimuli.specs.Sessions.{SessionStartData, as_session_start, session_start_of}
use Rattle.aeth_stimuli.proofs.WordWindows.{below-none}
use Rattle.aeth_running.specs.Network.{first_network, played, until_with, untils_in}
use Rattle.aeth_running.specs.Routing.{Routing}
use Rattle.aeth_running.proofs.Accepting.{accepts, last-accepts, last_until, written-last}
use Rattle.aeth_running.proofs.InOrder.{below, below-next, below-wider}
use Rattle.aeth_running.proofs.Played.{untils-first, untils-next}
use Rattle.aeth_running.proofs.Replaced.{go_of}

-- The last of what is shown.
last-shown : {X Y : Type 0} (show : X → Y) (go until : Y → ℕ) (t before : ℕ) (xs : List X)
    → last_until go until t before (map show xs)
    ≡ last_until (λ x. go (show x)) (λ x. until (show x)) t before xs
last-shown {X} {Y} show go until t before xs =
    let gone = λ (y : Y). nat_lt (go y) (t + 1) in
    ap (λ (ys : List Y). fold (λ (last : ℕ) y. until y) before ys) (filter-map gone show xs)
    ∙ fold-map (λ (last : ℕ) y. until y) show before (filter (λ x. gone (show x)) xs)

module _ (inputs : Inputs) (routing : Routing)
    (ordered : IsNonDecreasingBy (λ session_start. session_start.channel_state.go)
    (session_starts_of inputs))
  where
    abbrev zeros : List ℕ
    zeros = replicate (2 * length inputs.app.connections) 0

    abbrev gone_by : ℕ → List SessionStart
    gone_by t = filter (below go_of t) (session_starts_of inputs)

    -- Until when channels accept words, by the sessions that went before a cycle.
    untils-are : (t : ℕ) → (played t (first_network inputs routing)).untils
        ≡ fold until_with zeros (gone_by t)
    untils-are zero =
        untils-first inputs routing
        ∙ ap (λ (list : List SessionStart). fold until_with zeros list)
        (sym (below-none go_of 0 (session_starts_of inputs) (λ k d within. omega arith)))
    untils-are (suc t) =
        let next : suc t ≡ t + 1 = omega arith in
        let here = filter (λ (session_start : SessionStart). session_start.channel_state.go == t)
        (session_starts_of inputs) in
        ap (λ n. (played n (first_network inputs routing)).untils) next
        ∙ untils-next inputs routing t
        ∙ ap (λ (list : List ℕ). fold until_with list here) (untils-are t)
        ∙ sym (fold-append until_with zeros (gone_by t) here)
        ∙ ap (λ (list : List SessionStart). fold until_with zeros list)
        (sym (below-next go_of t (session_starts_of inputs) ordered))
        ∙ ap (λ n. fold until_with zeros (gone_by n)) (sym next)

    module _ (channel : Channel) (within : channel_number channel < 2 * length inputs.app.connections)
        (session_starts_are : map as_session_start
        (session_starts_over (channel_number channel) (session_starts_of inputs))
        ≡ map (session_start_of inputs channel) (filter (λ session. nat_lt session.go inputs.cycles)
        (sessions_in (run_of inputs) channel.conn.0)))
        (alone : AllPairs (λ one other. (close_at inputs.cycles one).until ≤ other.go)
        (sessions_in (run_of inputs) channel.conn.0)) where
      abbrev sessions : List Session
      sessions = sessions_in (run_of inputs) channel.conn.0

      abbrev session_go : Session → ℕ
      session_go session = session.go

      abbrev session_until : Session → ℕ
      session_until session = (close_at inputs.cycles session).until

      -- Until when the channel accepts words in a cycle.
      abbrev pub until_at : ℕ → ℕ
      until_at t = slice_index
          (untils_in (stimuli_of inputs) t (played t (first_network inputs routing)).untils)
          (channel_number channel)

      until-is : (t : ℕ) → t < inputs.cycles
          → until_at t ≡ last_until session_go session_until t 0 sessions
      until-is t early =
          let number = channel_number channel in
          let all = session_starts_of inputs in
          let size : length zeros ≡ 2 * length inputs.app.connections =
          length-replicate (2 * length inputs.app.connections) 0 in
          let until = λ (session_start : SessionStart). session_start.until in
          let next = t + 1 in
          ap (λ (list : List ℕ). slice_index list number)
          (sym (untils-next inputs routing t) ∙ untils-are next)
          ∙ written-last (λ (session_start : SessionStart). channel_number session_start.channel)
          until number zeros
          (gone_by next) (omega arith)
          ∙ ap (λ start. fold (λ (last : ℕ) session_start. until session_start) start
          (filter (is_over number) (gone_by next)))
          (get_or-replicate (2 * length inputs.app.connections) number 0 0 within)
          ∙ ap (λ (list : List SessionStart). fold (λ (last : ℕ) session_start. until session_start)
          0 list)
          (filter-swap (is_over number) (below go_of next) all)
          ∙ sym (last-shown as_session_start
          (λ (session_start : SessionStartData). session_start.channel_state.go)
          (λ (session_start : SessionStartData). session_start.until) t 0
          (session_starts_over number all))
          ∙ ap (λ (list : List SessionStartData). last_until
          (λ (session_start : SessionStartData). session_start.channel_state.go)
          (λ (session_start : SessionStartData). session_start.until) t 0 list) session_starts_are
          ∙ last-shown (session_start_of inputs channel)
          (λ (session_start : SessionStartData). session_start.channel_state.go)
          (λ (session_start : SessionStartData). session_start.until) t 0
          (filter (below session_go inputs.cycles) sessions)
          ∙ ap (λ (list : List Session). fold (λ (last : ℕ) session. session_until session) 0 list)
          (below-wider session_go next inputs.cycles sessions (omega arith))

      -- A word that is offered in a cycle is accepted exactly where that cycle comes before.
      pub accepted-until : (t : ℕ) → t < inputs.cycles → (row : WordRow) → row.cycle ≡ t
          → list_any (is_accepted row) (flows_on (run_of inputs) channel) ≡ nat_lt t (until_at t)
      accepted-until t early row same =
          let any = λ (n : ℕ). list_any (accepts session_go session_until n) sessions in
          let none = le-ltb t 0 (omega arith) in
          list_any-map (is_accepted row) (flow_of (run_of inputs) channel) sessions
          ∙ ap any same
          ∙ ap (λ (b : Bool). b || any t) (sym none)
          ∙ sym (last-accepts session_go session_until t 0 sessions alone
          (λ k d inside. omega arith))
          ∙ ap (nat_lt t) (sym (until-is t early))
