-- What the wires of the network of accepted inputs show, cycle by cycle.
use Rattle.std.proofs.Common.{◌≡◌, ◌≤◌, ◌+◌, ◌++◌, ◌∙◌, ℕ, suc, List, [], ◌∷◌, Option, length, refl}
use Rattle.std.proofs.Common.{sym, ap, subst, arith, append_assoc, append-nil, flat_map, map}
use Rattle.std.proofs.lemmas.{Grind.flat_map-append, List.Concat.flat_map-cons}
use Rattle.std.specs.List.{range_with_len}
use Rattle.aeth_base.proofs.Members.{Contains-slice_get}
use Rattle.aeth_base.proofs.Ranges.{range-Contains, range_with_len-more}
use Rattle.aeth_clocked.specs.declared.flit.Flit.{Flit}
use Rattle.aeth_report.specs.{Flows.Run, Log.LogData}
use Rattle.aeth_accepted.specs.Inputs.{Inputs, run_of}
use Rattle.aeth_routed_sessions.proofs.Carrying.{flat_map-same}
use Rattle.aeth_running.specs.{Network.NetworkState, Network.first_network, Network.played}
use Rattle.aeth_running.specs.{Routing.ByHeaders, Running.HoldsBefore}
use Rattle.aeth_network.{specs.Runs.AreWiresOf, specs.Runs.IsNetworkOf, proofs.Playing.played-log}
use Rattle.aeth_audit.specs.{Lines.row_line, declared.row.LinkRow.LinkRow}
use Rattle.aeth_links.specs.Carried.{lines_of, row_of, rows_in, rows_on}
use Rattle.aeth_links.specs.Seen.{rows_at, rows_seen}

-- The rows of the cycles before this one.
abbrev pub rows_before : Run → ℕ → List LinkRow
rows_before run t = flat_map (rows_in run) (range_with_len 0 t)

-- One cycle more.
pub rows_before-next : (run : Run) (head text : List ℕ) (t : ℕ)
    → text ≡ head ++ lines_of (rows_before run t)
    → text ++ lines_of (rows_in run t) ≡ head ++ lines_of (rows_before run (t + 1))
rows_before-next run head text t is =
    let next : t + 1 ≡ suc t = omega arith in
    let rows : rows_before run (t + 1) ≡ rows_before run t ++ rows_in run t =
    ap (λ (n : ℕ). flat_map (rows_in run) (range_with_len 0 n)) next
    ∙ ap (flat_map (rows_in run)) (range_with_len-more 0 t t (omega arith))
    ∙ flat_map-append (rows_in run) (range_with_len 0 t) (t ∷ [])
    ∙ ap (λ (more : List LinkRow). rows_before run t ++ more)
    (flat_map-cons (rows_in run) t [] ∙ append-nil (rows_in run t)) in
    ap (λ (before : List ℕ). before ++ lines_of (rows_in run t)) is
    ∙ append_assoc head (lines_of (rows_before run t)) (lines_of (rows_in run t))
    ∙ ap (λ (lines : List ℕ). head ++ lines)
    (sym (flat_map-append row_line (rows_before run t) (rows_in run t)) ∙ ap lines_of (sym rows))

-- What is seen on the wires behind a cycle is what the links carry in it.
pub seen-carried : (inputs : Inputs) (t : ℕ) (wires : List (Option Flit))
    → AreWiresOf inputs (t + 1) wires
    → rows_seen wires (length inputs.chip.links) t ≡ rows_in (run_of inputs) t
seen-carried inputs t wires are =
    flat_map-same (rows_at wires t) (rows_on (run_of inputs) t)
    (range_with_len 0 (length inputs.chip.links)) (λ i l at.
    ap (map (row_of t l)) (are.first l t (range-Contains (length inputs.chip.links) l
    (Contains-slice_get (range_with_len 0 (length inputs.chip.links)) i l at)) refl))

-- No cycle of the first network is done.
pub first-time : (inputs : Inputs) (all : NetworkState) → all ≡ first_network inputs ByHeaders → all.time ≡ 0
unfolding first_network
first-time inputs all is = ap (λ (now : NetworkState). now.time) is

module _ (inputs : Inputs) (all : NetworkState) (is : IsNetworkOf inputs all) where
  -- The run of a network of accepted inputs has as many cycles as they have.
  pub cycles-of : all.log.cycles ≡ inputs.cycles
  unfolding first_network
  cycles-of =
      ap (λ (now : NetworkState). now.log.cycles) is.is
      ∙ ap (λ (log : LogData). log.cycles) (played-log all.time (first_network inputs all.routing))

  -- Each link has a wire.
  pub wires-enough : ((t : ℕ) → t ≤ inputs.cycles
      → HoldsBefore inputs t (played t (first_network inputs all.routing)).components)
      → length inputs.chip.links ≤ length all.components.wires
  wires-enough runs =
      let running = runs all.time is.within in
      let links = running.links in
      let flits = running.sound.flits in
      subst (λ (now : NetworkState). length inputs.chip.links ≤ length now.components.wires)
      (sym is.is) (omega arith)
