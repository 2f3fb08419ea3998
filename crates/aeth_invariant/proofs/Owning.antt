-- Which session has a queue, and how long what stands there is.
use Rattle.std.proofs.Common.{◌≡◌, ◌≤◌, ◌<◌, ◌∙◌, ◌⊎◌, ℕ, suc, ◌-◌, List, length, Option, sym, ap}
use Rattle.std.proofs.Common.{arith, inl, inr}
use Rattle.std.proofs.lemmas.Bool.{cases_lt}
use Rattle.aeth_clocked.specs.declared.flit.Flit.{Flit}
use Rattle.aeth_server.specs.PrivateServer.{landed, sent, taken}
use Rattle.aeth_server.proofs.PrivateServerLemmas.{in-order}
use Rattle.aeth_invariant.specs.{WellRouted.AreWellRouted, Carried.Exact, Components.Net}
use Rattle.aeth_invariant.specs.{Components.queue_of, RoutedSessions.RoutedSessions}
use Rattle.aeth_invariant.specs.{RoutedSessions.IsOpenSession, RoutedSessions.IsSameQueue}
use Rattle.aeth_invariant.specs.{RoutedSessions.Owns, RoutedSessions.flow_at}
use Rattle.aeth_invariant.specs.{RoutedSessions.server_at, Standing.MaySend, Standing.Stands}
use Rattle.aeth_invariant.proofs.{Counts.arrived-most, Unique.known-back, Unique.paths-of}
use Rattle.aeth_invariant.proofs.{Words.length-words_from}

-- Wires that have the same are exact alike.
pub exact-same : (sessions : RoutedSessions) (t : ℕ) (one other : ℕ → Option Flit)
    → ((l : ℕ) → other l ≡ one l) → Exact sessions t one → Exact sessions t other
exact-same sessions t one other same exact = record {
  only = λ l flit is. exact.only l flit (sym (same l) ∙ is);
  all = λ l c i u on. same l ∙ exact.all l c i u on;
}

module _ (sessions : RoutedSessions) (ok : AreWellRouted sessions) where
  -- The opposite session has its queues at the same time.
  pub owns-back : (c t : ℕ) → c < sessions.count → Owns sessions c t
      → Owns sessions (sessions.opposite c) t
  owns-back c t h own =
      let since = (ok.answered c h).since in
      let finish = (ok.answered c h).finish in
      let from = own.since in
      let upto = own.finish in
      record { since = omega arith; finish = omega arith }

  -- It is in use at the same time.
  pub going-back : (c t : ℕ) → c < sessions.count → IsOpenSession sessions c t
      → IsOpenSession sessions (sessions.opposite c) t
  going-back c t h going =
      let go = (ok.answered c h).go in
      let finish = (ok.answered c h).finish in
      let from = going.goes in
      let upto = going.unfinished in
      record { goes = omega arith; unfinished = omega arith }

  -- A session that runs has its queues.
  pub owns-running : (c t : ℕ) → c < sessions.count → MaySend sessions c t → Owns sessions c t
  owns-running c t h run =
      let order = ok.ordered c h in
      let since = order.set_since in
      let drained = (ok.given c h).drained in
      let set = run.set in
      let stop = run.stop in
      record { since = omega arith; finish = omega arith }

  -- So has one that is in use.
  pub owns-going : (c t : ℕ) → c < sessions.count → IsOpenSession sessions c t
      → Owns sessions c (suc t)
  owns-going c t h going =
      let order = ok.ordered c h in
      let since = order.set_since in
      let go = order.set_go in
      let from = going.goes in
      let upto = going.unfinished in
      record { since = omega arith; finish = omega arith }

  -- A session that has its queues is in use, or doesn't go yet.
  pub going-or-early : (c t : ℕ) → Owns sessions c (suc t)
      → IsOpenSession sessions c t ⊎ (t < (server_at sessions c).go)
  going-or-early c t own = elim (cases_lt t (server_at sessions c).go) [
    | inl early ↦ inr early
    | inr goes ↦ let upto = own.finish in inl (record { goes = goes; unfinished = omega arith })
  ]

  -- Where it doesn't go yet, no session is in use on its queue.
  pub early-alone : (c t : ℕ) → c < sessions.count → Owns sessions c (suc t)
      → t < (server_at sessions c).go
      → (d : ℕ) → d < sessions.count → IsOpenSession sessions d t → IsSameQueue sessions d c → ⊥
  early-alone c t h own early d g going same =
      let one = (ok.apart d c g h).queue (suc t) (owns-going d t g going) own same in
      let goes = going.goes in
      let go = ap (λ n. (server_at sessions n).go) one in
      omega arith

  -- No more has landed than there are values.
  pub landed-most : (c t : ℕ) → c < sessions.count
      → landed (server_at sessions c) t ≤ length (flow_at sessions c).values
  landed-most c t h =
      let order = in-order (server_at sessions c) (paths-of sessions ok c h) t in
      let most = arrived-most (server_at sessions c) t in
      let values = (ok.given c h).values in
      omega (arith, order.lands, order.sends, most, values)

  module _ (t k : ℕ) (net : Net) (at : Stands sessions t k net) where
    -- So many words wait.
    pub waiting-length : (c : ℕ) → c < sessions.count → Owns sessions c t
        → length (queue_of sessions net c).waiting ≡ net.enqueued c - sent (server_at sessions c) k
    waiting-length c h own =
        let few = at.enqueued_arrived c h own in
        let low = at.enqueued_low c h own in
        let most = arrived-most (server_at sessions c) (suc k) in
        let values = (ok.given c h).values in
        ap (λ (ws : List ℕ). length ws) (at.waiting c h own)
        ∙ length-words_from (flow_at sessions c).values (sent (server_at sessions c) k)
        (net.enqueued c - sent (server_at sessions c) k) (omega arith)

    -- So many have landed and weren't taken.
    pub received-length : (c : ℕ) → c < sessions.count → Owns sessions c t
        → let d = sessions.opposite c in length (queue_of sessions net c).received
        ≡ landed (server_at sessions d) (suc k) - taken (server_at sessions d) k
    received-length c h own =
        let d = sessions.opposite c in
        let g = known-back sessions ok c h in
        let most = landed-most d (suc k) g in
        let before = landed-most d k g in
        let takes = (in-order (server_at sessions d) (paths-of sessions ok d g) k).takes in
        ap (λ (ws : List ℕ). length ws) (at.received c h own)
        ∙ length-words_from (flow_at sessions d).values (taken (server_at sessions d) k)
        (landed (server_at sessions d) (suc k) - taken (server_at sessions d) k) (omega arith)
