-- A private server is two slot servers, one for its words and one for its credits.
use Rattle.std.proofs.Common.{◌&&◌, ℕ, ◌+◌, ◌-◌, ◌≤◌, ◌≡◌, ◌∙◌, zero, suc, Bool, true, false, cond}
use Rattle.std.proofs.Common.{ltb, min, ap, arith, lt-ltb}
use Rattle.aeth_base.specs.Limits.{credits_per_flit, words_per_flit}
use Rattle.aeth_server.specs.SlotCycles.{is_slot}
use Rattle.aeth_server.specs.SlotServer.{served}
use Rattle.aeth_server.specs.Shape.{IsGranted}
use Rattle.aeth_server.specs.PrivateServer.{PrivateServer, arrived, sent, taken, credited, returned}
use Rattle.aeth_server.proofs.PrivateServerLemmas.{counts-none, sent-next, credited-next}

-- A cycle of a slot server, by what may be sent and where the slot lies.
cycle-of-slot : (may slot : Bool) (cap s before waiting all : ℕ) → may ≡ true → s ≡ before
    → waiting ≡ all - s
    → s + cond (may && slot) (min cap waiting) 0 ≡ before + cond slot (min cap (all - before)) 0
cycle-of-slot false slot cap s before waiting all may same is = absurd (cc)
cycle-of-slot true true cap s before waiting all may same is = omega arith
cycle-of-slot true false cap s before waiting all may same is = omega arith

module _ (server : PrivateServer) (granted : IsGranted server.shape) where
  abbrev size : ℕ
  size = server.shape.size

  -- the words that have arrived and have a credit
  abbrev pub sendable : ℕ → ℕ
  sendable t = min (arrived server t) (server.buffer + returned server t)

  abbrev payload : ℕ → ℕ
  payload t = served size server.shape.slots words_per_flit sendable t

  abbrev credits : ℕ → ℕ
  credits t = served size server.shape.back_slots credits_per_flit (λ u. taken server (u - 1)) t

  -- until the stop, words are sent as by a slot server
  pub sent-served : (t : ℕ) → t ≤ server.stop → sent server t ≡ payload t
  sent-served zero early = omega (arith, (counts-none server).sent)
  sent-served (suc t) early =
      let before = sent-served t (omega arith) in
      let may = lt-ltb t server.stop (omega arith) in
      let waiting : min (arrived server (suc t) - sent server t)
      (server.buffer + returned server (suc t) - sent server t)
      ≡ sendable (suc t) - sent server t = omega arith in
      sent-next server granted.paths t
      ∙ cycle-of-slot (ltb t server.stop) (is_slot size server.shape.slots t) words_per_flit _ _ _
      (sendable (suc t)) may before waiting

  -- and so are credits for the words that were taken in earlier cycles
  pub credited-served : (t : ℕ) → t ≤ server.stop → credited server t ≡ credits t
  credited-served zero early = omega (arith, (counts-none server).credited)
  credited-served (suc t) early =
      let before = credited-served t (omega arith) in
      let may = lt-ltb t server.stop (omega arith) in
      let last : t ≡ suc t - 1 = omega arith in
      let owed = ap (λ u. taken server u - credited server t) last in
      credited-next server granted.paths t
      ∙ cycle-of-slot (ltb t server.stop) (is_slot size server.shape.back_slots t)
      credits_per_flit _ _ _ (taken server (suc t - 1)) may before owed
