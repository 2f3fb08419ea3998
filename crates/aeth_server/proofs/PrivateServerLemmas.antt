-- The counts of a private server, from cycle to cycle. Nothing else looks into its history.
use Rattle.std.proofs.Common.{◌&&◌, ℕ, ◌+◌, ◌-◌, ◌≤◌, ◌≡◌, ◌∙◌, zero, suc, Bool, true, false, cond}
use Rattle.std.proofs.Common.{ltb, ◌∷◌, min, sym, refl, ap, arith}
use Rattle.aeth_base.specs.Limits.{credits_per_flit, words_per_flit}
use Rattle.aeth_base.proofs.Sequences.{never-falls}
use Rattle.aeth_server.specs.SlotCycles.{is_slot}
use Rattle.aeth_server.specs.Shape.{HasPaths}
use Rattle.aeth_server.specs.PrivateServer.{PrivateServer, Counts, counts_after, counts_ago}
use Rattle.aeth_server.specs.PrivateServer.{cycle_at, history, counts, accepted, arrived, pull_at}
use Rattle.aeth_server.specs.PrivateServer.{sent, landed, taken, credited, returned}
use Rattle.aeth_server.specs.CountLaws.{IsStep, IsIdle, IsInOrder, HasRoom, FitsFlit, HasGrown}
use Rattle.aeth_server.specs.CountLaws.{IsAlike}
use Rattle.aeth_server.proofs.FinishTimeLemmas.{arrivals_before-none, arrivals_before-more}

-- ---- the history
-- the counts of j cycles ago are those after j cycles fewer.
pub counts_ago-history : (server : PrivateServer) (t j : ℕ)
    → counts_ago (history server t) j ≡ counts server (t - j)
unfolding history counts
counts_ago-history server zero j = let none : 0 - j ≡ 0 = omega arith in rw none refl
counts_ago-history server (suc t) zero =
    let same : suc t - 0 ≡ suc t = omega arith in sym (ap (counts server) same)
counts_ago-history server (suc t) (suc j) =
    let same : suc t - suc j ≡ t - j = omega arith in rw same (counts_ago-history server t j)

-- A path delay ago, from the end of a cycle.
counts-under-way : (server : PrivateServer) (t delay : ℕ) → 1 ≤ delay
    → counts_ago (history server t) (delay - 1) ≡ counts server (suc t - delay)
counts-under-way server t delay some =
    let same : t - (delay - 1) ≡ suc t - delay = omega arith in
    counts_ago-history server t (delay - 1) ∙ ap (counts server) same

-- Two servers that are given the same have the same history.
pub history-alike : (one other : PrivateServer) (t : ℕ) → IsAlike one other t
    → history one t ≡ history other t
unfolding history
history-alike one other zero alike = refl
history-alike one other (suc t) alike =
    let before : history one t ≡ history other t = history-alike one other t (record {
      shape = alike.shape;
      buffer = alike.buffer;
      arrived = λ u low. alike.arrived u (omega arith);
      pull = λ u low. alike.pull u (omega arith);
      may_send = λ u low. alike.may_send u (omega arith);
    }) in
    let next : t + 1 ≡ suc t = omega arith in
    let words : arrived one (suc t) ≡ arrived other (suc t) =
    sym (ap (arrived one) next) ∙ alike.arrived t (omega arith) ∙ ap (arrived other) next in
    let pulls = alike.pull t (omega arith) in
    let may_send = alike.may_send t (omega arith) in
    let shapes = alike.shape in
    let buffers = alike.buffer in
    λ i. counts_after (shapes i) (buffers i)
    (record { time = t; arrived = words i; pull = pulls i; may_send = may_send i })
    (counts_ago (before i) 0)
    (counts_ago (before i) ((shapes i).path_delay - 1)).sent
    (counts_ago (before i) ((shapes i).back_path_delay - 1)).credited
    ∷ before i

-- So they have the same counts.
pub counts-alike : (one other : PrivateServer) (t : ℕ) → IsAlike one other t
    → counts one t ≡ counts other t
unfolding counts
counts-alike one other t alike = ap (λ past. counts_ago past 0) (history-alike one other t alike)

-- ---- the counts
-- all are 0 before the first cycle.
pub counts-none : (server : PrivateServer) → IsIdle server 0
unfolding history counts
counts-none server =
    let path_none : 0 - server.shape.path_delay ≡ 0 = omega arith in
    let back_none : 0 - server.shape.back_path_delay ≡ 0 = omega arith in
    record {
      arrived = arrivals_before-none (accepted server);
      sent = refl;
      landed = ap (sent server) path_none;
      taken = refl;
      credited = refl;
      returned = ap (credited server) back_none;
    }

module _ (server : PrivateServer) (paths : HasPaths server.shape) where
  abbrev out : ℕ
  out = server.shape.path_delay

  abbrev home : ℕ
  home = server.shape.back_path_delay

  -- the counts after cycle t, where so much has landed and returned
  abbrev pub counts_with : ℕ → ℕ → ℕ → Counts
  counts_with t lands returns =
      counts_after server.shape server.buffer (cycle_at server t) (counts server t) lands returns

  -- one cycle, by what has landed and returned by its end
  pub counts-next : (t : ℕ) → counts server (suc t)
      ≡ counts_with t (landed server (suc t)) (returned server (suc t))
  unfolding history counts
  counts-next t =
      let lands = ap (λ (c : Counts). c.sent) (counts-under-way server t out paths.path) in
      let returns =
      ap (λ (c : Counts). c.credited) (counts-under-way server t home paths.back_path) in
      ap (λ n. counts_with t n (counts_ago (history server t) (home - 1)).credited) lands
      ∙ ap (λ n. counts_with t (landed server (suc t)) n) returns

  -- whether words go in a cycle, and credits
  abbrev sends : ℕ → Bool
  sends t = ltb t server.stop && is_slot server.shape.size server.shape.slots t

  abbrev credits : ℕ → Bool
  credits t = ltb t server.stop && is_slot server.shape.size server.shape.back_slots t

  -- what goes in such a cycle, and what the receiver takes
  abbrev pub words_ready : ℕ → ℕ
  words_ready t =
      min words_per_flit
      (min (arrived server (suc t) - sent server t)
      (server.buffer + returned server (suc t) - sent server t))

  abbrev pub credits_ready : ℕ → ℕ
  credits_ready t = min credits_per_flit (taken server t - credited server t)

  abbrev words_taken : ℕ → ℕ
  words_taken t = min (pull_at server t) (landed server (suc t) - taken server t)

  -- words are sent
  pub sent-next : (t : ℕ) → sent server (suc t) ≡ sent server t + cond (sends t) (words_ready t) 0
  sent-next t = ap (λ (c : Counts). c.sent) (counts-next t)

  -- words are taken
  pub taken-next : (t : ℕ) → taken server (suc t) ≡ taken server t + words_taken t
  taken-next t = ap (λ (c : Counts). c.taken) (counts-next t)

  -- credits are sent
  pub credited-next : (t : ℕ) → credited server (suc t)
      ≡ credited server t + cond (credits t) (credits_ready t) 0
  credited-next t = ap (λ (c : Counts). c.credited) (counts-next t)

  -- the same, as the law says it
  pub steps : (t : ℕ) → IsStep server t
  steps t =
      let next : t + 1 ≡ suc t = omega arith in
      record {
        sends = rw next (sent-next t);
        takes = rw next (taken-next t);
        credits = rw next (credited-next t);
      }

  -- ---- no count falls
  -- not what is sent
  pub sent-more : (s t : ℕ) → s ≤ t → sent server s ≤ sent server t
  sent-more = never-falls (sent server) (λ t. omega (arith, sent-next t))

  -- not what is taken
  pub taken-more : (s t : ℕ) → s ≤ t → taken server s ≤ taken server t
  taken-more = never-falls (taken server) (λ t. omega (arith, taken-next t))

  -- not what is credited
  pub credited-more : (s t : ℕ) → s ≤ t → credited server s ≤ credited server t
  credited-more = never-falls (credited server) (λ t. omega (arith, credited-next t))

  -- so none of them
  pub has-grown : (s t : ℕ) → s ≤ t → HasGrown server s t
  has-grown s t up = record {
    arrived = arrivals_before-more (accepted server) s t up;
    sent = sent-more s t up;
    landed = sent-more (s - out) (t - out) (omega arith);
    taken = taken-more s t up;
    credited = credited-more s t up;
    returned = credited-more (s - home) (t - home) (omega arith);
  }

  -- ---- what goes in a cycle
  cond-most : (v : Bool) (n : ℕ) → cond v n 0 ≤ n
  cond-most true n = omega arith
  cond-most false n = omega arith

  sent-most : (t : ℕ) → sent server (suc t) ≤ sent server t + words_ready t
  sent-most t = omega (arith, sent-next t, cond-most (sends t) (words_ready t))

  credited-most : (t : ℕ) → credited server (suc t) ≤ credited server t + credits_ready t
  credited-most t = omega (arith, credited-next t, cond-most (credits t) (credits_ready t))

  -- it fits in a flit
  pub fits-flit : (t : ℕ) → FitsFlit server t
  fits-flit t =
      let next : t + 1 ≡ suc t = omega arith in
      record {
        words = rw next (omega (arith, sent-most t));
        credits = rw next (omega (arith, credited-most t));
      }

  -- ---- the order of the counts
  pub in-order : (t : ℕ) → IsInOrder server t
  in-order zero =
      let none = counts-none server in
      record {
        sends = omega (arith, none.sent);
        lands = omega (arith, none.landed);
        takes = omega (arith, none.taken);
        credits = omega (arith, none.credited);
        returns = omega (arith, none.returned);
        allowed = omega (arith, none.sent);
        room = omega (arith, none.landed);
      }
  in-order (suc t) =
      let before = in-order t in
      let grown = has-grown t (suc t) (omega arith) in
      let lands = sent-more (suc t - out) (suc t) (omega arith) in
      let returns = credited-more (suc t - home) (suc t) (omega arith) in
      let sends : sent server (suc t) ≤ arrived server (suc t) =
      omega (arith, sent-most t, before.sends, grown.arrived) in
      let allowed : sent server (suc t) ≤ server.buffer + returned server (suc t) =
      omega (arith, sent-most t, before.allowed, grown.returned) in
      let takes : taken server (suc t) ≤ landed server (suc t) =
      omega (arith, taken-next t, before.takes, grown.landed) in
      let credited_few : credited server (suc t) ≤ taken server (suc t) =
      omega (arith, credited-most t, before.credits, grown.taken) in
      record {
        sends = sends;
        lands = lands;
        takes = takes;
        credits = credited_few;
        returns = returns;
        allowed = allowed;
        room = omega (arith, lands, allowed, returns, credited_few);
      }

  -- the receiver has room for what lands, before it takes any of it
  pub has-room : (t : ℕ) → HasRoom server t
  has-room t =
      let next : t + 1 ≡ suc t = omega arith in
      let ordered = in-order (suc t - out) in
      let grown = taken-more (suc t - out) t (omega (arith, paths.path)) in
      record {
        lands =
            rw next (omega (arith, ordered.allowed, ordered.returns, ordered.credits, grown));
        credits = rw next (omega (arith, credited-most t, (in-order t).credits));
      }
