-- Laws of the counts of private servers, as the network needs them.
use Rattle.std.proofs.Common.{◌≡◌, ◌≤◌, ◌<◌, ◌∙◌, ℕ, suc, ◌+◌, ◌-◌, ◌&&◌, Bool, true, false, cond}
use Rattle.std.proofs.Common.{ltb, length, ap, arith, nat_lt, lt-ltb}
use Rattle.aeth_base.proofs.Filters.{filter-few}
use Rattle.aeth_server.specs.PrivateServer.{PrivateServer, accepted, arrived, credited, landed}
use Rattle.aeth_server.specs.PrivateServer.{returned, sent, taken}
use Rattle.aeth_server.specs.Shape.{HasPaths}
use Rattle.aeth_server.specs.SlotCycles.{is_slot}
use Rattle.aeth_server.proofs.PrivateServerLemmas.{credited-more, credited-next, credits_ready}
use Rattle.aeth_server.proofs.PrivateServerLemmas.{has-room, in-order, sent-next, words_ready}

-- No more words arrive than there are.
pub arrived-most : (server : PrivateServer) (t : ℕ) → arrived server t ≤ length (accepted server)
arrived-most server t = filter-few (λ a. nat_lt a t) (accepted server)

module _ (server : PrivateServer) (paths : HasPaths server.shape) where
  -- In a slot of its own, before its stop, a channel sends what is ready.
  pub sent-slot : (t : ℕ) → t < server.stop → is_slot server.shape.size server.shape.slots t ≡ true
      → sent server (suc t) ≡ sent server t + words_ready server paths t
  sent-slot t early slot =
      sent-next server paths t
      ∙ ap (λ (b : Bool). sent server t
      + cond (b && is_slot server.shape.size server.shape.slots t) (words_ready server paths t) 0)
      (lt-ltb t server.stop early)
      ∙ ap (λ (b : Bool). sent server t + cond b (words_ready server paths t) 0) slot

  -- In a slot of the opposite channel it gives back what is owed.
  pub credited-slot : (t : ℕ) → t < server.stop
      → is_slot server.shape.size server.shape.back_slots t ≡ true
      → credited server (suc t) ≡ credited server t + credits_ready server paths t
  credited-slot t early slot =
      credited-next server paths t
      ∙ ap (λ (b : Bool). credited server t
      + cond (b && is_slot server.shape.size server.shape.back_slots t)
      (credits_ready server paths t) 0)
      (lt-ltb t server.stop early)
      ∙ ap (λ (b : Bool). credited server t + cond b (credits_ready server paths t) 0) slot

  -- The counts rest in a cycle outside the slots, or from the stop on.
  pub sent-rests : (t : ℕ) → (ltb t server.stop && is_slot server.shape.size server.shape.slots t)
      ≡ false → sent server (suc t) ≡ sent server t
  sent-rests t shut =
      sent-next server paths t
      ∙ ap (λ (b : Bool). sent server t + cond b (words_ready server paths t) 0) shut
      ∙ (omega arith)

  pub credited-rests : (t : ℕ)
      → (ltb t server.stop && is_slot server.shape.size server.shape.back_slots t) ≡ false
      → credited server (suc t) ≡ credited server t
  credited-rests t shut =
      credited-next server paths t
      ∙ ap (λ (b : Bool). credited server t + cond b (credits_ready server paths t) 0) shut
      ∙ (omega arith)

  -- The credits that are owed are no more than the buffer.
  pub owed-most : (t : ℕ) → taken server t ≤ server.buffer + credited server t
  owed-most t =
      let now = in-order server paths t in
      let before = in-order server paths (t - server.shape.path_delay) in
      let less = credited-more server paths
      (t - server.shape.path_delay - server.shape.back_path_delay) t (omega arith) in
      omega (arith, now.takes, before.allowed, less)

  -- The receiver has room for what lands next.
  pub room-next : (t : ℕ) → landed server (suc t) ≤ server.buffer + taken server t
  room-next t =
      let next : t + 1 ≡ suc t = omega arith in
      let lands = ap (λ n. landed server n) next in
      omega (arith, (has-room server paths t).lands, lands)

  -- No more credits have returned than words were sent.
  pub returned-sent : (t : ℕ) → returned server (suc t) ≤ sent server t
  returned-sent t =
      let order = in-order server paths t in
      let some = paths.back_path in
      let less =
      credited-more server paths (suc t - server.shape.back_path_delay) t (omega arith) in
      omega (arith, order.credits, order.takes, order.lands, less)
