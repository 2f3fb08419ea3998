-- What `Alone` remembers of a private server is its state from cycle to cycle.
use Rattle.std.proofs.Common.{ℕ, ◌+◌, ◌-◌, ◌<◌, ◌≡◌, ◌∙◌, zero, suc, Bool, List, ◌∷◌, get_or, take}
use Rattle.std.proofs.Common.{sym, refl, ap, arith, replicate, slice_index, get_or-take}
use Rattle.aeth_base.specs.Limits.{max_path_delay}
use Rattle.aeth_server.specs.Shape.{Shape}
use Rattle.aeth_server.specs.PrivateServer.{PrivateServer, Counts, arrived, counts_after, sent}
use Rattle.aeth_server.specs.PrivateServer.{landed, taken, credited, returned}
use Rattle.aeth_server.specs.AloneState.{AloneState, FitsMemory, IsStateAt, IsGivenAt, first_state}
use Rattle.aeth_server.specs.AloneState.{next_counts, after_cycle}
use Rattle.aeth_server.proofs.PrivateServerLemmas.{counts-none, counts_with, counts-next}

-- Counts of which there were none yet.
none-entry : (n j : ℕ) → slice_index (replicate n 0) j ≡ 0
none-entry zero j = refl
none-entry (suc n) zero = refl
none-entry (suc n) (suc j) = none-entry n j

-- Before the first cycle.
pub state-first : (server : PrivateServer)
    → IsStateAt server 0 (first_state server.shape server.buffer)
state-first server =
    let idle = counts-none server in
    record {
      shape = refl;
      buffer = refl;
      time = refl;
      arrived = sym idle.arrived;
      taken = sym idle.taken;
      sent = λ j low.
          let none : 0 - j ≡ 0 = omega arith in
          none-entry max_path_delay j ∙ sym (ap (sent server) none ∙ idle.sent);
      credited = λ j low.
          let none : 0 - j ≡ 0 = omega arith in
          none-entry max_path_delay j ∙ sym (ap (credited server) none ∙ idle.credited);
    }

-- One more count before the last ones.
shifted-entry : (count : ℕ → ℕ) (newest t : ℕ) (last : List ℕ) → newest ≡ count (suc t)
    → ((j : ℕ) → j < max_path_delay → get_or last j 0 ≡ count (t - j)) → (j : ℕ) → j < max_path_delay
    → get_or (newest ∷ take (max_path_delay - 1) last) j 0 ≡ count (suc t - j)
shifted-entry count newest t last is entries zero low =
    let first : suc t ≡ suc t - 0 = omega arith in is ∙ ap count first
shifted-entry count newest t last is entries (suc j) low =
    let before : t - j ≡ suc t - suc j = omega arith in
    get_or-take (max_path_delay - 1) last j 0 (omega arith) ∙ entries j (omega arith) ∙ ap count before

module _ (server : PrivateServer) (fits : FitsMemory server.shape) (t : ℕ) (s : AloneState)
    (at : IsStateAt server t s) where
  -- what lands and returns by the end of the cycle is still remembered
  landed-remembered : slice_index s.sent (s.shape.path_delay - 1) ≡ landed server (suc t)
  landed-remembered =
      let same = ap (λ (shape : Shape). slice_index s.sent (shape.path_delay - 1)) at.shape in
      let ago : t - (server.shape.path_delay - 1) ≡ suc t - server.shape.path_delay =
      omega (arith, fits.paths.path) in
      let entry = at.sent (server.shape.path_delay - 1)
      (omega (arith, fits.paths.path, fits.most_path)) in
      same ∙ entry ∙ ap (sent server) ago

  returned-remembered : slice_index s.credited (s.shape.back_path_delay - 1)
      ≡ returned server (suc t)
  returned-remembered =
      let same =
      ap (λ (shape : Shape). slice_index s.credited (shape.back_path_delay - 1)) at.shape in
      let ago : t - (server.shape.back_path_delay - 1) ≡ suc t - server.shape.back_path_delay =
      omega (arith, fits.paths.back_path) in
      let entry = at.credited (server.shape.back_path_delay - 1)
      (omega (arith, fits.paths.back_path, fits.most_back_path)) in
      same ∙ entry ∙ ap (credited server) ago

  -- after the cycle
  pub state-next : (words pull : ℕ) (may_send : Bool) → IsGivenAt server t words pull may_send
      → IsStateAt server (t + 1) (after_cycle s words pull may_send)
  state-next words pull may_send given =
      let next : t + 1 ≡ suc t = omega arith in
      let now : t - 0 ≡ t = omega arith in
      let offered = ap (λ n. n + words) at.arrived ∙ given.offered in
      let arrives : s.arrived + words ≡ arrived server (suc t) =
      offered ∙ ap (arrived server) next in
      let sent_is : slice_index s.sent 0 ≡ sent server t =
      at.sent 0 (omega arith) ∙ ap (sent server) now in
      let credited_is : slice_index s.credited 0 ≡ credited server t =
      at.credited 0 (omega arith) ∙ ap (credited server) now in
      let shape_is = at.shape in
      let buffer_is = at.buffer in
      let time_is = at.time in
      let taken_is = at.taken in
      let pull_is = given.takes in
      let may_is = given.sends in
      let lands = landed-remembered in
      let returns = returned-remembered in
      let same : next_counts s words pull may_send
      ≡ counts_with server fits.paths t (landed server (suc t)) (returned server (suc t)) =
      λ i. counts_after (shape_is i) (buffer_is i)
      (record { time = time_is i; arrived = arrives i; pull = pull_is i; may_send = may_is i })
      (record { sent = sent_is i; taken = taken_is i; credited = credited_is i })
      (lands i) (returns i) in
      let counts_are = same ∙ sym (counts-next server fits.paths t) in
      record {
        shape = at.shape;
        buffer = at.buffer;
        time = ap (λ n. n + 1) at.time;
        arrived = offered;
        taken = ap (λ (c : Counts). c.taken) counts_are ∙ sym (ap (taken server) next);
        sent = λ j low.
            shifted-entry (sent server) _ t s.sent (ap (λ (c : Counts). c.sent) counts_are)
            at.sent j low
            ∙ ap (λ n. sent server (n - j)) (sym next);
        credited = λ j low.
            shifted-entry (credited server) _ t s.credited
            (ap (λ (c : Counts). c.credited) counts_are) at.credited j low
            ∙ ap (λ n. credited server (n - j)) (sym next);
      }

  -- the words that land by its end
  pub lands-next : slice_index s.sent (s.shape.path_delay - 1) ≡ landed server (t + 1)
  lands-next =
      let next : t + 1 ≡ suc t = omega arith in
      landed-remembered ∙ ap (landed server) (sym next)
