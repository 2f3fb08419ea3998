-- Where a receiver stands, from word to word.
use Rattle.std.proofs.Common.{ℕ, ◌+◌, ◌-◌, ◌<◌, ◌≤◌, ◌≡◌, ◌∙◌, ap, sym, subst, inl, inr, arith}
use Rattle.std.proofs.Common.{le-leb}
use Rattle.std.proofs.lemmas.Bool.{cases_eq}
use Rattle.aeth_base.proofs.ExtremeLemmas.{least_below-is}
use Rattle.aeth_server.specs.Landing.{landing_cycle}
use Rattle.aeth_server.specs.PrivateServer.{PrivateServer, pull_at, taken}
use Rattle.aeth_server.specs.WordCycles.{IsOpenFor, IsTakingFrom, taking_cycle}
use Rattle.aeth_server.proofs.WordCycles.{landed-reached, taken-reached, taking-lands, taking-later}
use Rattle.aeth_server.proofs.WordCycles.{taking-never, taking-next, taking-over, taking-rises}
use Rattle.aeth_server.proofs.WordCycles.{taking-stays, word-taken}
use Rattle.aeth_chain.specs.Lanes.{IsReceiving}

-- The word behind the first so many is waited for in a cycle, before which so many were taken; or the
-- cycles are over, and it isn't taken in them.
pub record IsWaiting (server : PrivateServer) (cycles place cycle had : ℕ) : Type 0 where
  pub within : cycle ≤ cycles
  pub low : had ≤ place
  pub from : cycle < cycles → IsTakingFrom server place cycle had
  pub over : cycle ≡ cycles → taking_cycle server cycles (place + 1) ≡ cycles

module _ (server : PrivateServer) (cycles : ℕ) (runs : IsOpenFor server cycles) (some : 1 ≤ cycles) where
  -- no word is taken in the first cycle
  taken-first : taking_cycle server cycles 0 ≡ 0
  taken-first = least_below-is _ cycles 0 (omega (arith, some))
      (le-leb 0 (taken server (0 + 1)) (omega arith)) (λ j low. absurd (omega arith))

  -- before the first word the receiver stands in the first cycle
  pub receives-first : (none : taken server 0 ≡ 0) → IsReceiving server cycles 0 0 0
  receives-first none = record {
    within = omega arith;
    last = taken-first;
    before = λ within. none;
    low = omega arith;
  }

  -- a word that lands when all before it are taken is waited for from then on
  pub waits-new : (place cycle had landing : ℕ) → IsReceiving server cycles place cycle had
      → landing ≡ landing_cycle server cycles (place + 1) → cycle < landing
      → IsWaiting server cycles place landing place
  waits-new place cycle had landing is lands later =
      let last = is.last in
      let within = (landed-reached server cycles runs (place + 1) (omega arith)).within in
      record {
        within = omega (arith, within, lands);
        low = omega arith;
        from = λ low. taking-lands server cycles runs place landing (sym lands) low
            (λ first. omega (arith, last, later));
        over = λ end. taking-never server cycles runs place (sym lands ∙ end);
      }

  -- one that has landed by then is waited for behind the last
  pub waits-old : (place cycle had landing : ℕ) → IsReceiving server cycles place cycle had
      → landing ≡ landing_cycle server cycles (place + 1) → landing ≤ cycle
      → IsWaiting server cycles place cycle had
  waits-old place cycle had landing is lands early = record {
    within = is.within;
    low = is.low;
    from = λ low.
        let count = is.before low in
        let few = is.low in
        subst (IsTakingFrom server place cycle) count
        (taking-stays server cycles runs place cycle (omega (arith, count, few))
        (omega (arith, lands, early)) low);
    over = λ end.
        let last = is.last in
        elim (cases_eq place 0) [
          | inl first ↦
              let same = ap (taking_cycle server cycles) first in
              absurd (omega (arith, same, taken-first, last, end, some))
          | inr behind ↦
              let up = taking-rises server cycles runs place (place + 1) (omega arith)
              (omega arith) in
              let most = (taken-reached server cycles runs (place + 1) (omega arith)).within in
              omega (arith, up, most, last, end)
        ];
  }

  -- while too few are taken it is waited for in the next cycle in which some may be
  pub waits-on : (place cycle had next : ℕ) → IsWaiting server cycles place cycle had
      → cycle < cycles → had + pull_at server cycle ≤ place → cycle < next → next ≤ cycles
      → ((t : ℕ) → cycle < t → t < next → pull_at server t ≡ 0)
      → IsWaiting server cycles place next (had + pull_at server cycle)
  waits-on place cycle had next is low few later within idle =
      let one = taking-next server cycles runs place cycle had (is.from low) few in
      let all : cycle + 1 + (next - (cycle + 1)) ≡ next = omega (arith, later) in
      let rest = taking-later server cycles runs place (cycle + 1)
      (had + pull_at server cycle) (next - (cycle + 1)) one
      (λ t from to. idle t (omega (arith, from)) (omega (arith, to, later))) in
      let there = subst (λ t. IsTakingFrom server place t (had + pull_at server cycle)) all rest in
      record {
        within = within;
        low = few;
        from = λ early. there;
        over = λ end. taking-over server cycles runs place (had + pull_at server cycle)
            (subst (λ t. IsTakingFrom server place t (had + pull_at server cycle)) end there);
      }

  -- where enough are taken it is taken
  pub receives-in : (place cycle had : ℕ) → IsWaiting server cycles place cycle had
      → cycle < cycles → place < had + pull_at server cycle
      → IsReceiving server cycles (place + 1) cycle had
  receives-in place cycle had is low enough =
      let few = is.low in
      record {
        within = is.within;
        last = word-taken server cycles runs place cycle had (is.from low) low enough;
        before = λ within. (is.from low).before;
        low = omega (arith, few);
      }
