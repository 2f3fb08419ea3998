-- The flits of a flow: how they are addressed, and how they go on.
use Rattle.std.proofs.Common.{◌≡◌, ◌∙◌, ℕ, zero, suc, ◌+◌, ◌*◌, ◌/◌, ◌^◌, ◌&&◌, ◌||◌, Bool, true}
use Rattle.std.proofs.Common.{List, [], ◌∷◌, take, not, refl, ap, arith, eq-eqb, le-leb, ◌==◌}
use Rattle.std.proofs.Common.{nat_le, slice_index}
use Rattle.std.proofs.lemmas.Bool.{and_from, and_parts, or_left, or_right}
use Rattle.aeth_base.specs.Limits.{words_per_flit}
use Rattle.aeth_header.specs.{Layout.port_bits, declared.header.Header.Header}
use Rattle.aeth_header.proofs.HeaderLemmas.{fields_of-word_of}
use Rattle.aeth_report.specs.Carries.{IsSendable, flit_at, header_at, injects, returns, sends}
use Rattle.aeth_report.specs.Flows.{Flow}
use Rattle.aeth_report.proofs.FlitLemmas.{flit_at-next, header_at-packable}
use Rattle.aeth_audit.specs.Audit.{are_blank, goes_on, is_addressed}

-- Of so many words those behind are 0.
first-blank : (n : ℕ) (words : List ℕ)
    → (nat_le 1 n || slice_index (take n words) 0 == 0) ≡ true
first-blank zero words = or_right (nat_le 1 0) (slice_index (take 0 words) 0 == 0)
    (eq-eqb (slice_index (take 0 words) 0) 0 refl)
first-blank (suc n) words = or_left (nat_le 1 (suc n)) (slice_index (take (suc n) words) 0 == 0)
    (le-leb 1 (suc n) (omega arith))

no-second : (words : List ℕ) → slice_index (take 1 words) 1 ≡ 0
no-second [] = refl
no-second (word ∷ words) = refl

second-blank : (n : ℕ) (words : List ℕ)
    → (nat_le 2 n || slice_index (take n words) 1 == 0) ≡ true
second-blank zero words = or_right (nat_le 2 0) (slice_index (take 0 words) 1 == 0)
    (eq-eqb (slice_index (take 0 words) 1) 0 refl)
second-blank (suc zero) words = or_right (nat_le 2 1) (slice_index (take 1 words) 1 == 0)
    (eq-eqb (slice_index (take 1 words) 1) 0 (no-second words))
second-blank (suc (suc n)) words =
    or_left (nat_le 2 (suc (suc n))) (slice_index (take (suc (suc n)) words) 1 == 0)
    (le-leb 2 (suc (suc n)) (omega arith))

module _ (flow : Flow) (sendable : IsSendable flow) (i u : ℕ) where
  -- A flit that is injected has the flow's route behind so many hops, its queue, a word or a credit,
  -- at most two words, and none beyond its count.
  pub flit-addressed : injects flow u ≡ true
      → is_addressed (flow.route / 2 ^ (port_bits * i)) flow.remote (flit_at flow i u) ≡ true
  flit-addressed injected =
      let flit = flit_at flow i u in
      let own = header_at flow i u in
      let packable = header_at-packable flow sendable i u in
      let test : Header → Bool = λ header. header.route == own.route && header.queue == own.queue
      && nat_le header.count words_per_flit && not (header.count == 0 && header.credits == 0)
      && are_blank header.count flit in
      let routed = eq-eqb own.route own.route refl in
      let queued = eq-eqb own.queue own.queue refl in
      let few = le-leb own.count words_per_flit packable.count in
      let some = (and_parts (nat_le flow.server.go u && _) (not (sends flow u == 0
      && returns flow u == 0)) injected).1 in
      let blank = and_from (nat_le 2 own.count || flit.second == 0)
      (nat_le 1 own.count || flit.first == 0)
      (second-blank own.count _) (first-blank own.count _) in
      ap test (fields_of-word_of own packable)
      ∙ and_from (own.route == own.route && own.queue == own.queue
      && nat_le own.count words_per_flit && not (own.count == 0 && own.credits == 0))
      (are_blank own.count flit)
      (and_from (own.route == own.route && own.queue == own.queue
      && nat_le own.count words_per_flit) (not (own.count == 0 && own.credits == 0))
      (and_from (own.route == own.route && own.queue == own.queue)
      (nat_le own.count words_per_flit)
      (and_from (own.route == own.route) (own.queue == own.queue) routed queued) few) some) blank

  -- It goes on as the flit at the next place.
  pub flit-goes_on : goes_on (flit_at flow i u) (flit_at flow (i + 1) u) ≡ true
  flit-goes_on =
      let before = flit_at flow i u in
      let after = flit_at flow (i + 1) u in
      and_from (after.header == _ && after.first == before.first) (after.second == before.second)
      (and_from (after.header == _) (after.first == before.first)
      (eq-eqb after.header _ (flit_at-next flow sendable i u))
      (eq-eqb after.first before.first refl))
      (eq-eqb after.second before.second refl)
