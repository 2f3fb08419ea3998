-- What holds where no rule on what an application asks for is broken.
--
--   above-none    a count that isn't above the most
--   joined    each connection is one
--   busy, seated    the connections of a core, and the cores of a network interface
use Rattle.std.proofs.Common.{◌≡◌, ◌+◌, ◌<◌, ◌≤◌, ◌*◌, ◌==◌, ℕ, true, false, List, [], ◌∷◌, length}
use Rattle.std.proofs.Common.{map, Option, Some, None, refl, arith, inl, inr, Bool, All, codes}
use Rattle.std.proofs.Common.{count_by, flat_map, ne_eqb}
use Rattle.std.proofs.lemmas.Bool.{cases_lt, Decides.Decides-eqb, Decides.nat_tests}
use Rattle.std.proofs.lemmas.List.Elements.{All-cons, All-head, All-nil, All-tail, All-weaker}
use Rattle.toml.specs.Data.{Members}
use Rattle.aeth_base.specs.declared.ids.{CoreId.CoreId, NiId.NiId}
use Rattle.aeth_base.specs.Limits.{words_per_flit}
use Rattle.aeth_document.specs.{Values.text_at, Walks.first_broken, Walks.next_place}
use Rattle.aeth_document.proofs.WalkLemmas.{first_broken-head, first_broken-range}
use Rattle.aeth_document.proofs.WalkLemmas.{first_broken-tail}
use Rattle.aeth_app.specs.{declared.connection.Connection.Connection, declared.connection.Core.Core}
use Rattle.aeth_app.specs.{declared.connection.Wish.Wish, App.IsConnection, App.IsWish, App.is_end}
use Rattle.aeth_app.specs.{App.is_fixed_to, App.is_ni, Demands.above, Demands.core_too_busy}
use Rattle.aeth_app.specs.{Demands.own_end, Demands.seats_overfull, Demands.too_fast}
use Rattle.aeth_app.specs.{Limits.max_core_connections, Limits.seats_per_ni, Parts.connection_of}
use Rattle.aeth_app.specs.{Parts.wish_in, Ranges.IsConnectionInRange, Ranges.IsWishInRange}
use Rattle.aeth_app.specs.{Tables.wish_at, Unknown.ends_in, Unknown.unknown}
use Rattle.aeth_app.proofs.PartLemmas.{IsFixedBelow, end_of-within}

-- A count that isn't above the most is at most that.
pub above-none : (most count : ℕ) → above most count ≡ None → count ≤ most
above-none most count none = grind (arith, nat_tests)

too_fast-none : (wish : Wish) → too_fast wish ≡ None → wish.words ≤ words_per_flit * wish.per
too_fast-none wish none = grind (arith, nat_tests)

own_end-none : (cores : List Core) (connection : Connection)
    → own_end cores connection ≡ None → connection.from.0 ≡ connection.to.0 → ⊥
own_end-none cores connection none same =
    let equal : (connection.from.0 == connection.to.0) ≡ true =
    (Decides-eqb connection.from.0 connection.to.0).1 same in
    absurd (cc (rw equal at none))

-- A wish in its ranges that isn't too fast is one.
is_wish : (table : Members) → IsWishInRange table → too_fast (wish_in table) ≡ None
    → IsWish (wish_in table)
is_wish table range slow = record {
  words = range.words;
  rate = too_fast-none (wish_in table) slow;
  some_per = range.some_per;
  per = range.per;
  some_latency = range.some_latency;
  latency = range.latency;
  delay = range.delay;
}

-- Where no walk finds anything, each connection is one.
pub joined : (names : List (List ℕ)) (cores : List Core) (at on by : ℕ) (tables : List Members)
    → first_broken at (map (unknown names) (flat_map ends_in tables)) ≡ None
    → All IsConnectionInRange tables
    → first_broken on (flat_map (λ c. too_fast c.fwd ∷ too_fast c.back ∷ [])
    (map (connection_of names) tables)) ≡ None
    → first_broken by (map (own_end cores) (map (connection_of names) tables)) ≡ None
    → All (IsConnection (length names)) (map (connection_of names) tables)
joined names cores at on by [] known range slow apart = All-nil (IsConnection (length names))
joined names cores at on by (table ∷ tables) known range slow apart =
    let c = connection_of names table in
    let more = flat_map ends_in tables in
    let others = map (connection_of names) tables in
    let rates = flat_map (λ c. too_fast c.fwd ∷ too_fast c.back ∷ []) others in
    let from = text_at (codes "from") table in
    let to = text_at (codes "to") table in
    let after_from = first_broken-tail at (unknown names from) (map (unknown names) (to ∷ more))
    known in
    let after_fwd = first_broken-tail on (too_fast c.fwd) (too_fast c.back ∷ rates) slow in
    let here = All-head IsConnectionInRange table tables range in
    let first : IsConnection (length names) c = record {
      from = end_of-within names from (first_broken-head at (unknown names from)
          (map (unknown names) (to ∷ more)) known);
      to = end_of-within names to (first_broken-head (next_place at) (unknown names to)
          (map (unknown names) more) after_from);
      apart = own_end-none cores c (first_broken-head by (own_end cores c)
          (map (own_end cores) others) apart);
      fwd = is_wish (wish_at (codes "fwd") table) here.fwd
          (first_broken-head on (too_fast c.fwd) (too_fast c.back ∷ rates) slow);
      back = is_wish (wish_at (codes "back") table) here.back
          (first_broken-head (next_place on) (too_fast c.back) rates after_fwd);
    } in
    All-cons (IsConnection (length names)) c others first
    (joined names cores (next_place (next_place at)) (next_place (next_place on)) (next_place by)
    tables
    (first_broken-tail (next_place at) (unknown names to) (map (unknown names) more) after_from)
    (All-tail IsConnectionInRange table tables range)
    (first_broken-tail (next_place on) (too_fast c.back) rates after_fwd)
    (first_broken-tail by (own_end cores c) (map (own_end cores) others) apart))

-- What none passes, none is counted.
count_by-none : {X : Type 0} (test : X → Bool) (xs : List X) → All (λ x. test x ≡ false) xs
    → count_by test xs ≡ 0
count_by-none test [] none = refl
count_by-none test (x ∷ xs) none =
    let here = All-head (λ y. test y ≡ false) x xs none in
    let rest = count_by-none test xs (All-tail (λ y. test y ≡ false) x xs none) in
    rw here rest

-- A core past the last one is no end.
no_end : (cores : ℕ) (core : CoreId) (connection : Connection) → cores ≤ core.0
    → IsConnection cores connection → is_end core connection ≡ false
no_end cores core connection past is =
    let from : (connection.from.0 == core.0) ≡ false =
    ne_eqb connection.from.0 core.0 (λ same. absurd (omega (arith, is.from))) in
    let to : (connection.to.0 == core.0) ≡ false =
    ne_eqb connection.to.0 core.0 (λ same. absurd (omega (arith, is.to))) in
    rw (from, to) refl

-- Each core is an end of few connections.
pub busy : (cores : ℕ) (connections : List Connection) → All (IsConnection cores) connections
    → core_too_busy cores connections ≡ None → (core : CoreId)
    → count_by (is_end core) connections ≤ max_core_connections
busy cores connections are none core =
    elim (cases_lt core.0 cores) [
      | inl within ↦
          let same : 0 + core.0 ≡ core.0 = omega arith in
          above-none max_core_connections (count_by (is_end core) connections)
          (rw same at (first_broken-range (λ n. above max_core_connections
          (count_by (is_end (record { 0 = n })) connections)) 0 0 cores core.0 none within))
      | inr past ↦
          let none_is = count_by-none (is_end core) connections
          (All-weaker (IsConnection cores) (λ c. is_end core c ≡ false)
          (λ c is. no_end cores core c past is) connections are) in
          omega arith
    ]

no_ni : (nis ni : ℕ) (fixed : Option NiId) → nis ≤ ni
    → ((n : NiId) → fixed ≡ Some n → n.0 < nis) → is_ni fixed ni ≡ false
no_ni nis ni None past below = refl
no_ni nis ni (Some n) past below =
    let within = below n refl in
    ne_eqb n.0 ni (λ same. absurd (omega arith))

-- Few cores are fixed to each network interface.
pub seated : (nis : ℕ) (cores : List Core) → All (IsFixedBelow nis) cores
    → seats_overfull nis cores ≡ None → (ni : ℕ) → count_by (is_fixed_to ni) cores ≤ seats_per_ni
seated nis cores are none ni =
    elim (cases_lt ni nis) [
      | inl within ↦
          let same : 0 + ni ≡ ni = omega arith in
          above-none seats_per_ni (count_by (is_fixed_to ni) cores)
          (rw same at (first_broken-range (λ n. above seats_per_ni (count_by (is_fixed_to n) cores)) 0 0 nis
          ni none within))
      | inr past ↦
          let none_is = count_by-none (is_fixed_to ni) cores
          (All-weaker (IsFixedBelow nis) (λ c. is_fixed_to ni c ≡ false)
          (λ c below. no_ni nis ni c.fixed past below) cores are) in
          omega arith
    ]
