-- Laws of how many connections each core has, and of their positions.
use Rattle.std.proofs.Common.{◌≡◌, ◌∙◌, ◌+◌, ◌<◌, ◌≤◌, ℕ, true, cond, List, [], length, take, Some}
use Rattle.std.proofs.Common.{slice_get, get_or, replicate, eqb, ap, subst, sym, inl, inr, arith}
use Rattle.std.proofs.Common.{IsSomeAnd, IsTrue, eqb-true, take_all}
use Rattle.std.proofs.lemmas.Bool.{cases_Bool, or_cases}
use Rattle.std.proofs.lemmas.List.{get_or-replicate, length-replicate}
use Rattle.std.proofs.lemmas.List.Sums.{count_by_more_no, count_by_more_yes}
use Rattle.std.proofs.lemmas.Option.{get_or_from_slice_get, same_Some, slice_get_within}
use Rattle.aeth_base.specs.declared.ids.CoreId.{CoreId}
use Rattle.aeth_app.specs.App.{is_end, position_of}
use Rattle.aeth_app.specs.Ends.{AreEndCounts, ArePositions, IsPlaced}
use Rattle.aeth_app.specs.declared.{connection.Connection.Connection, ends.Positions.Positions}

-- Without a connection none has one.
pub counts-none : (cores : ℕ) → AreEndCounts cores [] (replicate cores 0)
counts-none cores = record {
  size = length-replicate cores 0;
  each = λ core low. get_or-replicate cores core.0 0 0 low;
}

-- One more connection of both its ends.
pub counts-more : (cores : ℕ) (connections : List Connection) (i : ℕ) (c : Connection)
    (old new : List ℕ) → slice_get connections i ≡ Some c
    → AreEndCounts cores (take i connections) old → length new ≡ length old
    → ((core : CoreId) → core.0 < length old
    → get_or new core.0 0 ≡ get_or old core.0 0 + cond (is_end core c) 1 0)
    → AreEndCounts cores (take (i + 1) connections) new
counts-more cores connections i c old new at are same more =
    let within = slice_get_within connections i c at in
    let read = get_or_from_slice_get connections i c c at in
    record {
      size = same ∙ are.size;
      each = λ core low.
          let step = more core (omega (arith, are.size)) in
          let before = are.each core low in
          elim (cases_Bool (is_end core c)) [
            | inl is_one ↦
                let one = count_by_more_yes (is_end core) connections i c within
                (ap (is_end core) read ∙ is_one) in
                let next : get_or new core.0 0 ≡ get_or old core.0 0 + 1 = rw is_one at step in
                omega (arith, before, next, one)
            | inr is_none ↦
                let one = count_by_more_no (is_end core) connections i c within
                (ap (is_end core) read ∙ is_none) in
                let next : get_or new core.0 0 ≡ get_or old core.0 0 + 0 = rw is_none at step in
                omega (arith, before, next, one)
          ];
    }

-- All of them.
pub counts-all : (cores n : ℕ) (connections : List Connection) (counts : List ℕ)
    → AreEndCounts cores (take n connections) counts → length connections ≤ n
    → AreEndCounts cores connections counts
counts-all cores n connections counts are whole =
    subst (λ (cs : List Connection). AreEndCounts cores cs counts) (take_all n connections whole)
    are

-- What is counted at the ends of the next connection are its positions.
pub placed : (cores : ℕ) (connections : List Connection) (i : ℕ) (c : Connection)
    (counts : List ℕ) (its : Positions) → slice_get connections i ≡ Some c
    → AreEndCounts cores (take i connections) counts → c.from.0 < cores → c.to.0 < cores
    → its.from ≡ get_or counts c.from.0 0 → its.to ≡ get_or counts c.to.0 0
    → IsPlaced connections i its
placed cores connections i c counts its at are low_from low_to from to = record {
  from = λ other there.
      let same : c ≡ other = same_Some c other (sym at ∙ there) in
      from ∙ are.each c.from low_from
      ∙ ap (λ (o : Connection). position_of connections o.from i) same;
  to = λ other there.
      let same : c ≡ other = same_Some c other (sym at ∙ there) in
      to ∙ are.each c.to low_to
      ∙ ap (λ (o : Connection). position_of connections o.to i) same;
}

module _ (connections : List Connection) (positions : List Positions) (i : ℕ) (core : CoreId)
    (c : Connection) (its : Positions) (are : ArePositions connections positions)
    (at : slice_get positions i ≡ Some its) (there : slice_get connections i ≡ Some c) where
  -- The position at the first end.
  pub position-from : c.from.0 ≡ core.0 → its.from ≡ position_of connections core i
  position-from same =
      (are.each i its at).from c there
      ∙ ap (λ n. position_of connections (record { 0 = n }) i) same

  -- And at the second one, for a core that is an end and not the first.
  pub position-to : IsSomeAnd (slice_get connections i) (λ c. IsTrue (is_end core c))
      → (c.from.0 ≡ core.0 → ⊥) → its.to ≡ position_of connections core i
  position-to ends other =
      let is : is_end core c ≡ true = rw there at ends in
      elim (or_cases (eqb c.from.0 core.0) (eqb c.to.0 core.0) is) [
        | inl first ↦ absurd (other (eqb-true c.from.0 core.0 first))
        | inr second ↦
            (are.each i its at).to c there
            ∙ ap (λ n. position_of connections (record { 0 = n }) i)
            (eqb-true c.to.0 core.0 second)
      ]
