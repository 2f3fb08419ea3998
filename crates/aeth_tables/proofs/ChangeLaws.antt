-- What a connection adds to a switch is little, and what all add.
use Rattle.std.proofs.Common.{◌≡◌, ◌∙◌, ◌≤◌, ◌+◌, ◌++◌, ◌&&◌, ◌==◌, ℕ, Bool, false, List, [], ◌*◌}
use Rattle.std.proofs.Common.{◌∷◌, All, length, max, refl, ap, arith}
use Rattle.std.proofs.Math.Bool.{and-false}
use Rattle.std.proofs.lemmas.List.{Elements.All-head, Elements.All-tail, Sums.sum_by-cons}
use Rattle.aeth_base.specs.Limits.{max_slots}
use Rattle.aeth_slots.specs.SlotSet.{IsSlotSet, Slots}
use Rattle.aeth_slots.proofs.Ascending.{Ascends-length}
use Rattle.aeth_group.specs.Members.{GroupsData, group_at, has_at, is_kept}
use Rattle.aeth_app.specs.Limits.{max_connections}
use Rattle.aeth_tables.specs.Changes.{AreFew, lag_in, made, most_writes, writes_in}
use Rattle.aeth_tables.specs.declared.changes.Change.{Change}

-- A slot set has no more slots than a table may have.
pub few_slots : (set : Slots) → IsSlotSet set → length set.slots ≤ max_slots
few_slots set is = omega (arith, Ascends-length 0 set.size set.slots (omega arith) is.ascends, is.within)

-- The greatest lag, and the writes, of one change more.
pub lag_in-push : (changes : List Change) (one : Change)
    → lag_in (changes ++ one ∷ []) ≡ max (lag_in changes) one.lag
lag_in-push [] one = omega arith
lag_in-push (change ∷ changes) one = let later = lag_in-push changes one in omega arith

pub writes_in-push : (changes : List Change) (one : Change)
    → writes_in (changes ++ one ∷ []) ≡ writes_in changes + one.writes
writes_in-push [] one = omega (arith, sum_by-cons (λ (c : Change). c.writes) one [])
writes_in-push (change ∷ changes) one =
    omega (
      arith,
      writes_in-push changes one,
      sum_by-cons (λ (c : Change). c.writes) change (changes ++ one ∷ []),
      sum_by-cons (λ (c : Change). c.writes) change changes,
    )

-- The writes of few changes are few.
writes-few : (changes : List Change) → All (λ (one : Change). one.writes ≤ most_writes) changes
    → writes_in changes ≤ most_writes * length changes
writes-few [] all = omega arith
writes-few (change ∷ changes) all =
    let small = λ (one : Change). one.writes ≤ most_writes in
    omega (
      arith,
      All-head small change changes all,
      writes-few changes (All-tail small change changes all),
      sum_by-cons (λ (c : Change). c.writes) change changes,
    )

pub few_writes : (changes : List Change) → AreFew changes
    → writes_in changes ≤ most_writes * max_connections
few_writes changes few = omega (arith, writes-few changes few.each, few.count)

-- A switch between two groups makes all changes.
pub made-apart : (groups : GroupsData) (u v : ℕ) → (group_at groups u == group_at groups v) ≡ false
    → (changes : List Change) → made groups u v changes ≡ changes
made-apart groups u v apart [] = refl
made-apart groups u v apart (change ∷ changes) =
    let c = change.conn.0 in
    let kept : is_kept groups u v c ≡ false =
    ap (λ (b : Bool). (has_at groups u c && has_at groups v c) && b) apart
    ∙ and-false (has_at groups u c && has_at groups v c) in
    rw (kept, made-apart groups u v apart changes) refl
