-- Positions of a core's connections ascend.
use Rattle.std.proofs.Common.{◌≡◌, ◌∙◌, ◌<◌, ℕ, true, List, take, slice_get, inl, inr, arith}
use Rattle.std.proofs.Common.{IsSomeAnd, IsTrue, take-take}
use Rattle.std.proofs.lemmas.{Bool.cases_order, Option.slice_get_cases}
use Rattle.aeth_base.proofs.Lists.{count_by-before, slice_get-take}
use Rattle.aeth_base.specs.declared.ids.CoreId.{CoreId}
use Rattle.aeth_app.specs.{App.is_end, App.position_of, declared.connection.Connection.Connection}

-- A later connection has a greater position.
pub position_of-ascends : (connections : List Connection) (core : CoreId) (i j : ℕ)
    → IsSomeAnd (slice_get connections i) (λ c. IsTrue (is_end core c)) → i < j
    → position_of connections core i < position_of connections core j
position_of-ascends connections core i j ends before =
    elim ((slice_get_cases connections i).1) [
      | inl found ↦
          let here : is_end core found.0 ≡ true = rw found.2 at ends in
          rw (← take-take i j connections (omega arith))
          (count_by-before (is_end core) (take j connections) i found.0
          (slice_get-take j connections i before ∙ found.2) here)
      | inr past ↦ absurd (rw past.1 at ends)
    ]

-- Connections of a core with one position are one.
pub position_of-apart : (connections : List Connection) (core : CoreId) (i j : ℕ)
    → IsSomeAnd (slice_get connections i) (λ c. IsTrue (is_end core c))
    → IsSomeAnd (slice_get connections j) (λ c. IsTrue (is_end core c))
    → position_of connections core i ≡ position_of connections core j → i ≡ j
position_of-apart connections core i j first second same = elim (cases_order i j) [
  | inl is ↦ is
  | inr other ↦ elim other [
    | inl less ↦
        let ascends = position_of-ascends connections core i j first less in
        absurd (omega arith)
    | inr more ↦
        let ascends = position_of-ascends connections core j i second more in
        absurd (omega arith)
  ]
]
