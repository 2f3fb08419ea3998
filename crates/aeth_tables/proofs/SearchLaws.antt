-- Lists that rise by a test, in which at most one item passes another: where it is found.
use Rattle.std.proofs.Common.{◌≡◌, ◌∙◌, ◌<◌, ◌≤◌, ℕ, zero, suc, Bool, true, false, cond, List, []}
use Rattle.std.proofs.Common.{◌∷◌, Some, None, length, slice_get, get_or, refl, sym, ap, subst, inl}
use Rattle.std.proofs.Common.{inr, arith, eqb-true, find, nat_lt, ◌==◌}
use Rattle.std.proofs.lemmas.Bool.{and_parts, cases_Bool, cases_lt, false_from_ne_true, false≢true}
use Rattle.std.proofs.lemmas.Bool.Decides.{nat_tests}
use Rattle.std.proofs.lemmas.Option.{get_or_from_slice_get, same_Some, slice_get-get_or}
use Rattle.std.proofs.lemmas.Option.{slice_get_within}
use Rattle.std.specs.List.Sorted.{IsPartitionPoint, IsPartitionedBy}
use Rattle.aeth_base.specs.declared.ids.{CoreId.CoreId, Side.Side, Unit.Unit as GroupUnit}
use Rattle.aeth_base.proofs.SideLemmas.{same_side-is}
use Rattle.aeth_group.specs.declared.grant.{Grant.Grant, SeatLine.SeatLine}
use Rattle.aeth_text.specs.Order.{Rises, RisesAfter}
use Rattle.aeth_plan.specs.Plan.{grant_before, seat_before}
use Rattle.aeth_plan.specs.UnitGrants.{is_before, is_for, sought}
use Rattle.aeth_plan.proofs.MadePlans.{before_trans, same_number, side_before-itself}
use Rattle.aeth_tables.specs.Granted.{grant_of, line_of}
use Rattle.aeth_tables.proofs.FindLaws.{find-at, find-none}

-- A list rises by `before`. What comes before an item that passes `test` is `ahead`, and that item isn't.
module _ {X : Type 0} (before : X → X → Bool)
    (chain : (a b c : X) → before a b ≡ true → before b c ≡ true → before a c ≡ true)
    (test ahead : X → Bool)
    (level : (a x : X) → test x ≡ true → before a x ≡ ahead a)
    (off : (x : X) → test x ≡ true → ahead x ≡ false)
    (xs : List X) (rises : Rises before xs) where
  after-all : (last : X) (ys : List X) → RisesAfter before last ys → (k : ℕ) (y : X)
      → slice_get ys k ≡ Some y → before last y ≡ true
  after-all last [] rising k y at = absurd (cc at)
  after-all last (x ∷ ys) rising zero y at =
      subst (λ (z : X). before last z ≡ true) (same_Some x y at) rising.0
  after-all last (x ∷ ys) rising (suc k) y at =
      chain last x y rising.0 (after-all x ys rising.1 k y at)

  -- Each item comes before each later one.
  pairs-after : (last : X) (ys : List X) → RisesAfter before last ys → (i j : ℕ) (a b : X) → i < j
      → slice_get (last ∷ ys) i ≡ Some a → slice_get (last ∷ ys) j ≡ Some b → before a b ≡ true
  pairs-after last ys rising i zero a b below at_i at_j = absurd (omega arith)
  pairs-after last ys rising zero (suc j) a b below at_i at_j =
      subst (λ (z : X). before z b ≡ true) (same_Some last a at_i)
      (after-all last ys rising j b at_j)
  pairs-after last [] rising (suc i) (suc j) a b below at_i at_j = absurd (cc at_j)
  pairs-after last (x ∷ ys) rising (suc i) (suc j) a b below at_i at_j =
      pairs-after x ys rising.1 i j a b (omega arith) at_i at_j

  pairs-in : (ys : List X) → Rises before ys → (i j : ℕ) (a b : X) → i < j
      → slice_get ys i ≡ Some a → slice_get ys j ≡ Some b → before a b ≡ true
  pairs-in [] rising i j a b below at_i at_j = absurd (cc at_j)
  pairs-in (y ∷ ys) rising i j a b below at_i at_j =
      pairs-after y ys rising i j a b below at_i at_j

  -- An item that passes is the one that is found.
  pub find-only : (n : ℕ) (x : X) → slice_get xs n ≡ Some x → test x ≡ true
      → find test xs ≡ Some x
  find-only n x at passes =
      find-at test xs n x (λ k y less at_k. false_from_ne_true (test y) (λ also.
      let earlier = pairs-in xs rises k n y x less at_k at in
      false≢true (sym (off y also) ∙ sym (level y x passes) ∙ earlier))) at passes

  module _ (onward : (a b : X) → before a b ≡ true → ahead b ≡ true → ahead a ≡ true) where
    -- Those that are ahead are the first ones.
    pub ahead-first : IsPartitionedBy ahead xs
    ahead-first i j d le within is = elim (cases_lt i j) [
      | inl less ↦ onward (get_or xs i d) (get_or xs j d)
          (pairs-in xs rises i j (get_or xs i d) (get_or xs j d) less
          (slice_get-get_or xs i d (omega arith)) (slice_get-get_or xs j d within)) is
      | inr past ↦
          let same : j ≡ i = omega arith in
          subst (λ (k : ℕ). ahead (get_or xs k d) ≡ true) same is
    ]

  module _ (n : ℕ) (point : IsPartitionPoint (λ x. ahead x ≡ true) (λ x. ahead x ≡ false) xs n)
    where
      early-fails : (k : ℕ) (x : X) → k < n → slice_get xs k ≡ Some x → test x ≡ false
      early-fails k x less at = false_from_ne_true (test x) (λ passes.
          let is = subst (λ (z : X). ahead z ≡ true) (get_or_from_slice_get xs k x x at)
          (point.0 k x (omega arith) less) in
          false≢true (sym (off x passes) ∙ is))

      late-fails : (y : X) → slice_get xs n ≡ Some y → (k : ℕ) (x : X) → n < k
          → slice_get xs k ≡ Some x → test x ≡ false
      late-fails y at k x more at_k = false_from_ne_true (test x) (λ passes.
          let is = subst (λ (z : X). ahead z ≡ false) (get_or_from_slice_get xs n y y at)
          (point.1 n y (omega arith) (slice_get_within xs n y at)) in
          false≢true (sym is ∙ sym (level y x passes) ∙ pairs-in xs rises n k y x more at at_k))

      -- The first that isn't ahead is the one, or none is.
      pub found-there : (y : X) → slice_get xs n ≡ Some y
          → find test xs ≡ cond (test y) (Some y) None
      found-there y at = elim (cases_Bool (test y)) [
        | inl passes ↦ find-only n y at passes
            ∙ sym (ap (λ (b : Bool). cond b (Some y) None) passes)
        | inr fails ↦ find-none test xs (λ k x at_k. elim (cases_lt k n) [
          | inl less ↦ early-fails k x less at_k
          | inr past ↦ elim (cases_lt n k) [
            | inl more ↦ late-fails y at k x more at_k
            | inr equal ↦
                let place : n ≡ k = omega arith in
                let same = same_Some y x (sym at ∙ ap (slice_get xs) place ∙ at_k) in
                subst (λ (z : X). test z ≡ false) same fails
          ]
        ])
            ∙ sym (ap (λ (b : Bool). cond b (Some y) None) fails)
      ]

      -- Where all are ahead, none is.
      pub found-past : length xs ≤ n → find test xs ≡ None
      found-past past = find-none test xs (λ k x at.
          let within = slice_get_within xs k x at in
          early-fails k x (omega arith) at)

-- ---- Seats

chain-seats : (m n o : ℕ) → nat_lt m n ≡ true → nat_lt n o ≡ true → nat_lt m o ≡ true
chain-seats m n o one two = grind (arith, nat_tests)

level-seats : (m n o : ℕ) → (n == o) ≡ true → nat_lt m n ≡ nat_lt m o
level-seats m n o same = ap (nat_lt m) (eqb-true n o same)

off-seats : (n o : ℕ) → (n == o) ≡ true → nat_lt n o ≡ false
off-seats n o same = grind (arith, nat_tests)

module _ (seats : List SeatLine) (rises : Rises seat_before seats) (core : CoreId) where
  -- A line that seats the core is the one.
  pub seat-only : (n : ℕ) (line : SeatLine) → slice_get seats n ≡ Some line
      → (line.core.0 == core.0) ≡ true → line_of seats core ≡ Some line
  seat-only = find-only seat_before (λ a b c. chain-seats a.core.0 b.core.0 c.core.0)
      (λ line. line.core.0 == core.0) (λ line. nat_lt line.core.0 core.0)
      (λ a x. level-seats a.core.0 x.core.0 core.0) (λ x. off-seats x.core.0 core.0) seats rises

  -- Those of cores before it are the first ones.
  pub seats-first : IsPartitionedBy (λ (line : SeatLine). nat_lt line.core.0 core.0) seats
  seats-first = ahead-first seat_before (λ a b c. chain-seats a.core.0 b.core.0 c.core.0)
      (λ line. line.core.0 == core.0) (λ line. nat_lt line.core.0 core.0)
      (λ a x. level-seats a.core.0 x.core.0 core.0) (λ x. off-seats x.core.0 core.0) seats rises
      (λ a b. chain-seats a.core.0 b.core.0 core.0)

  module _ (n : ℕ) (point : IsPartitionPoint (λ (line : SeatLine). nat_lt line.core.0 core.0 ≡ true)
      (λ (line : SeatLine). nat_lt line.core.0 core.0 ≡ false) seats n) where
    -- The first of no core before it is the one, or none is.
    pub seat-there : (line : SeatLine) → slice_get seats n ≡ Some line
        → line_of seats core ≡ cond (line.core.0 == core.0) (Some line) None
    seat-there = found-there seat_before (λ a b c. chain-seats a.core.0 b.core.0 c.core.0)
        (λ line. line.core.0 == core.0) (λ line. nat_lt line.core.0 core.0)
        (λ a x. level-seats a.core.0 x.core.0 core.0) (λ x. off-seats x.core.0 core.0) seats rises
        n point

    pub seat-past : length seats ≤ n → line_of seats core ≡ None
    seat-past = found-past seat_before (λ a b c. chain-seats a.core.0 b.core.0 c.core.0)
        (λ line. line.core.0 == core.0) (λ line. nat_lt line.core.0 core.0)
        (λ a x. level-seats a.core.0 x.core.0 core.0) (λ x. off-seats x.core.0 core.0) seats rises
        n point

-- ---- Grants

module _ (unit : GroupUnit) (side : Side) where
  level-grants : (a x : Grant) → is_for unit side x ≡ true → grant_before a x ≡ is_before unit side a
  level-grants a x found =
      let (conn, onward) = and_parts (x.unit.conn.0 == unit.conn.0) _ found in
      let (group, same) = and_parts (x.unit.group.0 == unit.group.0) _ onward in
      rw (
        eqb-true x.unit.conn.0 unit.conn.0 conn,
        eqb-true x.unit.group.0 unit.group.0 group,
        same_side-is x.side side same,
      ) refl

  off-grants : (x : Grant) → is_for unit side x ≡ true → is_before unit side x ≡ false
  off-grants x found = sym (level-grants x x found) ∙ same_number x.unit.conn.0 _
      ∙ same_number x.unit.group.0 _ ∙ side_before-itself x.side

  module _ (grants : List Grant) (rises : Rises grant_before grants) where
    -- A grant for the side is the one.
    pub grant-only : (n : ℕ) (x : Grant) → slice_get grants n ≡ Some x
        → is_for unit side x ≡ true → grant_of grants side unit ≡ Some x
    grant-only = find-only grant_before before_trans (is_for unit side) (is_before unit side)
        level-grants off-grants grants rises

    -- Those that come before it are the first ones.
    pub before-first : IsPartitionedBy (is_before unit side) grants
    before-first = ahead-first grant_before before_trans (is_for unit side) (is_before unit side)
        level-grants off-grants grants rises
        (λ a b earlier is. before_trans a b (sought unit side a) earlier is)

    module _ (n : ℕ) (point : IsPartitionPoint (λ x. is_before unit side x ≡ true)
        (λ x. is_before unit side x ≡ false) grants n) where
      -- The first that doesn't come before it is the one, or none is.
      pub grant-there : (y : Grant) → slice_get grants n ≡ Some y
          → grant_of grants side unit ≡ cond (is_for unit side y) (Some y) None
      grant-there = found-there grant_before before_trans (is_for unit side)
          (is_before unit side) level-grants off-grants grants rises n point

      pub grant-past : length grants ≤ n → grant_of grants side unit ≡ None
      grant-past = found-past grant_before before_trans (is_for unit side)
          (is_before unit side) level-grants off-grants grants rises n point
