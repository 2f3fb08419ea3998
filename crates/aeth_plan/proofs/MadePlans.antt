-- The plan that is made of seats and grants: there is one, and it is one for the chip.
use Rattle.std.proofs.Common.{◌≡◌, ◌∙◌, ℕ, zero, suc, ◌+◌, ◌<◌, ◌≤◌, Bool, true, false, cond, List}
use Rattle.std.proofs.Common.{length, get_or, Option, Some, None, refl, sym, subst, arith}
use Rattle.std.proofs.Common.{true≢false, AllPairs, IfSome, nat_lt, ◌==◌}
use Rattle.std.proofs.lemmas.Bool.Decides.{nat_tests}
use Rattle.std.proofs.lemmas.List.Elements.{All-from_recursion, recursion_from_All}
use Rattle.std.proofs.lemmas.List.Sorted.{All-permutation, Contains-permutation, IsPermutation-sym}
use Rattle.std.specs.List.{AllByRecursion, cons_option, Sorted.IsPermutation}
use Rattle.aeth_base.specs.declared.ids.Side.{Side, TheVariants.Fwd, TheVariants.Back}
use Rattle.aeth_chip.specs.Chip.{ChipData}
use Rattle.aeth_app.specs.{App.AppData, Limits.seats_per_ni}
use Rattle.aeth_group.specs.Members.{GroupsData}
use Rattle.aeth_group.specs.declared.grant.{Grant.Grant, SeatLine.SeatLine}
use Rattle.aeth_seats.specs.{Places.Place, Places.seat_of, Seats.IsSeats, Seats.SeatsData}
use Rattle.aeth_text.specs.Order.{Rises}
use Rattle.aeth_plan.specs.Making.{AreApart, IsPlanWith, line_of_core}
use Rattle.aeth_plan.specs.Plan.{IsGrantOf, IsPlan, IsPlanOf, IsSeatOf, PlanData, grant_before}
use Rattle.aeth_plan.specs.Plan.{side_before}
use Rattle.aeth_plan.proofs.SeatedCores.{lines_from}
use Rattle.aeth_plan.proofs.RisingLists.{rising_pairs, rising_same}

chain_numbers : (m n o : ℕ) (s t u : Bool) → (s ≡ true → t ≡ true → u ≡ true)
    → cond (m == n) s (nat_lt m n) ≡ true → cond (n == o) t (nat_lt n o) ≡ true
    → cond (m == o) u (nat_lt m o) ≡ true
chain_numbers m n o s t u sides one two = grind (arith, nat_tests)

chain_sides : (s t u : Side) → side_before s t ≡ true → side_before t u ≡ true
    → side_before s u ≡ true
chain_sides Fwd t Back one two = refl
chain_sides Fwd Fwd Fwd one two = one
chain_sides Fwd Back Fwd one two = two
chain_sides Back t u one two = absurd (true≢false (sym one))

-- What comes before a grant that comes before another comes before this one.
pub before_trans : (a b c : Grant) → grant_before a b ≡ true → grant_before b c ≡ true
    → grant_before a c ≡ true
before_trans a b c = chain_numbers a.unit.conn.0 b.unit.conn.0 c.unit.conn.0 _ _ _
    (chain_numbers a.unit.group.0 b.unit.group.0 c.unit.group.0 _ _ _
    (chain_sides a.side b.side c.side))

-- Of a number and itself the next test decides.
pub same_number : (m : ℕ) (s : Bool) → cond (m == m) s (nat_lt m m) ≡ s
same_number m s = grind (arith, nat_tests)

-- No side comes before itself.
pub side_before-itself : (s : Side) → side_before s s ≡ false
side_before-itself Fwd = refl
side_before-itself Back = refl

-- No grant comes before itself.
pub before_irrefl : (a : Grant) → grant_before a a ≡ true → ⊥
before_irrefl a before = true≢false (sym before ∙ same_number a.unit.conn.0 _
    ∙ same_number a.unit.group.0 _ ∙ side_before-itself a.side)

-- The grants of a plan stand apart.
pub grants_apart : (plan : PlanData) → IsPlan plan → AllPairs AreApart plan.grants
grants_apart plan is i j d below within units sides =
    let a = get_or plan.grants i d in
    let b = get_or plan.grants j d in
    let shown : grant_before a b ≡ grant_before b b = λ k.
    grant_before (record { unit = units k; side = sides k; path = a.path; slots = a.slots }) b in
    before_irrefl b
    (sym shown ∙ rising_pairs grant_before before_trans plan.grants is.grants i j d below within)

-- Two lists of the same grants that rise are the same.
same_grants : (grants xs ys : List Grant) → IsPermutation grants xs → IsPermutation grants ys
    → Rises grant_before xs → Rises grant_before ys → xs ≡ ys
same_grants grants xs ys one two rising other =
    rising_same grant_before before_trans before_irrefl xs ys rising other
    (λ z has. Contains-permutation grants ys z two
    (Contains-permutation xs grants z (IsPermutation-sym grants xs one) has))
    (λ z has. Contains-permutation grants xs z one
    (Contains-permutation ys grants z (IsPermutation-sym grants ys two) has))

-- There is one plan that is made of seats and grants.
pub made_once : (chip : ChipData) (seats : SeatsData) (grants : List Grant) (plan other : PlanData)
    → IsPlanWith chip seats grants plan → IsPlanWith chip seats grants other → plan ≡ other
made_once chip seats grants plan other one two =
    let sizes = one.slots ∙ sym two.slots in
    let lines = one.seats ∙ sym two.seats in
    let same = same_grants grants plan.grants other.grants one.grants two.grants
    one.in_order.grants two.in_order.grants in
    λ i. record { slots = sizes i; seats = lines i; grants = same i }

module _ (chip : ChipData) (app : AppData) (seats : SeatsData) (are : IsSeats seats)
    (nis : seats.nis ≡ length chip.nis) where
  one_line : (core : ℕ) (seat : Option Place) (rest : List SeatLine) → core < length app.cores
      → IfSome seat (λ place. (place.0.0 < seats.nis) × (place.1 < seats_per_ni))
      → AllByRecursion (IsSeatOf chip app) rest
      → AllByRecursion (IsSeatOf chip app) (cons_option (line_of_core core seat) rest)
  one_line core None rest below within others = others
  one_line core (Some place) rest below within others =
      (record { core = below; ni = omega (arith, within.0, nis); seat = within.1 }, others)

  -- The lines of cores that an application has are lines for it and the chip.
  lines_of : (start size : ℕ) → start + size ≤ length app.cores
      → AllByRecursion (IsSeatOf chip app) (lines_from seats.places start size)
  lines_of start zero most = tt
  lines_of start (suc size) most =
      one_line start (seat_of seats.places start) (lines_from seats.places (start + 1) size)
      (omega arith) (are.within start) (lines_of (start + 1) size (omega arith))

-- A plan made of seats and grants for a chip, an application and its groups is one for them.
pub made_for_chip : (chip : ChipData) (app : AppData) (groups : GroupsData) (seats : SeatsData)
    (grants : List Grant) (plan : PlanData) → IsSeats seats → seats.nis ≡ length chip.nis
    → length seats.places ≡ length app.cores → AllByRecursion (IsGrantOf chip app groups) grants
    → IsPlanWith chip seats grants plan → IsPlanOf chip app groups plan
made_for_chip chip app groups seats grants plan are nis cores of with = record {
  slots = with.slots;
  seats = subst (AllByRecursion (IsSeatOf chip app)) (sym with.seats)
      (lines_of chip app seats are nis 0 (length seats.places) (omega arith));
  grants = recursion_from_All (IsGrantOf chip app groups) plan.grants
      (All-permutation (IsGrantOf chip app groups) grants plan.grants with.grants
      (All-from_recursion (IsGrantOf chip app groups) grants of));
  in_order = with.in_order;
}
