-- The connections of a use case are few, and the paths of grants those of the chip.
use Rattle.std.proofs.Common.{◌≡◌, ◌∙◌, ◌<◌, ◌≤◌, ◌+◌, ◌++◌, ℕ, suc, Bool, true, false, cond, List}
use Rattle.std.proofs.Common.{[], ◌∷◌, All, Option, Some, None, length, filter, map, refl, sym, ap}
use Rattle.std.proofs.Common.{arith, add-one, zero-add, IfSome, option_map, append-nil}
use Rattle.std.proofs.lemmas.List.Elements.{All-from_recursion, filter-append, filter_map-append}
use Rattle.std.proofs.lemmas.List.Sums.{count_by-le-length, length-filter}
use Rattle.std.proofs.lemmas.List.FromFn.{length-range_with_len}
use Rattle.std.specs.List.{cons_option, filter_map, range_with_len}
use Rattle.aeth_base.proofs.Ranges.{range_with_len-more}
use Rattle.aeth_base.specs.declared.ids.{LinkId.LinkId, Side.Side, Unit.Unit as GroupUnit}
use Rattle.aeth_chip.specs.Chip.{ChipData}
use Rattle.aeth_app.specs.App.{AppData}
use Rattle.aeth_group.specs.Members.{GroupsData, group_at, has_at}
use Rattle.aeth_group.specs.declared.grant.Grant.{Grant}
use Rattle.aeth_plan.specs.{Plan.IsGrantOf, Plan.IsPlanOf, Plan.PlanData, UnitGrants.is_for}
use Rattle.aeth_tables.specs.Changes.{HasLinks}
use Rattle.aeth_tables.specs.Granted.{grant_of, granted_in, granted_of}
use Rattle.aeth_tables.proofs.FindLaws.{found_is}
use Rattle.aeth_tables.proofs.ListLaws.{all_from_places, all_has, all_has_by, has_place}

-- ---- One number more

-- What is given of those that pass a test, with one number more.
pub given-more : {Y : Type 0} (give : ℕ → Option Y) (test : ℕ → Bool) (i : ℕ)
    → filter_map give (filter test (range_with_len 0 (i + 1)))
    ≡ filter_map give (filter test (range_with_len 0 i))
    ++ filter_map give (cond (test i) (i ∷ []) [])
given-more give test i =
    ap (λ (n : ℕ). filter_map give (filter test (range_with_len 0 n))) (add-one i)
    ∙ ap (λ xs. filter_map give (filter test xs)) (range_with_len-more 0 i i (zero-add i))
    ∙ ap (filter_map give) (filter-append test (range_with_len 0 i) (i ∷ []))
    ∙ filter_map-append give (filter test (range_with_len 0 i)) (cond (test i) (i ∷ []) [])

module _ {Y : Type 0} (give : ℕ → Option Y) (test : ℕ → Bool) (i : ℕ) (before after : List Y)
    (so_far : before ≡ filter_map give (filter test (range_with_len 0 i))) where
  after_one : (b : Bool) → test i ≡ b → after ≡ before ++ filter_map give (cond b (i ∷ []) [])
      → after ≡ filter_map give (filter test (range_with_len 0 (i + 1)))
  after_one b is more =
      more ∙ ap (λ xs. xs ++ filter_map give (cond b (i ∷ []) [])) so_far
      ∙ ap (λ (t : Bool). filter_map give (filter test (range_with_len 0 i))
      ++ filter_map give (cond t (i ∷ []) [])) (sym is)
      ∙ sym (given-more give test i)

  -- A number that passes gives something.
  pub given-some : (y : Y) → test i ≡ true → give i ≡ Some y → after ≡ before ++ y ∷ []
      → after ≡ filter_map give (filter test (range_with_len 0 (i + 1)))
  given-some y passes gives more =
      after_one true passes (more ∙ ap (λ o. before ++ cons_option o []) (sym gives))

  -- One that passes gives nothing.
  pub given-none : test i ≡ true → give i ≡ None → after ≡ before
      → after ≡ filter_map give (filter test (range_with_len 0 (i + 1)))
  given-none passes gives same =
      after_one true passes (same ∙ sym (append-nil before)
      ∙ ap (λ o. before ++ cons_option o []) (sym gives))

  -- One doesn't pass.
  pub given-not : test i ≡ false → after ≡ before
      → after ≡ filter_map give (filter test (range_with_len 0 (i + 1)))
  given-not fails same = after_one false fails (same ∙ sym (append-nil before))

-- ---- How many there are

length-given : {X Y : Type 0} (give : X → Option Y) (xs : List X)
    → length (filter_map give xs) ≤ length xs
length-given give [] = omega arith
length-given {X} {Y} give (x ∷ xs) =
    let rest = length-given give xs in
    let cases : (o : Option Y) → length (cons_option o (filter_map give xs)) ≤ suc (length xs) =
    elim [ None ↦ omega arith | Some y ↦ omega arith ]
    in cases (give x)

-- A use case has no more connections than there are.
pub granted_few : (app : AppData) (groups : GroupsData) (plan : PlanData) (u : ℕ)
    → length (granted_in app groups plan u) ≤ groups.connections
unfolding granted_in
granted_few app groups plan u =
    let numbers = range_with_len 0 groups.connections in
    let given = length-given (granted_of app plan (group_at groups u))
    (filter (has_at groups u) numbers) in
    omega (
      arith,
      given,
      length-filter (has_at groups u) numbers,
      count_by-le-length (has_at groups u) numbers,
      length-range_with_len 0 groups.connections,
    )

-- What is made of what is given.
pub given-map : {X Y Z : Type 0} (make : Y → Z) (give : X → Option Y) (xs : List X)
    → filter_map (λ x. option_map make (give x)) xs ≡ map make (filter_map give xs)
given-map make give [] = refl
given-map {X} {Y} {Z} make give (x ∷ xs) =
    let rest = given-map make give xs in
    let cases : (o : Option Y)
    → cons_option (option_map make o) (filter_map (λ (y : X). option_map make (give y)) xs)
    ≡ map make (cons_option o (filter_map give xs)) =
    elim [ None ↦ rest | Some y ↦ ap (λ (zs : List Z). make y ∷ zs) rest ]
    in cases (give x)

-- ---- Paths

-- The links of the paths of a plan's grants are those of the chip.
pub plan_links : (chip : ChipData) (app : AppData) (groups : GroupsData) (plan : PlanData)
    → IsPlanOf chip app groups plan → All (HasLinks chip) plan.grants
plan_links chip app groups plan is_plan =
    all_from_places (HasLinks chip) plan.grants (λ place grant at.
    All-from_recursion (λ (link : LinkId). link.0 < length chip.links) grant.path
    (all_has_by (IsGrantOf chip app groups) plan.grants grant is_plan.grants
    (has_place plan.grants place grant at)).links)

-- So are those of a grant that is found.
pub found_links : (chip : ChipData) (grants : List Grant) → All (HasLinks chip) grants
    → (side : Side) (unit : GroupUnit) (found : Option Grant) → found ≡ grant_of grants side unit
    → IfSome found (HasLinks chip)
found_links chip grants all side unit None is = tt
found_links chip grants all side unit (Some grant) is =
    all_has (HasLinks chip) grants grant all (found_is (is_for unit side) grants grant (sym is)).0
