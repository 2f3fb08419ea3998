-- Each shortest cut is listed; and without a candidate the shortest cuts are complete: each path
-- that the try may take begins with one.
use Rattle.std.proofs.Common.{◌≡◌, ◌∙◌, ◌+◌, ◌-◌, ◌<◌, ◌≤◌, ◌++◌, ◌&&◌, ◌⊎◌, ℕ, zero, suc, Bool}
use Rattle.std.proofs.Common.{true, false, not, List, [], ◌∷◌, length, map, filter, take, Contains}
use Rattle.std.proofs.Common.{refl, sym, ap, subst, arith, inl, inr, eqb, length-append, eq-eqb}
use Rattle.std.proofs.lemmas.Bool.{and_from, both_ways, cases_lt, false_from_ne_true}
use Rattle.std.proofs.Math.Seq.{take-append_seam, take-length}
use Rattle.std.specs.List.{list_any, range_with_len}
use Rattle.aeth_base.specs.Limits.{max_path_links}
use Rattle.aeth_base.specs.declared.ids.{LinkId.LinkId, NiId.NiId, RouterId.RouterId}
use Rattle.aeth_base.proofs.Members.{Contains-filter, Contains-flat_map, Contains-map, map-Contains}
use Rattle.aeth_base.proofs.Ranges.{range-Contains}
use Rattle.aeth_group.proofs.ListLemmas.{any_from_passes, passes_from_any}
use Rattle.aeth_group.specs.Members.{GroupsData}
use Rattle.aeth_chip.specs.{Chip.ChipData, Joined.IsJoined, LeastDistance.link_ids, Paths.BeginsAt}
use Rattle.aeth_chip.specs.{Paths.ends_of, Paths.to_of, declared.node.Link.Link}
use Rattle.aeth_chip.specs.{declared.node.Node.Node, declared.node.Node.TheVariants.Router}
use Rattle.aeth_chip.specs.{declared.node.Node.TheVariants.Ni}
use Rattle.aeth_paths.specs.{Task.links_from, Trials.TrialData}
use Rattle.aeth_explain.specs.TryPaths.{MayTake, is_dead, leaves_one, leaving_lists, may_take}
use Rattle.aeth_explain.specs.TryPaths.{onward_lists}
use Rattle.aeth_explain.specs.Certificate.{IsFirstCut, cuts_of, is_first_cut, shorter_fronts}
use Rattle.aeth_explain.specs.Cuts.{IsComplete, begins_with}
use Rattle.aeth_explain.proofs.CutLemmas.{begins-append}
use Rattle.aeth_explain.proofs.ListLemmas.{GoesOn, behind_link, onward-has}

-- ---- the least number that passes

pub record Least (test : ℕ → Bool) (n : ℕ) : Type 0 where
  pub number : ℕ
  pub some : 1 ≤ number
  pub within : number ≤ n
  pub passes : test number ≡ true
  pub first : (k : ℕ) → 1 ≤ k → k < number → test k ≡ false

least_or_none : (test : ℕ → Bool) (n : ℕ)
    → Least test n ⊎ ((k : ℕ) → 1 ≤ k → k ≤ n → test k ≡ false)
least_or_none test zero = inr (λ k some within. absurd (omega (arith, some, within)))
least_or_none test (suc n) = elim (least_or_none test n) [
  | inl found ↦ inl (record {
    number = found.number;
    some = found.some;
    within = omega (arith, found.within);
    passes = found.passes;
    first = found.first;
  })
  | inr none ↦
      let go : (b : Bool) → test (suc n) ≡ b
      → Least test (suc n) ⊎ ((k : ℕ) → 1 ≤ k → k ≤ suc n → test k ≡ false) =
      elim [
        | true ↦ λ is. inl (record {
          number = suc n;
          some = omega arith;
          within = omega arith;
          passes = is;
          first = λ k some below. none k some (omega (arith, below));
        })
        | false ↦ λ is. inr (λ k some within. elim (cases_lt k (suc n)) [
          | inl below ↦ none k some (omega (arith, below))
          | inr past ↦
              let same : k ≡ suc n = omega (arith, past, within) in
              ap test same ∙ is
        ])
      ]
      in go (test (suc n)) refl
]

-- ---- fronts

begins-take : (n : ℕ) (path : List LinkId) → begins_with (take n path) path ≡ true
begins-take zero path = refl
begins-take (suc n) [] = refl
begins-take (suc n) (link ∷ path) = and_from _ _ (eq-eqb link.0 link.0 refl) (begins-take n path)

take-take : {X : Type 0} (k m : ℕ) (xs : List X) → k ≤ m → take k (take m xs) ≡ take k xs
take-take zero m xs few = refl
take-take (suc k) zero xs few = absurd (omega (arith, few))
take-take (suc k) (suc m) [] few = refl
take-take (suc k) (suc m) (x ∷ xs) few =
    ap (λ rest. x ∷ rest) (take-take k m xs (omega (arith, few)))

length-front : {X : Type 0} (n : ℕ) (xs : List X) → n ≤ length xs → length (take n xs) ≡ n
length-front zero xs few = refl
length-front (suc n) [] few = absurd (omega (arith, few))
length-front (suc n) (x ∷ xs) few = ap suc (length-front n xs (omega (arith, few)))

goes-take : (links : List Link) (n : ℕ) (node : Node) (path : List LinkId) → GoesOn links node path
    → GoesOn links node (take n path)
goes-take links zero node path goes = tt
goes-take links (suc n) node [] goes = tt
goes-take links (suc n) (Ni ni) (link ∷ path) goes = absurd goes
goes-take links (suc n) (Router router) (link ∷ path) goes =
    (goes.0, goes-take links n (to_of links link) path goes.1)

-- ---- paths

module _ (chip : ChipData) (groups : GroupsData) (trial : TrialData)
    (leaves : (link : LinkId) (node to : Node) → BeginsAt chip.links link node
    → Contains (links_from chip.links node) link)
    (known : (link : LinkId) (node : Node) → BeginsAt chip.links link node
    → Contains (link_ids chip.links) link)
    (decides : (path : List LinkId) → MayTake chip trial path → may_take chip trial path ≡ true)
  where
    head-is : (a b : Node) (xs ys : List Node) → a ∷ xs ≡ b ∷ ys → a ≡ b
    head-is a b xs ys same =
        let first : List Node → Node = elim [ [] ↦ a | (x ∷ rest) ↦ x ] in
        ap first same

    rest-is : (a b : Node) (xs ys : List Node) → a ∷ xs ≡ b ∷ ys → xs ≡ ys
    rest-is a b xs ys same =
        let rest_of : List Node → List Node = elim [ [] ↦ xs | (x ∷ rest) ↦ rest ] in
        ap rest_of same

    -- What is joined and ends at routers and then at a node goes on through routers.
    joined-goes : (routers : List RouterId) (r : RouterId) (b : Node) (path : List LinkId)
        → IsJoined (BeginsAt chip.links) (to_of chip.links) (Router r) path
        → ends_of chip.links path ≡ map (λ q. Router q) routers ++ b ∷ []
        → GoesOn chip.links (Router r) path
    joined-goes routers r b [] joined ends = tt
    joined-goes [] r b (link ∷ []) joined ends = (leaves link (Router r) b joined.0, tt)
    joined-goes [] r b (link ∷ other ∷ path) joined ends =
        absurd (cc (rest-is (to_of chip.links link) b (ends_of chip.links (other ∷ path)) [] ends))
    joined-goes (q ∷ routers) r b (link ∷ path) joined ends =
        let at : to_of chip.links link ≡ Router q =
        head-is (to_of chip.links link) (Router q) (ends_of chip.links path)
        (map (λ q. Router q) routers ++ b ∷ []) ends in
        let later = rest-is (to_of chip.links link) (Router q) (ends_of chip.links path)
        (map (λ q. Router q) routers ++ b ∷ []) ends in (
          leaves link (Router r) b joined.0,
          subst (λ (n : Node). GoesOn chip.links n path) (sym at)
              (joined-goes routers q b path
              (subst (λ (n : Node). IsJoined (BeginsAt chip.links) (to_of chip.links) n path) at
              joined.1) later),
        )

    -- A list with one link that leaves a sender, and what goes on from it, is among those that
    -- leave
    -- senders.
    leaving-has : (a : NiId) (link : LinkId) (rest : List LinkId) → Contains trial.from a
        → BeginsAt chip.links link (Ni a) → length rest ≤ max_path_links - 1
        → GoesOn chip.links (to_of chip.links link) rest
        → Contains (leaving_lists chip trial.from) (link ∷ rest)
    unfolding leaving_lists
    leaving-has a link rest sender begins few goes =
        let one : list_any (λ (other : LinkId). eqb other.0 link.0) (links_from chip.links (Ni a))
        ≡ true =
        any_from_passes (λ (other : LinkId). eqb other.0 link.0) (links_from chip.links (Ni a)) link
        (leaves link (Ni a) (Ni a) begins) (eq-eqb link.0 link.0 refl) in
        Contains-flat_map (behind_link chip.links (max_path_links - 1))
        (filter (leaves_one chip.links trial.from) (link_ids chip.links)) link (link ∷ rest)
        (Contains-filter (leaves_one chip.links trial.from) (link_ids chip.links) link
        (known link (Ni a) begins)
        (any_from_passes (λ (ni : NiId). list_any (λ (other : LinkId). eqb other.0 link.0)
        (links_from chip.links (Ni ni))) trial.from a sender one))
        (Contains-map (λ rest. link ∷ rest)
        (onward_lists chip.links (max_path_links - 1) (to_of chip.links link)) rest
        (onward-has chip.links (max_path_links - 1) (to_of chip.links link) rest few goes))

    some-by : (b : NiId) (path : List LinkId) (routers : List RouterId)
        → ends_of chip.links path ≡ map (λ q. Router q) routers ++ Ni b ∷ [] → 1 ≤ length path
    some-by b [] [] ends = absurd (cc ends)
    some-by b [] (q ∷ routers) ends = absurd (cc ends)
    some-by b (link ∷ path) routers ends = omega arith

    front-by : (a b : NiId) → Contains trial.from a → (path : List LinkId) (routers : List RouterId)
        (n : ℕ) → 1 ≤ n → n ≤ length path → length path ≤ max_path_links → 1 ≤ length routers
        → IsJoined (BeginsAt chip.links) (to_of chip.links) (Ni a) path
        → ends_of chip.links path ≡ map (λ q. Router q) routers ++ Ni b ∷ []
        → Contains (leaving_lists chip trial.from) (take n path)
    front-by a b sender path routers zero some few fits more joined ends =
        absurd (omega (arith, some))
    front-by a b sender [] routers (suc n) some few fits more joined ends =
        absurd (omega (arith, few))
    front-by a b sender (link ∷ path) [] (suc n) some few fits more joined ends =
        absurd (omega (arith, more))
    front-by a b sender (link ∷ path) (q ∷ routers) (suc n) some few fits more joined ends =
        let at : to_of chip.links link ≡ Router q =
        head-is (to_of chip.links link) (Router q) (ends_of chip.links path)
        (map (λ q. Router q) routers ++ Ni b ∷ []) ends in
        let later = rest-is (to_of chip.links link) (Router q) (ends_of chip.links path)
        (map (λ q. Router q) routers ++ Ni b ∷ []) ends in
        let goes = joined-goes routers q (Ni b) path
        (subst (λ (n : Node). IsJoined (BeginsAt chip.links) (to_of chip.links) n path) at joined.1)
        later in
        let size = length-front n path (omega (arith, few)) in
        leaving-has a link (take n path) sender joined.0 (omega (arith, size, few, fits))
        (subst (λ (n' : Node). GoesOn chip.links n' (take n path)) (sym at)
        (goes-take chip.links n (Router q) path goes))

    -- Each front that isn't empty of a path that the try may take is among the lists that leave
    -- senders.
    pub front-has : (path : List LinkId) → MayTake chip trial path → (n : ℕ) → 1 ≤ n
        → n ≤ length path
        → Contains (leaving_lists chip trial.from) (take n path)
    front-has path may n some few =
        front-by may.from may.to may.allowed.sender path may.admissible.is_path.routers n some few
        may.admissible.fits may.admissible.is_path.some may.admissible.is_path.joins.joined
        may.admissible.is_path.joins.ends

    pub path-some : (path : List LinkId) → MayTake chip trial path → 1 ≤ length path
    path-some path may =
        some-by may.to path may.admissible.is_path.routers may.admissible.is_path.joins.ends

    -- Where no shorter front is dead, the test finds none.
    none-shorter : (cut : List LinkId) → 1 ≤ length cut
        → ((n : ℕ) → 1 ≤ n → n < length cut → is_dead chip groups trial (take n cut) ≡ false)
        → list_any (is_dead chip groups trial) (shorter_fronts cut) ≡ false
    none-shorter cut some live =
        false_from_ne_true (list_any (is_dead chip groups trial) (shorter_fronts cut)) (λ any.
        let found = passes_from_any (is_dead chip groups trial) (shorter_fronts cut) any in
        let from = map-Contains (λ n. take (n + 1) cut) (range_with_len 0 (length cut - 1))
        found.item found.is_in in
        let below = range-Contains (length cut - 1) from.0 from.2 in
        both_ways (is_dead chip groups trial found.item)
        (subst (λ (p : List LinkId). is_dead chip groups trial p ≡ false) from.1
        (live (from.0 + 1) (omega arith) (omega (arith, below, some)))) found.passes)

    -- A shortest cut is among the shortest cuts.
    pub first-has : (cut : List LinkId) → IsFirstCut chip groups trial cut
        → Contains (cuts_of chip groups trial) cut
    unfolding cuts_of
    first-has cut is =
        let (rest, whole) = begins-append cut is.path is.begins in
        let size = length-append cut rest in
        let sum = ap length whole in
        let fits : length cut ≤ length is.path = omega (arith, size, sum) in
        let some = is.some in
        let front = subst (Contains (leaving_lists chip trial.from))
        (ap (take (length cut)) whole ∙ take-append_seam cut rest)
        (front-has is.path is.may_take (length cut) some fits) in
        let all = subst (Contains (leaving_lists chip trial.from)) (take-length is.path)
        (front-has is.path is.may_take (length is.path) (omega (arith, some, fits)) (omega arith))
        in
        Contains-filter (is_first_cut chip groups trial) (leaving_lists chip trial.from) cut front
        (and_from _ _ (and_from _ _ is.dead (ap not (none-shorter cut some is.first)))
        (any_from_passes (λ p. may_take chip trial p && begins_with cut p)
        (leaving_lists chip trial.from) is.path all
        (and_from _ _ (decides is.path is.may_take) is.begins)))

    -- The first dead front of a path that the try may take is a shortest cut.
    first-is : (path : List LinkId) → MayTake chip trial path → (m : ℕ) → 1 ≤ m → m ≤ length path
        → is_dead chip groups trial (take m path) ≡ true
        → ((k : ℕ) → 1 ≤ k → k < m → is_dead chip groups trial (take k path) ≡ false)
        → IsFirstCut chip groups trial (take m path)
    first-is path may m some few dead first =
        let size = length-front m path few in
        record {
          some = omega (arith, size, some);
          path = path;
          may_take = may;
          begins = begins-take m path;
          dead = dead;
          first = λ n more below.
              let shorter : n < m = omega (arith, size, below) in
              ap (is_dead chip groups trial) (take-take n m path (omega (arith, shorter)))
              ∙ first n more shorter;
        }

    -- Where each path that the try may take is dead, the shortest cuts are complete.
    pub cuts-complete : ((path : List LinkId) → MayTake chip trial path
        → is_dead chip groups trial path ≡ true)
        → IsComplete chip groups trial (cuts_of chip groups trial)
    cuts-complete dead path may =
        let test : ℕ → Bool = λ n. is_dead chip groups trial (take n path) in
        let whole : test (length path) ≡ true =
        ap (is_dead chip groups trial) (take-length path) ∙ dead path may in
        let some : 1 ≤ length path = path-some path may in
        elim (least_or_none test (length path)) [
          | inl found ↦ (
            take found.number path,
            first-has (take found.number path) (first-is path may found.number found.some
                found.within found.passes found.first),
            begins-take found.number path,
          )
          | inr none ↦ absurd (both_ways (test (length path)) (none (length path) some (omega
              arith)) whole)
        ]
