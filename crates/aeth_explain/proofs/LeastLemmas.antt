-- The lists of a try are in the order of a dictionary: so are its shortest cuts, and the path that a verdict names is
-- the least open one.
use Rattle.std.proofs.Common.{◌≡◌, ◌∙◌, ◌+◌, ◌-◌, ◌<◌, ℕ, zero, suc, Bool, true, false, not, List}
use Rattle.std.proofs.Common.{[], ◌∷◌, Contains, None, Option, Some, ap, arith, cond, filter, inl}
use Rattle.std.proofs.Common.{inr, refl, Err, Ok, Result, length, map, subst, sym, IfOk, IfSome}
use Rattle.std.proofs.Common.{position}
use Rattle.std.proofs.lemmas.Bool.{and_from, and_parts, both_ways, false_from_ne_true, not-true}
use Rattle.std.proofs.lemmas.List.Kept.{IsStrictlySortedBy-filter}
use Rattle.std.specs.Cmp.{IsTotalOrder, nat_cmp_total, on_total}
use Rattle.std.specs.List.{AllByRecursion, range_with_len, Sorted.IsStrictlySortedBy}
use Rattle.std.specs.Ordering.{nat_cmp, on}
use Rattle.std.specs.declared.cmp.Ordering.{Ordering, TheVariants.Less}
use Rattle.aeth_base.proofs.Members.{Contains-cases, Contains-filter, Contains-here}
use Rattle.aeth_base.proofs.Members.{filter-Contains}
use Rattle.aeth_base.specs.Limits.{max_path_links}
use Rattle.aeth_base.specs.declared.ids.{LinkId.LinkId, NiId.NiId}
use Rattle.aeth_chip.specs.{Chip.ChipData, Chip.IsChip, LeastDistance.link_ids, Nodes.begins_at}
use Rattle.aeth_chip.specs.{Nodes.numbers_from, Nodes.sends_on, Paths.to_of}
use Rattle.aeth_chip.specs.{declared.node.Link.Link, declared.node.Node.Node}
use Rattle.aeth_chip.specs.{declared.node.Node.TheVariants.Ni}
use Rattle.aeth_chip.specs.{declared.node.Node.TheVariants.Router}
use Rattle.aeth_group.specs.Members.{GroupsData}
use Rattle.aeth_group.proofs.ListLemmas.{any_from_passes, passes_from_any}
use Rattle.aeth_paths.specs.{Task.links_from, Trials.TrialData}
use Rattle.aeth_explain.specs.Certificate.{certificate_of, cuts_of, has_candidate, is_first_cut}
use Rattle.aeth_explain.specs.Cuts.{begins_with, is_cut}
use Rattle.aeth_explain.specs.Order.{Ascend, dictionary}
use Rattle.aeth_explain.specs.TryPaths.{leaves_one, leaving_lists, may_take, onward_lists}
use Rattle.aeth_explain.specs.Verdict.{IsLeastOpen, IsOpen, by_cut, is_covered, is_open, open_paths}
use Rattle.aeth_explain.specs.Verdict.{verdict_of}
use Rattle.aeth_explain.specs.declared.verdict.CutVerdict.{CutVerdict}
use Rattle.aeth_explain.specs.declared.verdict.CutVerdict.TheVariants.{Complete, NotDead, Open}
use Rattle.aeth_explain.proofs.OrderLemmas.{first-before, less-is, sorted-behind, sorted-empty}
use Rattle.aeth_explain.proofs.OrderLemmas.{sorted-of, sorted-range}
use Rattle.aeth_explain.proofs.RefusalLemmas.{path-listed}
use Rattle.aeth_explain.proofs.TryPathLemmas.{may_take-Decides}

-- ---- links in the order of their numbers

abbrev by_number : LinkId → LinkId → Ordering
by_number = on (λ (link : LinkId). link.0) nat_cmp

by_number-total : IsTotalOrder by_number
by_number-total = on_total (λ (link : LinkId). link.0) nat_cmp_total

sorted-ids : (numbers : List ℕ) → IsStrictlySortedBy nat_cmp numbers
    → IsStrictlySortedBy by_number (map (λ n. record { 0 = n }) numbers)
sorted-ids = sorted-of (λ (link : LinkId). link.0) (λ n. record { 0 = n }) (λ n. refl)

low-numbers : (number low : ℕ) (test : Link → Bool) (links : List Link) → low < number
    → AllByRecursion (λ n. nat_cmp low n ≡ Less) (numbers_from number test links)
low-numbers number low test [] below = tt
low-numbers number low test (link ∷ links) below =
    let rest = low-numbers (number + 1) low test links (omega (arith, below)) in
    let go : (b : Bool) → AllByRecursion (λ n. nat_cmp low n ≡ Less)
    (cond b (number ∷ numbers_from (number + 1) test links) (numbers_from (number + 1) test links)) =
    elim [ true ↦ (less-is low number below, rest) | false ↦ rest ] in
    go (test link)

-- The numbers of the links that pass a test ascend.
sorted-numbers : (number : ℕ) (test : Link → Bool) (links : List Link)
    → IsStrictlySortedBy nat_cmp (numbers_from number test links)
unfolding IsStrictlySortedBy
sorted-numbers number test [] = tt
sorted-numbers number test (link ∷ links) =
    let rest = sorted-numbers (number + 1) test links in
    let go : (b : Bool) → IsStrictlySortedBy nat_cmp
    (cond b (number ∷ numbers_from (number + 1) test links) (numbers_from (number + 1) test links)) =
    elim [
      | true ↦ (low-numbers (number + 1) number test links (omega arith), rest)
      | false ↦ rest
    ] in
    go (test link)

sorted-links : (links : List Link) (node : Node) → IsStrictlySortedBy by_number (links_from links node)
sorted-links links node =
    sorted-ids (sends_on node links) (sorted-numbers 0 (begins_at node) links)

-- ---- lists

ascend-empty : Ascend ([] ∷ [])
unfolding IsStrictlySortedBy
ascend-empty = (tt, tt)

-- The lists that go on from a node ascend.
onward-ascend : (links : List Link) (most : ℕ) (node : Node) → Ascend (onward_lists links most node)
unfolding onward_lists
onward-ascend links zero node = ascend-empty
onward-ascend links (suc most) (Ni ni) = ascend-empty
onward-ascend links (suc most) (Router router) =
    sorted-empty by_number by_number-total (λ link. onward_lists links most (to_of links link))
    (links_from links (Router router)) (sorted-links links (Router router))
    (λ link. onward-ascend links most (to_of links link))

-- So do those that leave some interfaces.
leaving-ascend : (chip : ChipData) (from : List NiId) → Ascend (leaving_lists chip from)
unfolding leaving_lists
leaving-ascend chip from =
    sorted-behind by_number by_number-total
    (λ link. onward_lists chip.links (max_path_links - 1) (to_of chip.links link))
    (filter (leaves_one chip.links from) (link_ids chip.links))
    (IsStrictlySortedBy-filter by_number (leaves_one chip.links from) (link_ids chip.links)
    (sorted-ids (range_with_len 0 (length chip.links)) (sorted-range 0 (length chip.links))))
    (λ link. onward-ascend chip.links (max_path_links - 1) (to_of chip.links link))

module _ (chip : ChipData) (groups : GroupsData) (trial : TrialData) where
  -- The shortest cuts of a try ascend.
  pub cuts-ascend : Ascend (cuts_of chip groups trial)
  unfolding cuts_of
  cuts-ascend =
      IsStrictlySortedBy-filter dictionary (is_first_cut chip groups trial)
      (leaving_lists chip trial.from) (leaving-ascend chip trial.from)

  certificate-ascends : IfSome (certificate_of chip groups trial) Ascend
  certificate-ascends =
      let go : (b : Bool) → IfSome (cond b None (Some (cuts_of chip groups trial))) Ascend =
      elim [ true ↦ tt | false ↦ cuts-ascend ] in
      go (has_candidate chip groups trial)

  -- So do those of the certificate that was made, if one was.
  pub certificate-order : {E : Type 0} (came : Result (Option (List (List LinkId))) E)
      → IfOk came (λ cuts. cuts ≡ certificate_of chip groups trial)
      → IfOk came (λ cuts. IfSome cuts Ascend)
  certificate-order (Ok cuts) gives =
      subst (λ (o : Option (List (List LinkId))). IfSome o Ascend) (sym gives) certificate-ascends
  certificate-order (Err cause) gives = tt

-- ---- the least open path

first-open : (place : Option ℕ) (paths : List (List LinkId)) (path : List LinkId)
    → by_cut place paths ≡ Open path → (others : List (List LinkId)) × (paths ≡ path ∷ others)
first-open (Some place) paths path named = absurd (cc named)
first-open None [] path named = absurd (cc named)
first-open None (first ∷ others) path named =
    let path_of : CutVerdict → List LinkId =
    elim [ Complete ↦ [] | (NotDead cut) ↦ [] | (Open p) ↦ p ] in
    (others, ap (λ p. p ∷ others) (ap path_of named))

module _ (chip : ChipData) (groups : GroupsData) (trial : TrialData) (is : IsChip chip)
    (cuts : List (List LinkId)) where
  open-told : (path : List LinkId) → is_open chip trial cuts path ≡ true → IsOpen chip trial cuts path
  open-told path told =
      let (may, bare) = and_parts (may_take chip trial path) _ told in
      let none = not-true (is_covered cuts path) bare in
      record {
        may_take = (may_take-Decides chip trial is path).0 may;
        bare = λ cut has. false_from_ne_true (begins_with cut path) (λ begins.
            both_ways (is_covered cuts path) none
            (any_from_passes (λ c. begins_with c path) cuts cut has begins));
      }

  tell-open : (path : List LinkId) → IsOpen chip trial cuts path
      → Contains (open_paths chip trial cuts) path
  tell-open path at =
      let bare : is_covered cuts path ≡ false =
      false_from_ne_true (is_covered cuts path) (λ covered.
      let found = passes_from_any (λ c. begins_with c path) cuts covered in
      both_ways (begins_with found.item path) (at.bare found.item found.is_in) found.passes) in
      Contains-filter (is_open chip trial cuts) (leaving_lists chip trial.from) path
      (path-listed chip groups trial is path at.may_take)
      (and_from _ _ ((may_take-Decides chip trial is path).1 at.may_take) (ap not bare))

  -- The path that a verdict names is the least open one.
  pub least-open : (path : List LinkId) → verdict_of chip groups trial cuts ≡ Open path
      → IsLeastOpen chip trial cuts path
  unfolding verdict_of
  least-open path named =
      let (others, split) =
      first-open (position (λ cut. not (is_cut chip groups trial cut)) cuts)
      (open_paths chip trial cuts) path named in
      let sorted : Ascend (path ∷ others) =
      subst Ascend split
      (IsStrictlySortedBy-filter dictionary (is_open chip trial cuts) (leaving_lists chip trial.from)
      (leaving-ascend chip trial.from)) in
      let here : Contains (open_paths chip trial cuts) path =
      subst (λ paths. Contains paths path) (sym split) (Contains-here path others) in
      record {
        is_open = open-told path
            (filter-Contains (is_open chip trial cuts) (leaving_lists chip trial.from) path here).1;
        least = λ other at differs.
            elim (Contains-cases path others other
            (subst (λ paths. Contains paths other) split (tell-open other at))) [
              | inl same ↦ absurd (differs (sym same))
              | inr later ↦ first-before dictionary path other others sorted later
            ];
      }

  -- So is that of what was found.
  pub least-named : (verdict : CutVerdict) → verdict ≡ verdict_of chip groups trial cuts
      → (path : List LinkId) → verdict ≡ Open path → IsLeastOpen chip trial cuts path
  least-named verdict gives path named = least-open path (sym gives ∙ named)
