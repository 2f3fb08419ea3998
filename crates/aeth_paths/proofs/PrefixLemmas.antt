-- What is known of a list with one more link, and of the nodes that it passes.
use Rattle.std.proofs.Common.{◌≡◌, ◌≢◌, ◌∙◌, ◌+◌, ◌*◌, ◌<◌, ◌≤◌, ◌^◌, ◌%◌, ◌++◌, ◌↔◌, ◌⊎◌, ℕ, zero}
use Rattle.std.proofs.Common.{suc}
use Rattle.std.proofs.Common.{true, List, [], ◌∷◌, length, map, Option, None, Some, slice_get}
use Rattle.std.proofs.Common.{bit_or, sym, refl, ap, subst, inl, inr, arith, length-append}
use Rattle.std.specs.Int.{bit_at, w64}
use Rattle.std.specs.Prelude.{option_map}
use mir.Val.{bits}
use Rattle.std.proofs.lemmas.Bool.{cases_eq, or_cases, or_left, or_right}
use Rattle.std.proofs.lemmas.List.Sums.{sum_by-append, sum_by-cons}
use Rattle.std.proofs.lemmas.Nat.Bits.{bit_at_set_other, bit_at_set_same}
use Rattle.std.proofs.lemmas.Option.{slice_get-map}
use Rattle.aeth_base.specs.declared.ids.LinkId.{LinkId}
use Rattle.aeth_base.specs.declared.ids.RouterId.{RouterId}
use Rattle.aeth_chip.specs.Limits.{max_routers}
use Rattle.aeth_chip.specs.declared.node.Link.{Link}
use Rattle.aeth_chip.specs.declared.node.Node.{Node}
use Rattle.aeth_chip.specs.declared.node.Node.TheVariants.{Ni, Router}
use Rattle.aeth_base.specs.Limits.{max_link_delay}
use Rattle.aeth_chip.specs.Nodes.{same_node}
use Rattle.aeth_chip.specs.Paths.{delay_in, delay_of, path_delay, to_in, to_of}
use Rattle.aeth_chip.proofs.NodeLemmas.{same_node-refl, same_node-true}
use Rattle.aeth_slots.specs.SlotSet.{Slots}
use Rattle.aeth_book.specs.Book.{BookData}
use Rattle.aeth_book.specs.Free.{free_starts, narrowed, used_slots}
use Rattle.aeth_book.proofs.FreeLemmas.{free-push}
use Rattle.aeth_paths.specs.declared.prefix.Prefix.{Prefix}
use Rattle.aeth_paths.specs.declared.prefix.Task.{Task}
use Rattle.aeth_paths.specs.Candidates.{link_cost, path_cost}
use Rattle.aeth_paths.specs.Costs.{price}
use Rattle.aeth_paths.specs.Limits.{max_cost}
use Rattle.aeth_paths.specs.Search.{passes}
use Rattle.aeth_paths.specs.Walk.{ArePassed, IsPrefix}
use Rattle.aeth_paths.proofs.JoinLemmas.{passes-push}
use Rattle.aeth_paths.proofs.LiveLemmas.{path_delay-push}

-- ---- the bits of routers

same_number : (k : ℕ) (r : RouterId) → Router (record { 0 = k }) ≡ Router r → r.0 ≡ k
same_number k r same =
    let number : Node → ℕ = elim [ Router q ↦ q.0 | Ni n ↦ n.0 ] in
    sym (ap number same)

-- A router's bit is put in.
pub bit-of : (passed k : ℕ) (node : Node) → node ≡ Router (record { 0 = k }) → k < bits w64
    → (r : RouterId) → r.0 < max_routers
    → (bit_at (bit_or passed (1 * 2 ^ k % 2 ^ bits w64)) r.0 ≡ 1)
    ↔ ((bit_at passed r.0 ≡ 1) ⊎ (node ≡ Router r))
bit-of passed k node is within r below = elim (cases_eq r.0 k) [
  | inl same ↦ (
    (λ one. inr (is ∙ ap (λ n. Router (record { 0 = n })) (sym same))),
    (λ either. rw same (bit_at_set_same w64 passed k within)),
  )
  | inr other ↦ (
    (λ one. inl (sym (bit_at_set_other w64 passed k within r.0 other) ∙ one)),
    (λ either. bit_at_set_other w64 passed k within r.0 other ∙ elim either [
      | inl one ↦ one
      | inr same ↦ absurd (other (same_number k r (sym is ∙ same)))
    ]),
  )
]

-- ---- links by their place

-- A link by its place among numbers.
pub link-at : (links : List ℕ) (place : ℕ) (link : Option LinkId)
    → option_map (λ (l : LinkId). l.0) link ≡ slice_get links place
    → link ≡ slice_get (map (λ n. record { 0 = n }) links) place
link-at links place link is =
    let go : (o : Option LinkId)
    → o ≡ option_map (λ n. record { 0 = n }) (option_map (λ (l : LinkId). l.0) o) =
    elim [ None ↦ refl | Some l ↦ refl ]
    in go link ∙ ap (option_map (λ n. record { 0 = n })) is
    ∙ sym (slice_get-map (λ n. record { 0 = n }) links place)

-- Behind the one link there is none.
pub past-one : (link : LinkId) (place : ℕ) → place ≢ 0 → None ≡ slice_get (link ∷ []) place
past-one link zero other = absurd (other refl)
past-one link (suc place) other = refl

-- ---- one more link

module _ (task : Task) (prefix : Prefix) (link : LinkId) (target : Link)
    (known : IsPrefix task prefix)
    (at : slice_get task.book.now.links link.0 ≡ Some target) where
  abbrev pub longer : List LinkId
  longer = prefix.path ++ link ∷ []

  -- What a link of the book is.
  delay-is : delay_of task.book.now.links link ≡ target.delay
  delay-is = ap delay_in at

  -- The routers that are passed.
  passed-push : (passed : ℕ) → ((r : RouterId) → r.0 < max_routers
      → (bit_at passed r.0 ≡ 1) ↔ ((bit_at prefix.passed r.0 ≡ 1) ⊎ (target.to ≡ Router r)))
      → ArePassed (to_of task.book.now.links) longer passed
  passed-push passed bits_are r below =
      let to : LinkId → Node = to_of task.book.now.links in
      let whole = passes-push to prefix.path link (Router r) in
      let ends : to link ≡ target.to = ap to_in at in (
        (λ one. whole ∙ elim ((bits_are r below).0 one) [
          | inl before ↦ or_left (passes to prefix.path (Router r)) _
              ((known.passed r below).0 before)
          | inr here ↦ or_right (passes to prefix.path (Router r)) _
              (subst (λ (n : Node). same_node n (Router r) ≡ true) (sym (ends ∙ here))
              (same_node-refl (Router r)))
        ]),
        (λ passes'. (bits_are r below).1
            (elim (or_cases (passes to prefix.path (Router r)) _ (sym whole ∙ passes')) [
              | inl before ↦ inl ((known.passed r below).1 before)
              | inr here ↦ inr (sym ends ∙ same_node-true (to link) (Router r) here)
            ])),
      )

  -- The list with one more link.
  pub prefix-push : (path : List LinkId) (passed used cost : ℕ) (free : Slots)
      → target.delay ≤ max_link_delay → path ≡ longer
      → ((r : RouterId) → r.0 < max_routers
      → (bit_at passed r.0 ≡ 1) ↔ ((bit_at prefix.passed r.0 ≡ 1) ⊎ (target.to ≡ Router r)))
      → free ≡ narrowed task.book.now task.ask.unit link.0 prefix.delay prefix.free
      → used ≡ used_slots task.book.now task.ask.unit link.0
      → cost ≡ price task.prices.now target.delay used → cost ≤ max_cost
      → IsPrefix task (record {
        path = path;
        end = target.to;
        passed = passed;
        delay = prefix.delay + target.delay;
        cost = prefix.cost + cost;
        free = free;
      })
  prefix-push path passed used cost free short is_longer bits_are narrows is_used costs cheap =
      let book : BookData = task.book.now in
      let own : ℕ = link_cost book task.prices.now task.ask.unit link in
      let more : length path ≡ length prefix.path + 1 =
      ap (λ (p : List LinkId). length p) is_longer ∙ length-append prefix.path (link ∷ []) in
      let same : cost ≡ own =
      costs ∙ ap (price task.prices.now target.delay) is_used
      ∙ ap (λ d. price task.prices.now d (used_slots book task.ask.unit link.0)) (sym delay-is) in
      let sum : path_cost book task.prices.now task.ask.unit longer
      ≡ path_cost book task.prices.now task.ask.unit prefix.path + own =
      sum_by-append (link_cost book task.prices.now task.ask.unit) prefix.path (link ∷ [])
      ∙ ap (λ n. path_cost book task.prices.now task.ask.unit prefix.path + n)
      (sum_by-cons (link_cost book task.prices.now task.ask.unit) link [] ∙ omega arith) in
      record {
        passed = subst (λ (p : List LinkId). ArePassed (to_of book.links) p passed)
            (sym is_longer) (passed-push passed bits_are);
        delay = omega (
          arith,
          known.delay,
          path_delay-push book prefix.path link,
          delay-is,
          ap (path_delay book.links) is_longer,
        );
        cost = omega (
          arith,
          known.cost,
          same,
          sum,
          ap (path_cost book task.prices.now task.ask.unit) is_longer,
        );
        free = narrows
            ∙ ap (λ d. narrowed book task.ask.unit link.0 d prefix.free) known.delay
            ∙ ap (narrowed book task.ask.unit link.0 (path_delay book.links prefix.path)) known.free
            ∙ free-push book task.ask.unit prefix.path link
            ∙ ap (free_starts book task.ask.unit) (sym is_longer);
        short = omega (arith, known.short, short, more);
        cheap = omega (arith, known.cheap, cheap, more);
      }
