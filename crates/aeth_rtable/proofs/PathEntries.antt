-- The wire before the first wire of a link of a path is the last wire of the link before.
use Rattle.std.proofs.Common.{◌≡◌, ◌≤◌, ◌<◌, ◌+◌, ◌-◌, ◌∙◌, ℕ, suc, List, All, Some, get_or, length}
use Rattle.std.proofs.Common.{slice_get, sym, ap, inl, inr, arith}
use Rattle.std.proofs.lemmas.Bool.{cases_lt}
use Rattle.std.proofs.lemmas.Option.{same_Some, slice_get-get_or, slice_get_within}
use Rattle.aeth_base.{specs.declared.ids.LinkId.LinkId, proofs.Members.All-slice_get}
use Rattle.aeth_chip.specs.{Chip.ChipData, Chip.IsChip, Paths.delay_of, Paths.offset}
use Rattle.aeth_chip.proofs.OffsetLemmas.{delay_of-range, offset-more, offset-zero}
use Rattle.aeth_chip.proofs.WireLemmas.{wire_at-apart}
use Rattle.aeth_router.specs.Router.{last_wire}
use Rattle.aeth_routed_sessions.specs.Paths.{wires_along}
use Rattle.aeth_routed_sessions.proofs.ApartWires.{link_known}
use Rattle.aeth_routed_sessions.proofs.PathWires.{IsWireOf, wires-at, wires-place}

module _ (chip : ChipData) (is_chip : IsChip chip) (path : List LinkId) where
  -- A path goes from a wire at place i, the last of a link, to the first wire of the next link.
  pub record Enters (i wire next : ℕ) : Type 0 where
    pub place : ℕ
    pub from : LinkId
    pub before : slice_get path place ≡ Some from
    pub behind : slice_get path (place + 1) ≡ Some (record { 0 = next })
    pub last : last_wire chip.links from.0 ≡ wire
    pub index : offset chip.links path (place + 1) ≡ suc i

  module _ (known : All (λ (link : LinkId). link.0 < length chip.links) path) where
    -- A link of the path delays.
    delays : (place : ℕ) (link : LinkId) → slice_get path place ≡ Some link
        → 1 ≤ delay_of chip.links link
    delays place link at = (delay_of-range chip link is_chip
        (All-slice_get (λ (l : LinkId). l.0 < length chip.links) path place link known at)).0

    module _ (i next : ℕ) (below : next < length chip.links)
        (is : IsWireOf chip.links path (suc i) next) where
      -- It is the first wire of its link.
      first : (is.link.0 ≡ next) × (is.inner ≡ 0)
      first =
          let some = (delay_of-range chip (record { 0 = next }) is_chip below).0 in
          wire_at-apart chip.links is.link (record { 0 = next }) is.inner 0
          (link_known chip.links is.link is.inner is.short) below is.short (omega (arith, some)) is.is

      -- So a link is before it.
      some_before : 1 ≤ is.place
      some_before = elim (cases_lt is.place 1) [
        | inr some ↦ some
        | inl none ↦ absurd (
            let zero : is.place ≡ 0 = omega (arith, none) in
            let start : offset chip.links path is.place ≡ 0 =
            ap (offset chip.links path) zero ∙ offset-zero chip.links path in
            let index = is.index in
            let inner = first.1 in
            omega (arith, start, index, inner))
      ]

    -- Where a path goes on to the first wire of a link, it does so from the last of the link before.
    pub enters-at : (i wire next : ℕ) → next < length chip.links
        → slice_get (wires_along chip.links path) i ≡ Some wire
        → slice_get (wires_along chip.links path) (suc i) ≡ Some next → Enters i wire next
    enters-at i wire next below here there =
        let is = wires-place chip.links path (suc i) next there in
        let one = first i next below is in
        let number = one.0 in
        let inner = one.1 in
        let some = some_before i next below is in
        let place = is.place - 1 in
        let step : place + 1 ≡ is.place = omega (arith, some) in
        let within = slice_get_within path is.place is.link is.at in
        let from = get_or path place is.link in
        let before : slice_get path place ≡ Some from =
        slice_get-get_or path place is.link (omega (arith, within, some)) in
        let delay = delays place from before in
        let more = offset-more chip.links path place from before in
        let index : offset chip.links path (place + 1) ≡ suc i =
        ap (offset chip.links path) step ∙ (let all = is.index in omega (arith, all, inner)) in
        let ahead : offset chip.links path place + (delay_of chip.links from - 1) ≡ i =
        omega (arith, more, index, delay) in
        let stands = wires-at chip.links path place (delay_of chip.links from - 1) from before
        (omega (arith, delay)) in
        record {
          place = place;
          from = from;
          before = before;
          behind = ap (slice_get path) step ∙ is.at
              ∙ ap (λ (n : ℕ). Some (record { 0 = n })) number;
          last = same_Some (last_wire chip.links from.0) wire
              (sym stands ∙ ap (slice_get (wires_along chip.links path)) ahead ∙ here);
          index = index;
        }

    -- And each link behind another is entered so.
    pub at-enters : (place : ℕ) (from link : LinkId) → slice_get path place ≡ Some from
        → slice_get path (place + 1) ≡ Some link → (i : ℕ)
        × (slice_get (wires_along chip.links path) i ≡ Some (last_wire chip.links from.0))
        × (slice_get (wires_along chip.links path) (suc i) ≡ Some link.0)
        × (offset chip.links path (place + 1) ≡ suc i)
    at-enters place from link before behind =
        let delay = delays place from before in
        let next = delays (place + 1) link behind in
        let more = offset-more chip.links path place from before in
        let i = offset chip.links path place + (delay_of chip.links from - 1) in
        let index : offset chip.links path (place + 1) ≡ suc i = omega (arith, more, delay) in
        let step : offset chip.links path (place + 1) + 0 ≡ suc i = omega (arith, index) in (
          i,
          wires-at chip.links path place (delay_of chip.links from - 1) from before
              (omega (arith, delay)),
          ap (slice_get (wires_along chip.links path)) (sym step)
              ∙ wires-at chip.links path (place + 1) 0 link behind (omega (arith, next)),
          index,
        )
