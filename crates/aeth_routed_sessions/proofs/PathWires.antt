-- The wires along a path: at each place that of a link, so far behind it.
use Rattle.std.proofs.Common.{◌≡◌, ◌<◌, ◌+◌, ◌-◌, ◌∙◌, ℕ, zero, suc, true, false, List, [], ◌∷◌}
use Rattle.std.proofs.Common.{Some, length, take, slice_get, refl, sym, ap, arith, nat_lt, sum_by}
use Rattle.std.proofs.Common.{le-ltb, lt-ltb}
use Rattle.std.proofs.lemmas.List.{Concat.length-flat_map, FromFn.get_or-map-range_with_len}
use Rattle.std.proofs.lemmas.List.{FromFn.length-map-range_with_len, Sums.sum_by-cons}
use Rattle.std.proofs.lemmas.Option.{same_Some, slice_get-get_or, slice_get-map, slice_get_within}
use Rattle.std.specs.List.{range_with_len}
use Rattle.aeth_base.{specs.declared.ids.LinkId.LinkId, proofs.Lists.option_map-some}
use Rattle.aeth_chip.specs.{Paths.delay_of, Paths.offset, Paths.path_delay, Wires.wire_at}
use Rattle.aeth_chip.specs.{declared.node.Link.Link}
use Rattle.aeth_report.proofs.Places.{flat_map-place, range-place}
use Rattle.aeth_routed_sessions.specs.Paths.{routers_passed_along, wires_along, wires_on}
use Rattle.aeth_routed_sessions.proofs.Flattened.{flat_map-at}

module _ (links : List Link) where
  -- A link has as many wires as it delays.
  length-wires_on : (link : LinkId) → length (wires_on links link) ≡ delay_of links link
  length-wires_on link = length-map-range_with_len (wire_at links link.0) 0 (delay_of links link)

  pub length-wires_along : (path : List LinkId)
      → length (wires_along links path) ≡ path_delay links path
  length-wires_along path =
      length-flat_map (wires_on links) path
      ∙ ap (λ (f : LinkId → ℕ). sum_by f path) (λ i link. length-wires_on link i)

  -- The wire so far behind a link.
  wires_on-at : (link : LinkId) (p : ℕ) → p < delay_of links link
      → slice_get (wires_on links link) p ≡ Some (wire_at links link.0 p)
  wires_on-at link p short =
      let all = wires_on links link in
      let count = length-wires_on link in
      slice_get-get_or all p 0 (omega (arith, short, count))
      ∙ ap (λ (n : ℕ). Some n)
      (get_or-map-range_with_len (wire_at links link.0) 0 (delay_of links link) p p 0 short
      (omega arith))

  -- The wire at a place is that of a link of the path, so far behind it.
  pub record IsWireOf (path : List LinkId) (i wire : ℕ) : Type 0 where
    pub place : ℕ
    pub link : LinkId
    pub inner : ℕ
    pub at : slice_get path place ≡ Some link
    pub short : inner < delay_of links link
    pub is : wire_at links link.0 inner ≡ wire
    pub index : offset links path place + inner ≡ i

  pub wires-place : (path : List LinkId) (i wire : ℕ)
      → slice_get (wires_along links path) i ≡ Some wire → IsWireOf path i wire
  wires-place path i wire at =
      let found = flat_map-place (wires_on links) path i wire at in
      let link = found.item in
      let range = range_with_len 0 (delay_of links link) in
      let within = slice_get_within (wires_on links link) found.inner wire found.gives in
      let count = length-wires_on link in
      let (k, there, is) = option_map-some (wire_at links link.0) (slice_get range found.inner) wire
      (sym (slice_get-map (wire_at links link.0) range found.inner) ∙ found.gives) in
      let same = range-place 0 (delay_of links link) found.inner k there in
      let inner : k ≡ found.inner = omega (arith, same) in
      let ahead = length-wires_along (take found.place path) in
      let number = found.number in
      record {
        place = found.place;
        link = link;
        inner = found.inner;
        at = found.at;
        short = omega (arith, within, count);
        is = ap (wire_at links link.0) (sym inner) ∙ is;
        index = omega (arith, ahead, number);
      }

  -- And the other way round.
  pub wires-at : (path : List LinkId) (j p : ℕ) (link : LinkId) → slice_get path j ≡ Some link
      → p < delay_of links link
      → slice_get (wires_along links path) (offset links path j + p)
      ≡ Some (wire_at links link.0 p)
  wires-at path j p link at short =
      let ahead = length-wires_along (take j path) in
      let index : offset links path j + p ≡ length (wires_along links (take j path)) + p =
      omega (arith, ahead) in
      ap (slice_get (wires_along links path)) index
      ∙ flat_map-at (wires_on links) path j p link (wire_at links link.0 p) at
      (wires_on-at link p short)

  -- Ahead of it are as many routers as links.
  routers_passed-at : (path : List LinkId) (j p : ℕ) (link : LinkId) → slice_get path j ≡ Some link
      → p < delay_of links link → routers_passed_along links path (offset links path j + p) ≡ j
  routers_passed-at [] j p link at short = absurd (cc at)
  routers_passed-at (first ∷ path) zero p link at short =
      let same : first ≡ link = same_Some first link at in
      let delays = ap (delay_of links) same in
      let start : offset links (first ∷ path) 0 + p ≡ p = omega arith in
      let within : nat_lt p (delay_of links first) ≡ true =
      lt-ltb p (delay_of links first) (omega (arith, short, delays)) in
      ap (routers_passed_along links (first ∷ path)) start ∙ rw within refl
  routers_passed-at (first ∷ path) (suc j) p link at short =
      let rest = routers_passed-at path j p link at short in
      let front = delay_of links first in
      let ahead = offset links path j in
      let split = sum_by-cons (delay_of links) first (take j path) in
      let index : offset links (first ∷ path) (suc j) + p ≡ front + (ahead + p) =
      omega (arith, split) in
      let past : nat_lt (front + (ahead + p)) front ≡ false =
      le-ltb (front + (ahead + p)) front (omega arith) in
      let behind : front + (ahead + p) - front ≡ ahead + p = omega arith in
      ap (routers_passed_along links (first ∷ path)) index
      ∙ rw (past, behind) (ap (λ (n : ℕ). suc n) rest)

  pub routers_passed-is : (path : List LinkId) (i wire : ℕ) (is : IsWireOf path i wire)
      → routers_passed_along links path i ≡ is.place
  routers_passed-is path i wire is =
      ap (routers_passed_along links path) (sym is.index)
      ∙ routers_passed-at path is.place is.inner is.link is.at is.short
