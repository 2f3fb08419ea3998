-- Laws of the wires between which routers stand.
use Rattle.std.proofs.Common.{◌≡◌, ◌-◌, ℕ, refl, inl, inr, arith, List, [], ◌∷◌, Some, map}
use Rattle.std.proofs.Common.{slice_get, true}
use Rattle.std.proofs.Math.Bool.{or-true}
use Rattle.std.proofs.lemmas.{Bool.cases_eq, Bool.Decides.nat_tests, Option.slice_get_within}
use Rattle.aeth_base.specs.declared.ids.RouterId.{RouterId}
use Rattle.aeth_chip.specs.Nodes.{begins_at, ends_at, receives_on, sends_on}
use Rattle.aeth_chip.specs.Wires.{HaveDelays, wire_at, wires_of}
use Rattle.aeth_chip.specs.declared.node.{Link.Link, Node.TheVariants.Router}
use Rattle.aeth_chip.proofs.WireLemmas.{wire_at-below, wires_of-split}
use Rattle.aeth_clocked.specs.Wires.{AreLinks}
use Rattle.aeth_router.specs.Router.{entering_wires, is_among, last_wire}
use Rattle.aeth_router.proofs.LinkLemmas.{AreLinks-numbers_from, is_among-at, passes-from_is_among}

-- What is among images is the image of one of the numbers.
pub map-is_among : (change : ℕ → ℕ) (numbers : List ℕ) (image : ℕ)
    → is_among (map change numbers) image ≡ true
    → (number : ℕ) × (is_among numbers number ≡ true) × (change number ≡ image)
map-is_among change [] image is = absurd (cc is)
map-is_among change (first ∷ numbers) image is =
    elim (cases_eq (change first) image) [
      | inl same ↦ (first, is_among-at (first ∷ numbers) 0 first refl, same)
      | inr other ↦
          let later : is_among (map change numbers) image ≡ true = grind (arith, nat_tests) in
          let found = map-is_among change numbers image later in
          (found.0, rw found.1 (or-true _), found.2)
    ]

-- The last wire of a link that is there.
pub last_wire-is : (links : List Link) (number : ℕ) (link : Link) → slice_get links number ≡ Some link
    → last_wire links number ≡ wire_at links number (link.delay - 1)
last_wire-is links number link at = rw at refl

module _ (links : List Link) (delays : HaveDelays links) where
  -- The wires on which a router receives are wires of the chip.
  pub AreLinks-entering_wires : (router : RouterId)
      → AreLinks (is_among (entering_wires router links)) (wires_of links)
  AreLinks-entering_wires router wire is =
      let receives = receives_on (Router router) links in
      let found = map-is_among (last_wire links) receives wire is in
      let passes = passes-from_is_among (ends_at (Router router)) links found.0 found.1 in
      let takes = delays found.0 passes.0 passes.1 in
      let last : last_wire links found.0 ≡ wire_at links found.0 (passes.0.delay - 1) =
      rw passes.1 refl in
      let within = slice_get_within links found.0 passes.0 passes.1 in
      let below = wire_at-below links delays found.0 (passes.0.delay - 1) passes.0 passes.1 within
      (omega arith) in
      let same = found.2 in
      omega arith

  -- So are those on which it sends.
  pub AreLinks-outgoing : (router : RouterId)
      → AreLinks (is_among (sends_on (Router router) links)) (wires_of links)
  AreLinks-outgoing router link is =
      let split = wires_of-split links delays in
      let below = AreLinks-numbers_from (begins_at (Router router)) links link is in
      omega arith
