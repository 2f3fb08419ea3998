use Rattle.std.proofs.Common.{◌∙◌, List, ℕ, [], ◌∷◌, map, sym, ap, slice_get}
use Rattle.aeth_chip.specs.{declared.node.Node.Node, Nodes.sends_on}
use Rattle.aeth_paths.specs.Task.{links_from}
use Rattle.aeth_paths.proofs.PrefixLemmas.{link-at, past-one}
use Rattle.aeth_paths.proofs.search.leaving.Goals as goal

-- A port of a router.
pub returns-in-Router : goal.returns-in-Router
returns-in-Router c =
    link-at (sends_on _ c.args.chip.now.links) c.args.place c.exit.result c.exit.ensures.link
    ∙ ap (λ (n : Node). slice_get (links_from c.args.chip.now.links n) c.args.place)
    (sym c.in-Router.is)

-- The one link of an interface.
pub returns-then-place-eq0 : goal.returns-then-place-eq0
returns-then-place-eq0 c =
    sym (ap (λ (n : Node). slice_get (links_from c.args.chip.now.links n) c.args.place) c.in-Ni.is
    ∙ ap (λ (ls : List ℕ). slice_get (map (λ n. record { 0 = n }) ls) c.args.place)
    c.leaving-link.ensures.sends
    ∙ ap (slice_get (c.leaving-link.result ∷ [])) c.if-place-eq0.true)

-- There is no other.
pub returns-else-place-eq0 : goal.returns-else-place-eq0
returns-else-place-eq0 c =
    past-one c.leaving-link.result c.args.place c.if-place-eq0.false
    ∙ sym (ap (λ (n : Node). slice_get (links_from c.args.chip.now.links n) c.args.place) c.in-Ni.is
    ∙ ap (λ (ls : List ℕ). slice_get (map (λ n. record { 0 = n }) ls) c.args.place)
    c.leaving-link.ensures.sends)
