use Rattle.std.proofs.Common.{◌≡◌, ◌∙◌, ◌-◌, ◌++◌, [], ◌∷◌, ap, subst, sym}
use Rattle.aeth_base.specs.Limits.{max_path_links}
use Rattle.aeth_chip.specs.{Chip.IsNode, Paths.to_in, declared.node.Node.TheVariants.Ni}
use Rattle.aeth_paths.proofs.StepLemmas.{link-below}
use Rattle.aeth_explain.{specs.Cuts.begins_with, specs.Fronts.IsFront, specs.Places.AreWithin}
use Rattle.aeth_explain.{specs.Verdict.is_covered, proofs.FrontLemmas.first-front}
use Rattle.aeth_explain.{proofs.OverLemmas.first-covered, proofs.OverLemmas.first-there}
use Rattle.aeth_explain.{proofs.open_paths.first_from.Goals.After-with_link-path}
use Rattle.aeth_explain.proofs.open_paths.first_from.Goals as goal

-- The list is the link.
alone : (c : After-with_link-path) → c.with_link-path.result ≡ c.args.link ∷ []
alone c =
    c.with_link-path.ensures ∙ ap (λ p. p ++ c.args.link ∷ []) c.empty.ensures

-- All lists are between the places.
pub is_covered-requires-clause-within : goal.is_covered-requires-clause-within
is_covered-requires-clause-within c =
    c.all_places-all.ensures.within (λ cut. begins_with cut c.with_link-path.result)

pub narrowed-places-requires-clause-within : goal.narrowed-places-requires-clause-within
narrowed-places-requires-clause-within c =
    c.all_places-all.ensures.within (begins_with c.with_link-path.result)

-- The list is covered.
pub returns-then-is_covered : goal.returns-then-is_covered
returns-then-is_covered c =
    first-covered c.args.listed.now c.requires.listed c.args.link (max_path_links - 1)
    (sym (ap (is_covered c.args.listed.now.cuts.now)
    (alone (goal.at.returns-then-is_covered c).After-with_link-path))
    ∙ sym c.is_covered.ensures ∙ c.if-is_covered.true)

-- The link is one of the chip.
pub link-requires : goal.link-requires
link-requires c =
    link-below c.args.listed.now.chip.now.links (Ni c.args.ni) c.args.link c.requires.link

-- It leads to an interface.
pub returns-in-Ni : goal.returns-in-Ni
returns-in-Ni c =
    first-there c.args.listed.now c.requires.listed c.args.link (max_path_links - 1) c.in-Ni.field-0
    (ap to_in c.link.ensures.link ∙ c.in-Ni.is)

-- Else it is a list from the sender.
pub open_below-requires-clause-front : goal.open_below-requires-clause-front
open_below-requires-clause-front c =
    let listed = c.args.listed.now in
    let link = c.args.link in
    let r = c.in-Router.router in
    let same = alone (goal.at.open_below-requires-clause-front c).After-with_link-path in
    let places = c.narrowed-places.result in
    subst (λ n. IsFront listed n (record {
      path = c.with_link-path.result;
      router = r;
      places = places;
    })) (sym c.in_ok-sender-in-Router.ensures.ni)
    (subst (λ p. IsFront listed c.args.ni (record { path = p; router = r; places = places }))
    (sym same)
    (first-front listed c.args.ni link r c.requires.link
    (ap to_in c.link.ensures.link ∙ c.in-Router.is)
    (subst (IsNode listed.chip.now.routers listed.chip.now.nis) c.in-Router.is c.link.ensures.to)
    (ap (is_covered listed.cuts.now) (sym same) ∙ sym c.is_covered.ensures
    ∙ c.if-is_covered.false) places c.narrowed-places.ensures.known
    (subst (λ p. AreWithin (begins_with p) listed.cuts.now places) same
    c.narrowed-places.ensures.within)))
