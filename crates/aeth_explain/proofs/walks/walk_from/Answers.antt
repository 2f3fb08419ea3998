use Rattle.std.proofs.Common.{◌≡◌, ◌∙◌, ◌-◌, ◌++◌, [], ◌∷◌, List, ap, subst, sym}
use Rattle.aeth_base.specs.{Limits.max_path_links, declared.ids.LinkId.LinkId}
use Rattle.aeth_chip.specs.{Chip.IsNode, Paths.to_in, declared.node.Node.TheVariants.Ni}
use Rattle.aeth_paths.proofs.StepLemmas.{link-below}
use Rattle.aeth_explain.specs.{Cuts.begins_with, Fronts.IsFront, Verdict.is_covered}
use Rattle.aeth_explain.proofs.{FrontLemmas.first-front, StepLemmas.walked-there}
use Rattle.aeth_explain.proofs.walks.walk_from.Goals as goal

-- The link is one of the chip.
pub link-requires : goal.link-requires
link-requires c =
    link-below c.args.listed.now.chip.now.links (Ni c.args.ni) c.args.link c.requires.link

-- It leads to an interface.
pub returns-in-Ni : goal.returns-in-Ni
returns-in-Ni c =
    walked-there c.args.judge.now c.args.listed.now c.requires.tried c.args.link c.in-Ni.field-0
    (ap to_in c.link.ensures.link ∙ c.in-Ni.is) (max_path_links - 1) c.args.cuts.now

-- Else it is a list from the sender.
pub walk-requires-clause-front : goal.walk-requires-clause-front
walk-requires-clause-front c =
    let listed = c.args.listed.now in
    let link = c.args.link in
    let r = c.in-Router.router in
    let same : c.with_link-path.result ≡ link ∷ [] =
    c.with_link-path.ensures ∙ ap (λ (p : List LinkId). p ++ link ∷ []) c.empty.ensures in
    let places = c.all_places.result in
    subst (λ n. IsFront listed n (record {
      path = c.with_link-path.result;
      router = r;
      places = places;
    })) (sym c.in_ok-sender-in-Router.ensures.ni)
    (subst (λ p. IsFront listed c.args.ni (record { path = p; router = r; places = places }))
    (sym same)
    (first-front listed c.args.ni link r c.requires.link
    (ap to_in c.link.ensures.link ∙ c.in-Router.is)
    (subst (IsNode listed.chip.now.routers listed.chip.now.nis) c.in-Router.is c.link.ensures.to)
    (ap (λ (cuts : List (List LinkId)). is_covered cuts (link ∷ [])) c.requires.tried.none)
    places c.all_places.ensures.known (c.all_places.ensures.within (begins_with (link ∷ [])))))
