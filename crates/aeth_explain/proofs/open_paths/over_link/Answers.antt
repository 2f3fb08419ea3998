use Rattle.std.proofs.Common.{◌∙◌, ◌∷◌, [], Some, ap, arith, length, subst, sym}
use Rattle.aeth_chip.specs.{Chip.IsNode, Paths.to_in, declared.node.Node.TheVariants.Router}
use Rattle.aeth_paths.proofs.StepLemmas.{link-below}
use Rattle.aeth_explain.specs.{Cuts.begins_with, Fronts.IsFront, Places.AreWithin}
use Rattle.aeth_explain.specs.{Verdict.is_covered}
use Rattle.aeth_explain.proofs.FrontLemmas.{longer-front}
use Rattle.aeth_explain.proofs.OverLemmas.{over-again, over-covered, over-far, over-long}
use Rattle.aeth_explain.proofs.OverLemmas.{over-there}
use Rattle.aeth_explain.proofs.PlaceLemmas.{covers-within, longer-within}
use Rattle.aeth_explain.proofs.open_paths.over_link.Goals.{then-passes-via-then-passes}
use Rattle.aeth_explain.proofs.open_paths.over_link.Goals.{then-passes-via-else-passes+then-len-links_at}
use Rattle.aeth_explain.proofs.open_paths.over_link.Goals as goal

-- The lists with which the longer one begins are between the places.
pub is_covered-requires-clause-within : goal.is_covered-requires-clause-within
is_covered-requires-clause-within c =
    let cuts = c.args.listed.now.cuts.now in
    let front = c.args.front.now in
    subst (λ p. AreWithin (λ cut. begins_with cut p) cuts front.places) (sym c.with_link-path.ensures)
    (covers-within cuts front.path front.places c.requires.front.within (c.args.link ∷ [])
    c.requires.front.bare)

-- So are those that begin with it.
pub narrowed-places-requires-clause-within : goal.narrowed-places-requires-clause-within
narrowed-places-requires-clause-within c =
    let cuts = c.args.listed.now.cuts.now in
    let front = c.args.front.now in
    subst (λ p. AreWithin (begins_with p) cuts front.places) (sym c.with_link-path.ensures)
    (longer-within cuts front.path front.places c.requires.front.within (c.args.link ∷ []))

-- The longer list is covered.
pub returns-then-is_covered : goal.returns-then-is_covered
returns-then-is_covered c =
    over-covered c.args.listed.now c.requires.listed c.args.sender.now.ni c.args.front.now
    c.requires.front c.args.link c.requires.link c.args.left
    (sym (ap (is_covered c.args.listed.now.cuts.now) c.with_link-path.ensures)
    ∙ sym c.is_covered.ensures ∙ c.if-is_covered.true)

-- The link is one of the chip.
pub link-requires : goal.link-requires
link-requires c =
    link-below c.args.listed.now.chip.now.links (Router c.args.front.now.router) c.args.link
    c.requires.link

-- It comes to a router again, or with too many links.
pub returns-then-passes : goal.returns-then-passes
returns-then-passes c =
    let listed = c.args.listed.now in
    let sender = c.args.sender.now in
    let comes = ap to_in c.link.ensures.link ∙ c.in-Router.is in
    let known = subst (IsNode listed.chip.now.routers listed.chip.now.nis) c.in-Router.is
    c.link.ensures.to in
    elim c.then-passes.branch [
      | then-passes-via-then-passes w ↦
          over-again listed c.requires.listed sender.ni c.args.front.now c.requires.front c.args.link
          c.requires.link c.args.left c.in-Router.router comes
          (sym c.passes.ensures ∙ w.if-passes.true)
      | then-passes-via-else-passes+then-len-links_at w ↦
          over-far listed c.requires.listed sender.ni c.args.front.now c.requires.front c.args.link
          c.requires.link c.args.left c.in-Router.router comes sender.most_to.items
          sender.most_at.items c.requires.reach known
          (omega (
            arith,
            w.if-len-links_at.true,
            w.len-else-passes.ensures.len,
            w.links_at.ensures,
            ap length c.with_link-path.ensures,
          ))
    ]

-- It comes to an interface with few enough links.
pub returns-then-len-links_to : goal.returns-then-len-links_to
returns-then-len-links_to c =
    let listed = c.args.listed.now in
    let low = subst (IsNode listed.chip.now.routers listed.chip.now.nis) c.in-Ni.is
    c.link.ensures.to in (
      over-there listed c.requires.listed c.args.sender.now.ni c.args.front.now c.requires.front
          c.args.link c.requires.link c.args.left c.in-Ni.ni (ap to_in c.link.ensures.link ∙ c.in-Ni.is)
          c.requires.sender
          (sym (ap (is_covered listed.cuts.now) c.with_link-path.ensures) ∙ sym c.is_covered.ensures
          ∙ c.if-is_covered.false)
          (omega (
            arith,
            c.if-len-links_to.true,
            c.len.ensures.len,
            c.links_to.ensures,
            c.requires.reach.most c.in-Ni.ni low,
            ap length c.with_link-path.ensures,
          ))
          ∙ ap Some (sym c.with_link-path.ensures),
      c.with_link-path.ensures,
    )

-- It comes to one with too many.
pub returns-else-len-links_to : goal.returns-else-len-links_to
returns-else-len-links_to c =
    let listed = c.args.listed.now in
    let low = subst (IsNode listed.chip.now.routers listed.chip.now.nis) c.in-Ni.is
    c.link.ensures.to in
    over-long listed c.requires.listed c.args.sender.now.ni c.args.front.now c.requires.front
    c.args.link c.requires.link c.args.left c.in-Ni.ni (ap to_in c.link.ensures.link ∙ c.in-Ni.is)
    (omega (
      arith,
      c.if-len-links_to.false,
      c.len.ensures.len,
      c.links_to.ensures,
      c.requires.reach.most c.in-Ni.ni low,
      ap length c.with_link-path.ensures,
    ))

-- It comes to a new router.
pub returns-else-len-links_at : goal.returns-else-len-links_at
returns-else-len-links_at c =
    let listed = c.args.listed.now in
    let a = c.args.sender.now.ni in
    let r = c.in-Router.router in
    let comes = ap to_in c.link.ensures.link ∙ c.in-Router.is in
    let known = subst (IsNode listed.chip.now.routers listed.chip.now.nis) c.in-Router.is
    c.link.ensures.to in
    let places = c.narrowed-places.result in
    record {
      path = c.with_link-path.ensures;
      ends = comes;
      is_front = subst (λ p. IsFront listed a (record { path = p; router = r; places = places }))
          (sym c.with_link-path.ensures)
          (longer-front listed a c.args.front.now c.requires.front c.args.link r c.requires.link
          comes (sym c.passes.ensures ∙ c.if-passes.false) known
          (sym (ap (is_covered listed.cuts.now) c.with_link-path.ensures)
          ∙ sym c.is_covered.ensures ∙ c.if-is_covered.false) places c.narrowed-places.ensures.known
          (subst (λ p. AreWithin (begins_with p) listed.cuts.now places) c.with_link-path.ensures
          c.narrowed-places.ensures.within));
    }
