use Rattle.std.{proofs.Common.◌∙◌, proofs.Common.ap, proofs.Common.arith, proofs.Common.eqb}
use Rattle.std.{proofs.Common.sym, specs.List.list_any, proofs.lemmas.Option.slice_get_within}
use Rattle.aeth_base.specs.declared.ids.NiId.{NiId}
use Rattle.aeth_base.proofs.TestLemmas.{is_some-false, is_some-true}
use Rattle.aeth_chip.specs.declared.node.Node.TheVariants.{Ni}
use Rattle.aeth_paths.proofs.JoinLemmas.{begins-leaving}
use Rattle.aeth_explain.proofs.FirstLemmas.{begins-told, from-among, leaves-other, leaves-router}
use Rattle.aeth_explain.proofs.FirstLemmas.{leaves-yes, so-far-all, so-far-no, so-far-none}
use Rattle.aeth_explain.proofs.FirstLemmas.{so-far-some}
use Rattle.aeth_explain.proofs.open_paths.first_open.Goals.{in-Ni+else-is_among, in_default}
use Rattle.aeth_explain.proofs.open_paths.first_open.Goals.{in-Ni+then-is_among+in_ok-found+else-is_some}
use Rattle.aeth_explain.proofs.open_paths.first_open.Goals as goal

-- The interface is a sender.
pub first_from-requires-clause-sender : goal.first_from-requires-clause-sender
first_from-requires-clause-sender c =
    from-among c.args.listed.now.trial.now.from c.in-Ni.ni
    (sym (c.is_among.ensures
    ∙ ap (list_any (λ (n : NiId). eqb n.0 c.in-Ni.ni.0)) c.from.ensures.from) ∙ c.if-is_among.true)

-- The link leaves it.
pub first_from-requires-clause-link : goal.first_from-requires-clause-link
first_from-requires-clause-link c =
    let links = c.args.listed.now.chip.now.links in
    begins-leaving links (record { 0 = c.loop-number.number }) (Ni c.in-Ni.ni)
    (begins-told links (record { 0 = c.loop-number.number }) c.link.result (Ni c.in-Ni.ni)
    c.link.ensures.link c.in-Ni.is)

-- A path is open over it.
pub returns-then-is_some : goal.returns-then-is_some
returns-then-is_some c =
    let listed = c.args.listed.now in
    let links = listed.chip.now.links in
    let n = c.loop-number.number in
    let among = from-among listed.trial.now.from c.in-Ni.ni
    (sym (c.is_among.ensures
    ∙ ap (list_any (λ (n : NiId). eqb n.0 c.in-Ni.ni.0)) c.from.ensures.from) ∙ c.if-is_among.true) in
    let begins = begins-told links (record { 0 = n }) c.link.result (Ni c.in-Ni.ni)
    c.link.ensures.link c.in-Ni.is in
    let (path, some) = is_some-true c.in_ok-found.found (sym c.is_some.ensures ∙ c.if-is_some.true) in
    some ∙ sym (so-far-some listed.chip.now listed.trial.now listed.cuts.now n path
    (slice_get_within links n c.link.result c.link.ensures.link)
    (leaves-yes links listed.trial.now.from (record { 0 = n }) c.in-Ni.ni among begins)
    c.loop-number.invariant (sym c.in_ok-found.ensures ∙ some))

-- Nothing is open over the link.
pub loop-number-preserved : goal.loop-number-preserved
loop-number-preserved c =
    let listed = c.args.listed.now in
    let links = listed.chip.now.links in
    let from = listed.trial.now.from in
    let n = c.loop-number.number in
    let at = c.link.ensures.link in
    elim c.match-link.branch [
      | in-Ni+then-is_among+in_ok-found+else-is_some w ↦
          let among = from-among from w.in-Ni.ni
          (sym (w.is_among.ensures
          ∙ ap (list_any (λ (n : NiId). eqb n.0 w.in-Ni.ni.0)) w.from.ensures.from)
          ∙ w.if-is_among.true) in
          so-far-none listed.chip.now listed.trial.now listed.cuts.now n
          (leaves-yes links from (record { 0 = n }) w.in-Ni.ni among
          (begins-told links (record { 0 = n }) c.link.result (Ni w.in-Ni.ni) at w.in-Ni.is))
          c.loop-number.invariant (sym w.in_ok-found.ensures
          ∙ is_some-false w.in_ok-found.found (sym w.is_some.ensures ∙ w.if-is_some.false))
      | in-Ni+else-is_among w ↦
          so-far-no listed.chip.now listed.trial.now listed.cuts.now n
          (leaves-other links from (record { 0 = n }) c.link.result w.in-Ni.ni at w.in-Ni.is
          (sym (w.is_among.ensures
          ∙ ap (list_any (λ (n : NiId). eqb n.0 w.in-Ni.ni.0)) w.from.ensures.from)
          ∙ w.if-is_among.false)) c.loop-number.invariant
      | in_default w ↦
          so-far-no listed.chip.now listed.trial.now listed.cuts.now n
          (leaves-router links from (record { 0 = n }) c.link.result _ at w.in_default.is)
          c.loop-number.invariant
    ]

-- There are no more links.
pub returns : goal.returns
returns c =
    let listed = c.args.listed.now in
    so-far-all listed.chip.now listed.trial.now listed.cuts.now c.loop-number.number
    (omega (
      arith,
      c.loop-number-test.false,
      c.loop-number.auto.number-end,
      c.links-number-end.ensures.links,
    )) c.loop-number.invariant
