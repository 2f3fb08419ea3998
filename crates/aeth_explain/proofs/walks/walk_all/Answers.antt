use Rattle.std.proofs.Common.{◌≡◌, ◌∙◌, ◌+◌, ◌++◌, Bool, List, Ok, ap, arith, eqb, false, subst}
use Rattle.std.proofs.Common.{sym, true}
use Rattle.std.proofs.lemmas.Option.{slice_get_within}
use Rattle.std.specs.List.{list_any}
use Rattle.aeth_base.specs.declared.ids.{LinkId.LinkId, NiId.NiId}
use Rattle.aeth_chip.specs.declared.node.Node.TheVariants.{Ni}
use Rattle.aeth_paths.proofs.JoinLemmas.{begins-leaving}
use Rattle.aeth_explain.specs.{Fronts.lists_so_far, TryPaths.leaves_one, Walks.IsWalked}
use Rattle.aeth_explain.specs.{Walks.may_have}
use Rattle.aeth_explain.proofs.FirstLemmas.{begins-told, below, from-among, leaves-other}
use Rattle.aeth_explain.proofs.FirstLemmas.{leaves-router, leaves-yes, lists-all, lists-no}
use Rattle.aeth_explain.proofs.FirstLemmas.{lists-rest, lists-yes}
use Rattle.aeth_explain.proofs.WalkLemmas.{found-on, walked-on}
use Rattle.aeth_explain.proofs.StepLemmas.{told-ok}
use Rattle.aeth_explain.proofs.walks.walk_all.Goals.{in-Ni+else-is_among, in_default}
use Rattle.aeth_explain.proofs.walks.walk_all.Goals.{in-Ni+then-is_among+in_ok-found+else-found}
use Rattle.aeth_explain.proofs.walks.walk_all.Goals as goal

-- The interface is a sender.
pub walk_from-requires-clause-sender : goal.walk_from-requires-clause-sender
walk_from-requires-clause-sender c =
    from-among c.args.listed.now.trial.now.from c.in-Ni.ni
    (sym (c.is_among.ensures
    ∙ ap (list_any (λ (n : NiId). eqb n.0 c.in-Ni.ni.0)) c.from.ensures.from) ∙ c.if-is_among.true)

-- The link leaves it.
pub walk_from-requires-clause-link : goal.walk_from-requires-clause-link
walk_from-requires-clause-link c =
    let links = c.args.listed.now.chip.now.links in
    begins-leaving links (record { 0 = c.loop-number.number }) (Ni c.in-Ni.ni)
    (begins-told links (record { 0 = c.loop-number.number }) c.link.result (Ni c.in-Ni.ni)
    c.link.ensures.link c.in-Ni.is)

-- A live path is found over it.
pub returns-then-found : goal.returns-then-found
returns-then-found c =
    let listed = c.args.listed.now in
    let chip = listed.chip.now in
    let trial = listed.trial.now in
    let groups = c.args.judge.now.groups in
    let links = chip.links in
    let n = c.loop-number.number in
    let among = from-among trial.from c.in-Ni.ni
    (sym (c.is_among.ensures
    ∙ ap (list_any (λ (n : NiId). eqb n.0 c.in-Ni.ni.0)) c.from.ensures.from) ∙ c.if-is_among.true) in
    let begins = begins-told links (record { 0 = n }) c.link.result (Ni c.in-Ni.ni)
    c.link.ensures.link c.in-Ni.is in
    let sends = leaves-yes links trial.from (record { 0 = n }) c.in-Ni.ni among begins in
    let here = below chip trial (record { 0 = n }) in
    let found = told-ok (λ (b : Bool). IsWalked chip groups trial here c.loop-number.cuts b
    c.walk_from.new.cuts) c.walk_from.result true (c.in_ok-found.was ∙ ap Ok c.if-found.true)
    c.walk_from.ensures in
    let (later, split) = lists-rest chip trial n (slice_get_within links n c.link.result
    c.link.ensures.link) in
    ap (list_any (may_have chip groups trial)) (split
    ∙ ap (λ ls. ls ++ later) (lists-yes chip trial n sends))
    ∙ found-on chip groups trial (lists_so_far chip trial n ++ here) later
    (walked-on chip groups trial (lists_so_far chip trial n) here c.args.cuts.now
    c.loop-number.cuts c.walk_from.new.cuts true c.loop-number.invariant found)

-- None is.
pub loop-number-preserved : goal.loop-number-preserved
loop-number-preserved c =
    let listed = c.args.listed.now in
    let chip = listed.chip.now in
    let trial = listed.trial.now in
    let groups = c.args.judge.now.groups in
    let links = chip.links in
    let n = c.loop-number.number in
    let at = c.link.ensures.link in
    let old = c.args.cuts.now in
    let Walked : List (List LinkId) → List (List LinkId) → Type 0 =
    λ lists new. IsWalked chip groups trial lists old false new in
    let stays : leaves_one links trial.from (record { 0 = n }) ≡ false
    → c.match-link.cuts ≡ c.loop-number.cuts
    → Walked (lists_so_far chip trial (n + 1)) c.match-link.cuts =
    λ none same. subst (Walked (lists_so_far chip trial (n + 1))) (sym same)
    (subst (λ lists. Walked lists c.loop-number.cuts) (sym (lists-no chip trial n none))
    c.loop-number.invariant) in
    elim c.match-link.branch [
      | in-Ni+then-is_among+in_ok-found+else-found w ↦
          let among = from-among trial.from w.in-Ni.ni
          (sym (w.is_among.ensures
          ∙ ap (list_any (λ (n : NiId). eqb n.0 w.in-Ni.ni.0)) w.from.ensures.from)
          ∙ w.if-is_among.true) in
          let sends = leaves-yes links trial.from (record { 0 = n }) w.in-Ni.ni among
          (begins-told links (record { 0 = n }) c.link.result (Ni w.in-Ni.ni) at w.in-Ni.is) in
          let here = below chip trial (record { 0 = n }) in
          let walked = told-ok (λ (b : Bool). IsWalked chip groups trial here c.loop-number.cuts b
          w.walk_from.new.cuts) w.walk_from.result false (w.in_ok-found.was ∙ ap Ok w.if-found.false)
          w.walk_from.ensures in
          subst (Walked (lists_so_far chip trial (n + 1))) (sym w.cuts-is)
          (subst (λ lists. Walked lists w.walk_from.new.cuts) (sym (lists-yes chip trial n sends))
          (walked-on chip groups trial (lists_so_far chip trial n) here old c.loop-number.cuts
          w.walk_from.new.cuts false c.loop-number.invariant walked))
      | in-Ni+else-is_among w ↦
          stays (leaves-other links trial.from (record { 0 = n }) c.link.result w.in-Ni.ni at w.in-Ni.is
          (sym (w.is_among.ensures
          ∙ ap (list_any (λ (n : NiId). eqb n.0 w.in-Ni.ni.0)) w.from.ensures.from)
          ∙ w.if-is_among.false)) w.cuts-is
      | in_default w ↦
          stays (leaves-router links trial.from (record { 0 = n }) c.link.result _ at w.in_default.is)
          w.cuts-is
    ]

-- There are no more links.
pub returns : goal.returns
returns c =
    let listed = c.args.listed.now in
    subst (λ (lists : List (List LinkId)). IsWalked listed.chip.now c.args.judge.now.groups
    listed.trial.now lists c.args.cuts.now false c.loop-number.cuts)
    (lists-all listed.chip.now listed.trial.now c.loop-number.number
    (omega (
      arith,
      c.loop-number-test.false,
      c.loop-number.auto.number-end,
      c.links-number-end.ensures.links,
    ))) c.loop-number.invariant
