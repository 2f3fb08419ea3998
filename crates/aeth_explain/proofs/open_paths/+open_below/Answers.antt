use Rattle.std.proofs.Common.{◌≡◌, ◌∙◌, ◌-◌, arith, sym, slice_get}
use Rattle.aeth_base.proofs.Members.{Contains-slice_get}
use Rattle.aeth_base.proofs.TestLemmas.{is_some-false, is_some-true}
use Rattle.aeth_chip.specs.{Nodes.sends_on, declared.node.Node.TheVariants.Router}
use Rattle.aeth_paths.specs.Task.{links_from}
use Rattle.aeth_paths.proofs.{PrefixLemmas.link-at, StepLemmas.few-leave}
use Rattle.aeth_explain.specs.{Fronts.open_over, Verdict.is_open}
use Rattle.aeth_explain.proofs.OpenLemmas.{first-found, first-next}
use Rattle.aeth_explain.proofs.OverLemmas.{below, none-left, none-over-all, none-past, over-is}
use Rattle.aeth_explain.proofs.OverLemmas.{over-links}
use Rattle.aeth_explain.proofs.open_paths.+open_below.Goals.{in-Away, in-Onward, in-Open}
use Rattle.aeth_explain.proofs.open_paths.+open_below.Goals.{After-exit, After-is_some}
use Rattle.aeth_explain.proofs.open_paths.+open_below.Goals as goal

-- No link may follow.
pub returns-then-left-eq0 : goal.returns-then-left-eq0
returns-then-left-eq0 t c =
    none-left c.args.listed.now c.requires.listed c.args.sender.now.ni c.args.front.now
    c.requires.front c.args.left c.if-left-eq0.true

-- The link at the port.
at-port : (t : _) (c : goal.After-exit t)
    → c.exit.result
    ≡ slice_get (links_from c.args.listed.now.chip.now.links (Router c.args.front.now.router))
    c.loop-port.port
at-port t c =
    link-at (sends_on (Router c.args.front.now.router) c.args.listed.now.chip.now.links)
    c.loop-port.port c.exit.result c.exit.ensures.link

-- There is no further one.
pub returns-in_default : goal.returns-in_default
returns-in_default t c =
    none-over-all c.args.listed.now c.requires.listed c.args.sender.now.ni c.args.front.now
    c.requires.front c.args.left c.loop-port.port (omega (arith, c.if-left-eq0.false))
    (none-past (links_from c.args.listed.now.chip.now.links (Router c.args.front.now.router))
    c.loop-port.port (sym (at-port t (goal.at.returns-in_default t c).After-exit) ∙ c.in_default.is))
    c.loop-port.invariant

-- The link leaves the list's end.
pub over_link-requires-clause-link : goal.over_link-requires-clause-link
over_link-requires-clause-link t c =
    Contains-slice_get (links_from c.args.listed.now.chip.now.links
    (Router c.args.front.now.router)) c.loop-port.port c.in-Some.link
    (sym (at-port t (goal.at.over_link-requires-clause-link t c).After-exit) ∙ c.in-Some.is)

-- What is found is first over the link.
found-is : (t : _) (c : goal.After-is_some t)
    → c.match-over_link.found
    ≡ open_over c.args.listed.now c.args.front.now c.in-Some.link (c.args.left - 1)
found-is t c =
    let listed = c.args.listed.now in
    let a = c.args.sender.now.ni in
    let front = c.args.front.now in
    let link = c.in-Some.link in
    let left = c.args.left - 1 in
    let told = over-is listed c.requires.listed a front c.requires.front link left
    c.over_link.result c.match-over_link.found c.over_link.ensures in
    elim c.match-over_link.branch [
      | in-Away w ↦ told (rw w.in-Away.is w.found-is)
      | in-Open w ↦ told (rw w.in-Open.is w.found-is)
      | in-Onward w ↦ told (rw w.in-Onward.is (w.found-is ∙ w.open_below-found.ensures))
    ]

-- One is found.
pub returns-then-is_some : goal.returns-then-is_some
returns-then-is_some t c =
    let listed = c.args.listed.now in
    let a = c.args.sender.now.ni in
    let front = c.args.front.now in
    let links = links_from listed.chip.now.links (Router front.router) in
    let (path, some) = is_some-true c.match-over_link.found
    (sym c.is_some.ensures ∙ c.if-is_some.true) in
    let at = sym (at-port t (goal.at.returns-then-is_some t c).After-exit) ∙ c.in-Some.is in
    let here = sym (found-is t (goal.at.returns-then-is_some t c).After-is_some) ∙ some in
    some ∙ sym (over-links listed c.requires.listed a front c.requires.front c.args.left
    (omega (arith, c.if-left-eq0.false))
    ∙ first-found (is_open listed.chip.now listed.trial.now listed.cuts.now)
    (below listed c.requires.listed a front c.requires.front (c.args.left - 1)) links
    c.loop-port.port c.in-Some.link path at c.loop-port.invariant here)

-- None is.
pub loop-port-preserved : goal.loop-port-preserved
loop-port-preserved t c =
    let listed = c.args.listed.now in
    let a = c.args.sender.now.ni in
    let front = c.args.front.now in
    let links = links_from listed.chip.now.links (Router front.router) in
    let none = is_some-false c.match-over_link.found (sym c.is_some.ensures ∙ c.if-is_some.false) in
    let at = sym (at-port t (goal.at.loop-port-preserved t c).After-exit) ∙ c.in-Some.is in
    let here = sym (found-is t (goal.at.loop-port-preserved t c).After-is_some) ∙ none in
    first-next (is_open listed.chip.now listed.trial.now listed.cuts.now)
    (below listed c.requires.listed a front c.requires.front (c.args.left - 1)) links
    c.loop-port.port c.in-Some.link at c.loop-port.invariant here

-- No router has more ports.
pub returns : goal.returns
returns t c =
    let listed = c.args.listed.now in
    none-over-all listed c.requires.listed c.args.sender.now.ni c.args.front.now c.requires.front
    c.args.left c.loop-port.port (omega (arith, c.if-left-eq0.false))
    (omega (
      arith,
      few-leave listed.chip.now (Router c.args.front.now.router) c.requires.listed.is_chip
          c.requires.front.known,
      c.loop-port-test.false,
    )) c.loop-port.invariant
