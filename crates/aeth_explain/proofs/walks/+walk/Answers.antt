use Rattle.std.proofs.Common.{◌≡◌, ◌∙◌, ◌+◌, ◌-◌, ◌≢◌, Bool, List, ℕ, ap, arith, false, length}
use Rattle.std.proofs.Common.{refl, subst, sym, true}
use Rattle.std.specs.List.{list_any}
use Rattle.aeth_base.specs.{Limits.max_path_links, declared.ids.LinkId.LinkId}
use Rattle.aeth_chip.specs.Paths.{to_of}
use Rattle.aeth_chip.specs.declared.node.Node.{Node, TheVariants.Router}
use Rattle.aeth_paths.{specs.Task.links_from, proofs.StepLemmas.few-leave}
use Rattle.aeth_explain.specs.{Certificate.shorter_fronts, Fronts.lists_below, TryPaths.is_dead}
use Rattle.aeth_explain.specs.{Walks.IsWalked}
use Rattle.aeth_explain.proofs.StepLemmas.{below, port-at, link-leaves, links-past, open-may}
use Rattle.aeth_explain.proofs.StepLemmas.{path-fronts, path-room, same-ok, told-ok, tried-dead}
use Rattle.aeth_explain.proofs.StepLemmas.{tried-links, walked-as, walked-away, walked-end}
use Rattle.aeth_explain.proofs.StepLemmas.{walked-links, walked-longer, walked-past}
use Rattle.aeth_explain.proofs.WalkLemmas.{found-over, walked-next}
use Rattle.aeth_explain.proofs.walks.+walk.Goals.{After-is_dead, In_ok-found, in-Away, in-Onward}
use Rattle.aeth_explain.proofs.walks.+walk.Goals.{in-Open}
use Rattle.aeth_explain.proofs.walks.+walk.Goals as goal

-- The list's links are the chip's.
pub is_dead-requires : goal.is_dead-requires
is_dead-requires t c =
    tried-links c.args.judge.now c.args.listed.now c.requires.tried c.args.front.now.path
    c.requires.front.links

-- Whether it is dead.
dead-is : (t : _) (c : After-is_dead t)
    → c.is_dead.result ≡ is_dead c.args.listed.now.chip.now c.args.judge.now.groups
    c.args.listed.now.trial.now c.args.front.now.path
dead-is t c =
    c.is_dead.ensures
    ∙ tried-dead c.args.judge.now c.args.listed.now c.requires.tried c.args.front.now.path

pub put_cut-requires-clause-dead : goal.put_cut-requires-clause-dead
put_cut-requires-clause-dead t c =
    sym (dead-is t (goal.at.put_cut-requires-clause-dead t c).After-is_dead) ∙ c.if-is_dead.true

-- No link may follow.
pub returns-then-left-eq0 : goal.returns-then-left-eq0
returns-then-left-eq0 t c =
    walked-end c.args.judge.now c.args.listed.now c.requires.tried c.args.sender.now.ni
    c.args.front.now c.requires.front c.args.left c.if-left-eq0.true
    (sym (dead-is t (goal.at.returns-then-left-eq0 t c).After-is_dead) ∙ c.if-is_dead.false)
    c.args.cuts.now

-- There is no further link.
pub returns-in_default : goal.returns-in_default
returns-in_default t c =
    walked-past c.args.judge.now c.args.listed.now c.requires.tried c.args.sender.now.ni
    c.args.front.now c.requires.front c.args.left c.loop-port.port
    (omega (arith, c.if-left-eq0.false))
    (sym (dead-is t (goal.at.returns-in_default t c).After-is_dead) ∙ c.if-is_dead.false)
    (links-past c.args.listed.now.chip.now.links c.args.front.now.router c.loop-port.port
    c.exit.result c.exit.ensures.link c.in_default.is)
    c.args.cuts.now c.loop-port.cuts c.loop-port.invariant

-- The link leaves the list's end.
pub over_link-requires-clause-link : goal.over_link-requires-clause-link
over_link-requires-clause-link t c =
    link-leaves c.args.listed.now.chip.now.links c.args.front.now.router c.loop-port.port
    c.exit.result c.in-Some.link c.exit.ensures.link c.in-Some.is

room-is : (left links : ℕ) → left ≢ 0 → links + left ≡ max_path_links
    → links + ((left - 1) + 1) ≡ max_path_links
room-is left links some room = omega (arith, some, room)

-- A path that ends there is one that the try may take.
pub end-came-requires-clause-may : goal.end-came-requires-clause-may
end-came-requires-clause-may t c =
    (open-may c.args.judge.now c.args.listed.now c.requires.tried
    (below c.args.judge.now c.args.listed.now c.requires.tried c.args.sender.now.ni c.args.front.now
    c.requires.front (c.args.left - 1) c.in-Some.link) c.in-Open.path
    (rw c.in-Open.is at c.over_link.ensures).0).1

-- No shorter list than the longer one is dead.
pub end-came-requires-clause-fronts : goal.end-came-requires-clause-fronts
end-came-requires-clause-fronts t c =
    let leaves = link-leaves c.args.listed.now.chip.now.links c.args.front.now.router
    c.loop-port.port c.exit.result c.in-Some.link c.exit.ensures.link c.in-Some.is in
    subst (λ (p : List LinkId). list_any (is_dead c.args.listed.now.chip.now c.args.judge.now.groups
    c.args.listed.now.trial.now) (shorter_fronts p) ≡ false)
    (sym (rw c.in-Open.is at c.over_link.ensures).1)
    (path-fronts c.args.judge.now c.args.listed.now c.requires.tried c.args.sender.now.ni
    c.args.front.now c.requires.front c.in-Some.link leaves (c.args.left - 1)
    (room-is c.args.left (length c.args.front.now.path) c.if-left-eq0.false c.requires.room)
    (sym (dead-is t (goal.at.end-came-requires-clause-fronts t c).After-is_dead)
    ∙ c.if-is_dead.false))

pub walk-came-requires : goal.walk-came-requires
walk-came-requires t c =
    let leaves = link-leaves c.args.listed.now.chip.now.links c.args.front.now.router
    c.loop-port.port c.exit.result c.in-Some.link c.exit.ensures.link c.in-Some.is in
    let room = room-is c.args.left (length c.args.front.now.path) c.if-left-eq0.false c.requires.room in
    let longer = rw c.in-Onward.is at c.over_link.ensures in
    let size = path-room c.args.judge.now c.args.listed.now c.requires.tried c.args.sender.now.ni
    c.args.front.now c.requires.front c.in-Some.link leaves (c.args.left - 1) room in (
      omega (arith, c.decreases, c.if-left-eq0.false),
      (
        c.requires.tried,
        (
          c.requires.reach,
          (
            c.requires.sender,
            (
              longer.is_front,
              (
                omega (arith, size, ap length longer.path),
                subst (λ (p : List LinkId). list_any (is_dead c.args.listed.now.chip.now
                    c.args.judge.now.groups c.args.listed.now.trial.now) (shorter_fronts p) ≡ false)
                    (sym longer.path)
                    (path-fronts c.args.judge.now c.args.listed.now c.requires.tried c.args.sender.now.ni
                    c.args.front.now c.requires.front c.in-Some.link leaves (c.args.left - 1) room
                    (sym (dead-is t (goal.at.walk-came-requires t c).After-is_dead) ∙ c.if-is_dead.false)),
              ),
            ),
          ),
        ),
      ),
    )

-- What the walk comes to over the link.
over-walked : (t : _) (c : In_ok-found t)
    → IsWalked c.args.listed.now.chip.now c.args.judge.now.groups c.args.listed.now.trial.now
    (below c.args.judge.now c.args.listed.now c.requires.tried c.args.sender.now.ni c.args.front.now
    c.requires.front (c.args.left - 1) c.in-Some.link) c.loop-port.cuts c.in_ok-found.found
    c.match-over_link.cuts
over-walked t c =
    let judge = c.args.judge.now in
    let listed = c.args.listed.now in
    let chip = listed.chip.now in
    let a = c.args.sender.now.ni in
    let front = c.args.front.now in
    let link = c.in-Some.link in
    let left = c.args.left - 1 in
    let mid = c.loop-port.cuts in
    let found = c.in_ok-found.found in
    let lists : List (List LinkId) = below judge listed c.requires.tried a front c.requires.front left link in
    let leaves = link-leaves chip.links front.router c.loop-port.port c.exit.result link
    c.exit.ensures.link c.in-Some.is in
    let room = room-is c.args.left (length front.path) c.if-left-eq0.false c.requires.room in
    elim c.match-over_link.branch [
      | in-Away w ↦
          walked-as judge listed c.requires.tried lists mid mid c.match-over_link.cuts false found
          (walked-away judge listed c.requires.tried a front c.requires.front link leaves left room
          (rw w.in-Away.is at c.over_link.ensures) mid)
          (same-ok c.match-over_link.came false found w.came-is c.in_ok-found.was) (sym w.cuts-is)
      | in-Open w ↦
          let longer = (rw w.in-Open.is at c.over_link.ensures).1 in
          walked-as judge listed c.requires.tried lists mid w.end-came.new.cuts c.match-over_link.cuts
          found found
          (subst (λ (p : List LinkId). IsWalked chip judge.groups listed.trial.now
          (lists_below chip.links left (to_of chip.links link) p) mid found w.end-came.new.cuts) longer
          (told-ok (λ (b : Bool). (n : ℕ) (m : Node) → IsWalked chip judge.groups listed.trial.now
          (lists_below chip.links n m w.in-Open.path) mid b w.end-came.new.cuts) w.end-came.result
          found (sym w.came-is ∙ c.in_ok-found.was) w.end-came.ensures left (to_of chip.links link)))
          refl (sym w.cuts-is)
      | in-Onward w ↦
          walked-as judge listed c.requires.tried lists mid w.walk-came.new.cuts
          c.match-over_link.cuts found found
          (walked-longer judge listed c.requires.tried a front c.requires.front link leaves left room
          w.in-Onward.front (rw w.in-Onward.is at c.over_link.ensures) mid w.walk-came.new.cuts found
          (told-ok (λ (b : Bool). IsWalked chip judge.groups listed.trial.now
          (lists_below chip.links left (Router w.in-Onward.front.router) w.in-Onward.front.path) mid b
          w.walk-came.new.cuts) w.walk-came.result found (sym w.came-is ∙ c.in_ok-found.was)
          w.walk-came.ensures))
          refl (sym w.cuts-is)
    ]

-- A live path is found over it.
pub returns-then-found : goal.returns-then-found
returns-then-found t c =
    let judge = c.args.judge.now in
    let listed = c.args.listed.now in
    let a = c.args.sender.now.ni in
    let front = c.args.front.now in
    let out = links_from listed.chip.now.links (Router front.router) in
    let lists : LinkId → List (List LinkId) =
    below judge listed c.requires.tried a front c.requires.front (c.args.left - 1) in
    let at = port-at listed.chip.now.links front.router c.loop-port.port c.exit.result c.in-Some.link
    c.exit.ensures.link c.in-Some.is in
    let walked = subst (λ (b : Bool). IsWalked listed.chip.now judge.groups listed.trial.now
    (lists c.in-Some.link) c.loop-port.cuts b c.match-over_link.cuts) c.if-found.true
    (over-walked t (goal.at.returns-then-found t c).In_ok-found) in
    walked-links judge listed c.requires.tried a front c.requires.front c.args.left
    (omega (arith, c.if-left-eq0.false))
    (sym (dead-is t (goal.at.returns-then-found t c).After-is_dead) ∙ c.if-is_dead.false)
    c.args.cuts.now c.match-over_link.cuts true
    (found-over listed.chip.now judge.groups listed.trial.now lists out (c.loop-port.port + 1)
    (walked-next listed.chip.now judge.groups listed.trial.now lists out c.loop-port.port
    c.in-Some.link c.args.cuts.now c.loop-port.cuts c.match-over_link.cuts true at
    c.loop-port.invariant walked))

-- None is.
pub loop-port-preserved : goal.loop-port-preserved
loop-port-preserved t c =
    let judge = c.args.judge.now in
    let listed = c.args.listed.now in
    let a = c.args.sender.now.ni in
    let front = c.args.front.now in
    let out = links_from listed.chip.now.links (Router front.router) in
    let lists : LinkId → List (List LinkId) =
    below judge listed c.requires.tried a front c.requires.front (c.args.left - 1) in
    let at = port-at listed.chip.now.links front.router c.loop-port.port c.exit.result c.in-Some.link
    c.exit.ensures.link c.in-Some.is in
    let walked = subst (λ (b : Bool). IsWalked listed.chip.now judge.groups listed.trial.now
    (lists c.in-Some.link) c.loop-port.cuts b c.match-over_link.cuts) c.if-found.false
    (over-walked t (goal.at.loop-port-preserved t c).In_ok-found) in
    walked-next listed.chip.now judge.groups listed.trial.now lists out c.loop-port.port
    c.in-Some.link c.args.cuts.now c.loop-port.cuts c.match-over_link.cuts false at
    c.loop-port.invariant walked

-- No router has more ports.
pub returns : goal.returns
returns t c =
    walked-past c.args.judge.now c.args.listed.now c.requires.tried c.args.sender.now.ni
    c.args.front.now c.requires.front c.args.left c.loop-port.port
    (omega (arith, c.if-left-eq0.false))
    (sym (dead-is t (goal.at.returns t c).After-is_dead) ∙ c.if-is_dead.false)
    (omega (
      arith,
      few-leave c.args.listed.now.chip.now (Router c.args.front.now.router)
          c.requires.tried.is_listed.is_chip c.requires.front.known,
      c.loop-port-test.false,
    )) c.args.cuts.now c.loop-port.cuts c.loop-port.invariant
