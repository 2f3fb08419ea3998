use Rattle.std.proofs.Common.{◌≡◌, ◌∙◌, ◌<◌, ◌≤◌, ap, get_or, length, rules, subst, sym, arith}
use Rattle.std.proofs.lemmas.Bool.{eqb-false}
use Rattle.std.specs.{Result.IfOk, declared.alloc.Global.Global, declared.vec.Vec.Vec}
use Rattle.aeth_base.specs.declared.ids.Side.TheVariants.{Fwd}
use Rattle.aeth_server.specs.ChannelShape.{IsShapeInRange}
use Rattle.aeth_report.specs.declared.log.Landing.{Landing}
use Rattle.aeth_chain.specs.{Chain.Leg, Chain.leg_of, Chain.legs_of, ChainRun.landings_along}
use Rattle.aeth_chain.specs.{ChainRun.runs_along, Lanes.AreOffers, Lanes.legs_in, Limits.max_work}
use Rattle.aeth_chain.specs.{declared.item.ChainItem.ChainItem}
use Rattle.aeth_chain.proofs.{AlongLemmas.landings-next, LaneLemmas.shape-paths}
use Rattle.aeth_chain.proofs.{OfferLemmas.passed-few, OfferLemmas.passed-offers, ShapeLemmas.behind}
use Rattle.aeth_chain.proofs.{ShapeLemmas.behind-All, ShapeLemmas.behind-count}
use Rattle.aeth_chain.proofs.run.+run_along.Goals as goal

-- What stands for an item where there is none.
abbrev no_item : ChainItem
no_item = record { channel = record { conn = record { 0 = 0 }; side = Fwd }; work = 0 }

-- The first item and the first shape make a lane.
pub landings_on-requires-clause-lane : goal.landings_on-requires-clause-lane
landings_on-requires-clause-lane t c = record {
  shape = subst IsShapeInRange (sym c.shape-item.is)
      (c.requires.ranges 0 c.shape-item.result (omega (arith, c.requires.some, c.requires.beside)));
  work = c.requires.works 0 no_item (omega (arith, c.requires.some));
  offers = subst (AreOffers c.args.running.now.cycles) (sym c.deref.ensures.value) c.requires.own;
  least = c.requires.running.least;
  most = c.requires.running.cycles;
}

pub passed_on-requires : goal.passed_on-requires
passed_on-requires t c = record {
  shape = subst IsShapeInRange (sym c.shape-item.is)
      (c.requires.ranges 0 c.shape-item.result (omega (arith, c.requires.some, c.requires.beside)));
  work = c.requires.works 0 no_item (omega (arith, c.requires.some));
  offers = subst (AreOffers c.args.running.now.cycles) (sym c.deref.ensures.value) c.requires.own;
  least = c.requires.running.least;
  most = c.requires.running.cycles;
}

-- Those behind are fewer, and what is passed on are offers again.
pub run_along-requires : goal.run_along-requires
run_along-requires t c =
    let more = eqb-false (length (behind c.args.items.now)) 0
    (sym c.is_empty.ensures ∙ c.if-is_empty.false) in
    let size = behind-count c.args.items.now in
    let sizes = behind-count c.args.shapes.now in
    let leg : Leg = leg_of (get_or c.args.items.now 0 no_item) c.shape-item.result in
    let range = subst IsShapeInRange (sym c.shape-item.is)
    (c.requires.ranges 0 c.shape-item.result (omega (arith, c.requires.some, c.requires.beside))) in
    let passed = rw c.deref.ensures.value at c.in_ok-passed.ensures in
    let few = passed-few c.args.running.now.receivers.now c.args.running.now.cycles leg
    c.args.own.items c.requires.own in
    let count = ap length passed in
    let low : length (behind c.args.items.now) < length c.args.items.now =
    omega (arith, size, c.requires.some) in (
      search (rules, c.decreases, low),
      (
        c.requires.running,
        (
          omega (arith, more),
          (
            omega (arith, size, sizes, c.requires.beside),
            (
              behind-All IsShapeInRange c.args.shapes.now c.requires.ranges,
              (
                behind-All (λ (item : ChainItem). item.work ≤ max_work) c.args.items.now
                    c.requires.works,
                (
                  subst (AreOffers c.args.running.now.cycles) (sym passed)
                      (passed-offers c.args.running.now.receivers.now c.args.running.now.cycles leg
                      c.args.own.items c.requires.own (shape-paths c.shape-item.result range)),
                  omega (arith, few, count, c.requires.shorter),
                ),
              ),
            ),
          ),
        ),
      ),
    )

-- The landings are those of the items behind.
pub returns-clause-landings : goal.returns-clause-landings
returns-clause-landings t c =
    let more = eqb-false (length (behind c.args.items.now)) 0
    (sym c.is_empty.ensures ∙ c.if-is_empty.false) in
    let size = behind-count c.args.items.now in
    let next = landings-next c.args.running.now.receivers.now c.args.running.now.cycles
    (legs_in c.args.running.now) c.args.running.now.first.now c.args.own.items c.args.items.now
    c.args.shapes.now no_item c.shape-item.result c.shape-item.is (omega (arith, more, size))
    c.requires.beside in
    let passed = rw c.deref.ensures.value at c.in_ok-passed.ensures in
    let all = next ∙ ap (λ own. landings_along c.args.running.now.cycles
    (legs_in c.args.running.now) c.args.running.now.first.now
    (runs_along c.args.running.now.receivers.now c.args.running.now.cycles own
    (legs_of (behind c.args.items.now) (behind c.args.shapes.now)))) (sym passed) in
    subst (λ list. IfOk c.run_along.result (λ (rows : Vec Landing Global). rows.items ≡ list))
    (sym all) c.run_along.ensures.landings
