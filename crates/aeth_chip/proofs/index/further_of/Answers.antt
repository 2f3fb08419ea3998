use Rattle.std.proofs.{Common.◌≡◌, Common.◌∙◌, Common.ℕ, Common.Some, Common.ap, Common.arith}
use Rattle.std.proofs.{Common.get_or, Common.length, Common.refl, Common.slice_get, Common.subst}
use Rattle.std.proofs.{Common.take_all, Math.Facts.Fits-of_lt, lemmas.Option.slice_get-get_or}
use Rattle.aeth_chip.specs.{Index.HasEntries, Index.IsFurther, Wires.wires_of}
use Rattle.aeth_chip.specs.{declared.node.Link.Link, declared.node.Node.TheVariants.Router}
use Rattle.aeth_chip.proofs.Pushes.{table-push}
use Rattle.aeth_chip.proofs.SumLemmas.{further-fits, sums-more, sums-none, wires-fit}
use Rattle.aeth_chip.proofs.index.further_of.Goals as goal

abbrev no_link : Link
no_link = record { from = Router (record { 0 = 0 }); to = Router (record { 0 = 0 }); delay = 0 }

-- The sums stay small.
pub overflow_sub-before : goal.overflow_sub-before
overflow_sub-before c =
    let links = c.args.links.now in
    let i = c.loop-link.link-index in
    let link = get_or links i no_link in
    (c.requires.delays i link (slice_get-get_or links i no_link c.loop-link-test.true)).0

pub overflow_add-before : goal.overflow_add-before
overflow_add-before c =
    let links = c.args.links.now in
    let i = c.loop-link.link-index in
    let link = get_or links i no_link in
    let within = c.loop-link-test.true in
    Fits-of_lt (further-fits links i c.loop-link.before c.loop-link.wires link c.requires.delays c.requires.few
    within (slice_get-get_or links i no_link within) c.loop-link.invariant.sums)

pub overflow_add-wires : goal.overflow_add-wires
overflow_add-wires c =
    let links = c.args.links.now in
    let i = c.loop-link.link-index in
    let link = get_or links i no_link in
    let within = c.loop-link-test.true in
    Fits-of_lt (wires-fit links i c.loop-link.before c.loop-link.wires link c.requires.delays c.requires.few
    within (slice_get-get_or links i no_link within) c.loop-link.invariant.sums)

-- One more link.
pub loop-link-preserved : goal.loop-link-preserved
loop-link-preserved c =
    let links = c.args.links.now in
    let i = c.loop-link.link-index in
    let link = get_or links i no_link in
    let at : slice_get links i ≡ Some link =
    slice_get-get_or links i no_link c.loop-link-test.true in
    record {
      table = rw c.in_ok-push.ensures.items
          (table-push (IsFurther links) i c.loop-link.further.items c.loop-link.before
          c.loop-link.invariant.table c.loop-link.invariant.sums.before);
      sums = sums-more links i c.loop-link.before c.loop-link.wires link c.requires.delays at
          c.loop-link.invariant.sums;
    }

-- No link has been gone over yet.
pub loop-link-init : goal.loop-link-init
loop-link-init c = record {
  table = rw c.in_ok-further.ensures.items
      (record { size = refl; each = λ i entry is. absurd (cc is) });
  sums = sums-none c.args.links.now;
}

-- All links have been gone over.
pub returns-clause-further : goal.returns-clause-further
returns-clause-further c =
    let links = c.args.links.now in
    let done = c.loop-link-test.false in
    let end = c.loop-link.auto.link-index-end in
    let count : c.loop-link.link-index ≡ length links = omega arith in
    subst (λ (n : ℕ). HasEntries (IsFurther links) n c.loop-link.further.items) count
    c.loop-link.invariant.table

pub returns-clause-wires : goal.returns-clause-wires
returns-clause-wires c =
    c.loop-link.invariant.sums.wires
    ∙ ap wires_of (take_all c.loop-link.link-index c.args.links.now c.loop-link-test.false)
