use Rattle.std.proofs.Common.{◌≡◌, ◌<◌, ◌≤◌, ◌+◌, List, sym, ap, ◌∙◌, length, take, refl, arith}
use Rattle.std.proofs.Common.{take_all}
use Rattle.std.specs.List.{range_with_len}
use Rattle.aeth_base.specs.declared.ids.LinkId.{LinkId}
use Rattle.aeth_chip.specs.{declared.node.Link.Link, Paths.delay_of, Paths.offset}
use Rattle.aeth_chip.proofs.OffsetLemmas.{offset-more}
use Rattle.aeth_slots.specs.SlotSet.{all_slots}
use Rattle.aeth_book.specs.{Book.BookData, Free.free_starts, Free.narrowed}
use Rattle.aeth_book.proofs.{FreeLemmas.free-push, FilterLemmas.filter_none}
use Rattle.aeth_book.proofs.{StartLemmas.free_starts-each}
use Rattle.aeth_group.proofs.ListLemmas.{all_at, take-at}
use Rattle.aeth_book.proofs.book.Book.free.Goals as goal

-- All starts of no links are free.
pub loop-i-init : goal.loop-i-init
loop-i-init c =
    let sizes : c.self.inside.size ≡ c.args.self.now.size =
    ap (λ (b : BookData). b.size) c.self.view_is in
    record {
      after = refl;
      bound = omega arith;
      free = c.full-free.ensures ∙ ap all_slots sizes
          ∙ (λ i. record {
            size = c.args.self.now.size;
            slots = sym (filter_none (range_with_len 0 c.args.self.now.size)) i;
          });
    }

-- The link is one of the chip.
pub narrow_uncounted-free-requires-clause-link : goal.narrow_uncounted-free-requires-clause-link
narrow_uncounted-free-requires-clause-link c =
    all_at (λ (link : LinkId). link.0 < length c.args.self.now.links) c.args.path.now c.loop-i.i
    c.link-link.result c.requires c.link-link.ensures

pub delay-after-requires-clause-link : goal.delay-after-requires-clause-link
delay-after-requires-clause-link c =
    let low : c.link-link.result.0 < length c.args.self.now.links =
    all_at (λ (link : LinkId). link.0 < length c.args.self.now.links) c.args.path.now c.loop-i.i
    c.link-link.result c.requires c.link-link.ensures in
    omega (
      arith,
      ap (λ (ls : List Link). length ls) c.deref.ensures.value,
      ap (λ (b : BookData). length b.links) c.self.view_is,
    )

-- One more link has narrowed them.
pub loop-i-preserved : goal.loop-i-preserved
loop-i-preserved c =
    let book = c.args.self.now in
    let unit = c.args.unit in
    let path = c.args.path.now in
    let i = c.loop-i.i in
    let link = c.link-link.result in
    let delay : c.delay-after.result ≡ delay_of book.links link =
    c.delay-after.ensures.delay ∙ ap (λ (ls : List Link). delay_of ls link) c.deref.ensures.value
    ∙ ap (λ (b : BookData). delay_of b.links link) c.self.view_is in
    let more : c.loop-i.after + c.delay-after.result ≡ offset book.links path (i + 1) =
    omega (
      arith,
      offset-more book.links path i link c.link-link.ensures,
      c.loop-i.invariant.after,
      delay,
    ) in
    record {
      after = more;
      bound = omega (arith, c.loop-i.invariant.bound, c.delay-after.ensures.within);
      free = c.narrow_uncounted-free.ensures
          ∙ ap (narrowed book unit link.0 c.loop-i.after) c.loop-i.invariant.free
          ∙ ap (λ after. narrowed book unit link.0 after (free_starts book unit (take i path)))
          c.loop-i.invariant.after
          ∙ free-push book unit (take i path) link
          ∙ ap (free_starts book unit) (sym (take-at path i link c.link-link.ensures));
    }

-- The free starts, place by place.
pub returns-clause-each : goal.returns-clause-each
returns-clause-each c =
    let book = c.args.self.now in
    let path = c.args.path.now in
    let end : length path ≤ c.loop-i.i =
    omega (arith, c.loop-i-test.false, c.len-i-end.ensures.len) in
    let same : c.loop-i.free ≡ free_starts book c.args.unit path =
    c.loop-i.invariant.free
    ∙ ap (free_starts book c.args.unit) (take_all c.loop-i.i path end) in
    λ start. rw same (free_starts-each book c.args.unit path start)
