use Rattle.std.proofs.Common.{◌≡◌, ◌<◌, ◌≤◌, ◌+◌, ◌-◌, ◌∙◌, Some, ap, arith, length, not, refl, sym}
use Rattle.std.proofs.Common.{take, slice_get, take_all}
use Rattle.std.specs.List.{range_with_len}
use Rattle.aeth_base.specs.declared.ids.LinkId.{LinkId}
use Rattle.aeth_slots.specs.{Choice.is_suitable, SlotSet.all_slots}
use Rattle.aeth_chip.specs.Paths.{delay_in, delay_of, offset, path_delay}
use Rattle.aeth_chip.proofs.OffsetLemmas.{offset-more}
use Rattle.aeth_group.proofs.ListLemmas.{all_at, take-at}
use Rattle.aeth_book.specs.{Book.BookData, Free.free_starts, Free.narrowed}
use Rattle.aeth_book.proofs.{FilterLemmas.filter_none, FreeLemmas.free-push}
use Rattle.aeth_paths.specs.Trials.{book_of}
use Rattle.aeth_explain.specs.Masks.{TryJudgeData}
use Rattle.aeth_explain.proofs.try_judge.TryJudge.is_dead.Goals as goal

-- All starts of no links are free.
pub loop-i-init : goal.loop-i-init
loop-i-init c =
    let size = c.args.self.now.chip.slots in
    record {
      after = refl;
      bound = omega arith;
      free = c.full-free.ensures ∙ ap all_slots (c.slots.ensures.slots
          ∙ ap (λ (j : TryJudgeData). j.chip.slots) c.self.view_is)
          ∙ (λ i. record { size = size; slots = sym (filter_none (range_with_len 0 size)) i });
    }

-- The link is one of the chip.
pub narrowed-free-requires-clause-link : goal.narrowed-free-requires-clause-link
narrowed-free-requires-clause-link c =
    all_at (λ (link : LinkId). link.0 < length c.args.self.now.chip.links) c.args.path.now
    c.loop-i.i c.link-link.result c.requires c.link-link.ensures

pub link-after-requires : goal.link-after-requires
link-after-requires c =
    let low : c.link-link.result.0 < length c.args.self.now.chip.links =
    all_at (λ (link : LinkId). link.0 < length c.args.self.now.chip.links) c.args.path.now
    c.loop-i.i c.link-link.result c.requires c.link-link.ensures in
    omega (arith, low, ap (λ (j : TryJudgeData). length j.chip.links) c.self.view_is)

-- One more link has narrowed them.
pub loop-i-preserved : goal.loop-i-preserved
loop-i-preserved c =
    let judge : TryJudgeData = c.args.self.now in
    let book : BookData = book_of judge.chip judge.groups judge.trial in
    let unit = judge.trial.ask.unit in
    let path = c.args.path.now in
    let i = c.loop-i.i in
    let link = c.link-link.result in
    let is : slice_get judge.chip.links link.0 ≡ Some c.link-after.result =
    ap (λ (j : TryJudgeData). slice_get j.chip.links link.0) (sym c.self.view_is)
    ∙ c.link-after.ensures.link in
    let delay : c.link-after.result.delay ≡ delay_of judge.chip.links link =
    sym (ap delay_in is) in
    let more : c.loop-i.after + c.link-after.result.delay ≡ offset judge.chip.links path (i + 1) =
    omega (
      arith,
      offset-more judge.chip.links path i link c.link-link.ensures,
      c.loop-i.invariant.after,
      delay,
    ) in
    record {
      after = more;
      bound = omega (arith, c.loop-i.invariant.bound, c.link-after.ensures.delay.1);
      free = c.narrowed-free.ensures
          ∙ ap (narrowed book unit link.0 c.loop-i.after) c.loop-i.invariant.free
          ∙ ap (λ after. narrowed book unit link.0 after (free_starts book unit (take i path)))
          c.loop-i.invariant.after
          ∙ free-push book unit (take i path) link
          ∙ ap (free_starts book unit) (sym (take-at path i link c.link-link.ensures));
    }

-- The free starts and the delay are those of the whole list.
pub returns : goal.returns
returns c =
    let judge : TryJudgeData = c.args.self.now in
    let book : BookData = book_of judge.chip judge.groups judge.trial in
    let ask = judge.trial.ask in
    let path = c.args.path.now in
    let end : length path ≤ c.loop-i.i =
    omega (arith, c.loop-i-test.false, c.len-i-end.ensures.len) in
    let all = take_all c.loop-i.i path end in
    ap not (c.suits.ensures
    ∙ ap (λ n. is_suitable ask.need (ask.latency + 1 - n) c.loop-i.free)
    (c.loop-i.invariant.after ∙ ap (path_delay judge.chip.links) all)
    ∙ ap (is_suitable ask.need (ask.latency + 1 - path_delay judge.chip.links path))
    (c.loop-i.invariant.free ∙ ap (free_starts book ask.unit) all))
