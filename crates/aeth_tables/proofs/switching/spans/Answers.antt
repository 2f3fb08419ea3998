use Rattle.std.proofs.Common.{◌∙◌, ◌*◌, ℕ, length, map, refl, ap, sym, flat_map}
use Rattle.std.proofs.lemmas.List.FromFn.{length-map-range_with_len}
use Rattle.std.specs.List.{range_with_len}
use Rattle.aeth_tables.specs.{Changes.changes_at, Changes.change_of, Changes.span_in}
use Rattle.aeth_tables.specs.{Changes.spans_in, Granted.granted_in, Switching.spans_of}
use Rattle.aeth_tables.proofs.{GridLaws.grid_length, SpanLaws.spans_in-all}
use Rattle.aeth_tables.proofs.switching.spans.Goals as goal

-- There are changes for each use case.
pub all_spans-requires : goal.all_spans-requires
all_spans-requires c =
    ap length (c.deref.ensures.value ∙ c.in_ok-all.ensures)
    ∙ length-map-range_with_len (λ (u : ℕ). map (change_of c.args.chip.now)
    (granted_in c.args.app.now c.args.groups.now c.args.plan.now u)) 0 (length c.args.groups.now.uses)

-- There is a span for each pair.
pub new-requires : goal.new-requires
new-requires c =
    let groups = c.args.groups.now in
    let all = c.deref.result.now in
    let size = length groups.uses in
    ap length c.in_ok-pairs.ensures
    ∙ grid_length {X = ℕ × ℕ} (λ u v. span_in groups u v (changes_at all u) (changes_at all v)) size
    0 size
    ∙ ap (λ (n : ℕ). n * n) (sym c.uses.ensures.uses)

-- These are the spans of all switches.
pub returns : goal.returns
unfolding spans_of
returns c =
    let groups = c.args.groups.now in
    let size = length groups.uses in
    let pairs = c.in_ok-pairs.ensures
    ∙ ap (λ all. flat_map (spans_in groups all) (range_with_len 0 size))
    (c.deref.ensures.value ∙ c.in_ok-all.ensures)
    ∙ spans_in-all c.args.chip.now c.args.app.now groups c.args.plan.now in
    c.new.ensures ∙ rw (pairs, c.uses.ensures.uses) refl
