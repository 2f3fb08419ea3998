use Rattle.std.proofs.Common.{◌≡◌, ◌∙◌, ℕ, [], length, ap, arith, flat_map}
use Rattle.std.specs.List.{range_with_len}
use Rattle.aeth_rtable.{specs.Rows.rows_of_router, proofs.Lists.pushed_more}
use Rattle.aeth_rtable.proofs.rows.rows_by.Goals as goal

-- One more router.
pub loop-r-preserved : goal.loop-r-preserved
loop-r-preserved c = λ hops has.
    pushed_more (λ (r : ℕ). rows_of_router hops c.args.chip.now (record { 0 = r })) c.loop-r.r []
    c.loop-r.rows.items c.push_router.new.rows.items (c.loop-r.invariant hops has)
    (c.in_ok-push_router.ensures hops has)

-- All routers.
pub returns : goal.returns
returns c = λ hops has.
    let all : c.loop-r.r ≡ length c.args.chip.now.routers =
    omega (arith, c.routers-r-end.ensures.routers, c.loop-r.auto.r-end, c.loop-r-test.false) in
    c.loop-r.invariant hops has
    ∙ ap (λ (n : ℕ). flat_map (λ r. rows_of_router hops c.args.chip.now (record { 0 = r }))
    (range_with_len 0 n)) all
