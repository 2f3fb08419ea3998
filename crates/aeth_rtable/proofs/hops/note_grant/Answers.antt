use Rattle.std.proofs.Common.{◌≡◌, ◌-◌, ℕ, List, length, subst, arith, flat_map}
use Rattle.std.specs.List.{range_with_len}
use Rattle.aeth_rtable.specs.{Entries.Adds, Hops.hops_at, declared.hops.Hop.Hop}
use Rattle.aeth_rtable.proofs.{EntryLaws.Adds-none, EntryLaws.Adds-then, Lists.from_one_more}
use Rattle.aeth_rtable.proofs.hops.note_grant.Goals as goal

-- Before the second place nothing is noted.
pub loop-place-init : goal.loop-place-init
loop-place-init c = record {
  noted = Adds-none c.args.chip.now.slots c.args.entries.now;
  most = omega arith;
}

-- One more place.
pub loop-place-preserved : goal.loop-place-preserved
loop-place-preserved c =
    let chip = c.args.chip.now in
    let grant = c.args.grant.now in
    let place = c.loop-place.place in
    let so_far = flat_map (hops_at chip.links grant) (range_with_len 1 (place - 1)) in
    record {
      noted = subst (λ (hops : List Hop). Adds chip.slots hops c.args.entries.now
          c.note_place.new.entries)
          (from_one_more (hops_at chip.links grant) place c.loop-place.auto.place)
          (Adds-then chip.slots so_far (hops_at chip.links grant place) c.args.entries.now
          c.loop-place.entries c.note_place.new.entries c.loop-place.invariant.noted
          c.note_place.ensures);
      most = omega (arith, c.loop-place-test.true, c.len-place-end.ensures.len);
    }

-- All places.
pub returns : goal.returns
returns c =
    let chip = c.args.chip.now in
    let grant = c.args.grant.now in
    let all : c.loop-place.place - 1 ≡ length grant.path - 1 =
    omega (arith, c.loop-place.invariant.most, c.loop-place-test.false, c.len-place-end.ensures.len) in
    subst (λ (n : ℕ). Adds chip.slots (flat_map (hops_at chip.links grant) (range_with_len 1 n))
    c.args.entries.now c.loop-place.entries) all c.loop-place.invariant.noted
