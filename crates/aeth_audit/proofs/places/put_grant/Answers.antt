use Rattle.std.proofs.Common.{◌≡◌, ◌≤◌, ◌<◌, ◌∙◌, ℕ, ◌+◌, length, refl, ap, subst, arith}
use Rattle.std.proofs.lemmas.List.Elements.{All-contains}
use Rattle.aeth_base.{specs.declared.ids.LinkId.LinkId, proofs.Members.Contains-slice_get}
use Rattle.aeth_slots.specs.SlotSet.{Slots}
use Rattle.aeth_audit.specs.{Places.Adds, Places.IsOfGrant, declared.places.Place.Place}
use Rattle.aeth_audit.proofs.CellLemmas.{adds-both, adds-none, adds-same}
use Rattle.aeth_audit.proofs.PlaceLemmas.{cells-within, of_grant-more, of_grant-none}
use Rattle.aeth_audit.proofs.places.put_grant.Goals as goal

-- No place is put in yet.
pub loop-place-init : goal.loop-place-init
loop-place-init c =
    let chip = c.args.chip.now in
    let grant = c.args.grant.now in
    record {
      size = refl;
      adds = adds-none (IsOfGrant chip c.args.number grant 0) c.args.cells.now
          (of_grant-none chip c.args.number grant);
    }

-- One more place is put in.
pub loop-place-preserved : goal.loop-place-preserved
loop-place-preserved c =
    let chip = c.args.chip.now in
    let grant = c.args.grant.now in
    let i = c.loop-place.place in
    let this : Place = record { grant = c.args.number; place = i; ahead = c.offset-ahead.result } in
    let old = c.args.cells.now in
    let so_far = c.loop-place.invariant in
    let some : 1 ≤ grant.slots.size =
    omega (arith, c.requires.grant.size, c.slots-size.ensures.chip.some_slots) in
    let put = rw (c.rotate-entered.ensures, c.slots-size.ensures.slots) at
    c.in_ok-put_place.ensures.adds in
    record {
      size = c.put_place.ensures.size ∙ so_far.size;
      adds = adds-same _ (IsOfGrant chip c.args.number grant (i + 1)) old c.put_place.new.cells
          (adds-both _ _ old c.loop-place.cells c.put_place.new.cells so_far.adds put)
          (of_grant-more chip c.args.number grant i c.link-link.result this some
          c.link-link.ensures (λ k. record {
            grant = c.args.number;
            place = i;
            ahead = c.offset-ahead.ensures.offset k;
          }));
    }

-- The cells of a link are among those of all.
pub put_place-requires : goal.put_place-requires
put_place-requires c =
    let links = c.args.chip.now.links in
    let path = c.args.grant.now.path in
    let link = c.link-link.result in
    let below = All-contains (λ (l : LinkId). l.0 < length links) path link c.requires.grant.links
    (Contains-slice_get path c.loop-place.place link c.link-link.ensures) in
    let within = cells-within link.0 (length links) c.args.chip.now.slots below in
    let size = ap (λ (set : Slots). set.size) c.rotate-entered.ensures in
    rw c.slots-size.ensures.slots
    (omega (arith, within, size, c.requires.grant.size, c.loop-place.invariant.size, c.requires.size))

-- All places were put in.
pub returns-clause-adds : goal.returns-clause-adds
returns-clause-adds c =
    let grant = c.args.grant.now in
    let end : c.loop-place.place ≡ length grant.path = omega arith in
    subst (λ (n : ℕ). Adds (IsOfGrant c.args.chip.now c.args.number grant n) c.args.cells.now
    c.loop-place.cells) end c.loop-place.invariant.adds
