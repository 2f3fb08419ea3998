use Rattle.std.proofs.Common.{◌≡◌, List, length, refl, sym, ap, ◌∙◌, subst, arith}
use Rattle.aeth_chip.specs.declared.node.Link.{Link}
use Rattle.aeth_group.specs.Members.{GroupsData}
use Rattle.aeth_book.{specs.Book.AreShort, proofs.BookLemmas.kept-none}
use Rattle.aeth_book.proofs.book.Book.new.Goals as goal

-- The book is kept.
pub invariant_of-result : goal.invariant_of-result
invariant_of-result c =
    let chip = c.slots-size.ensures.chip in
    let links = c.in_ok-links.ensures in
    let slots = c.slots-size.ensures.slots in
    let few : length c.in_ok-links.links.items ≡ length c.args.chip.now.links =
    ap (λ (ls : List Link). length ls) links in
    let uses : length c.in_ok-groups.groups.uses ≡ length c.args.groups.now.uses =
    ap (λ (g : GroupsData). length g.uses) c.in_ok-groups.ensures in
    rw c.new.ensures.items (kept-none c.slots-size.result c.in_ok-links.links.items
    c.in_ok-groups.groups c.in_ok-masks.masks.items
    (record {
      some_size = omega (arith, slots, chip.some_slots);
      within = omega (arith, slots, chip.slots);
      few_links = omega (arith, few, chip.few_links);
      delays = subst AreShort (sym links) (λ l link at. (chip.links l link at).within);
      few_uses = omega (arith, uses, c.uses.ensures.uses, c.uses.ensures.most);
      fit = λ k d low. absurd (omega arith);
      apart = λ i j d before low. absurd (omega arith);
    })
    (c.in_ok-masks.ensures.count
    ∙ rw (c.uses.ensures.uses, c.links.ensures.links, uses, few) refl)
    c.in_ok-masks.ensures.empty)
