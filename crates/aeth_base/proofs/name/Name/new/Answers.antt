use Rattle.std.proofs.Common.{◌≡◌, ◌∙◌, refl, sym, true}
use Rattle.aeth_base.{specs.Name.is_name, proofs.NameLemmas.is_padded-written}
use Rattle.aeth_base.proofs.name.Name.new.Goals as goal

-- The bytes are a name, with zeros behind it.
pub invariant_of-result : goal.invariant_of-result
invariant_of-result c =
    let bytes = c.args.bytes.now in
    let named : is_name bytes ≡ true = sym c.is_name.ensures.exact ∙ c.if-not-is_name.false in
    rw c.copy_from_slice.ensures.after
    (is_padded-written bytes _ refl (c.is_name.ensures.short c.if-not-is_name.false) named)
