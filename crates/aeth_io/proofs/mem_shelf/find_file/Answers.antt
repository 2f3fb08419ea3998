use Rattle.std.proofs.Common.{◌∙◌, Some, ap, sym}
use Rattle.std.specs.Str.{bytes_eq}
use Rattle.aeth_io.proofs.Files.{content_of-found}
use Rattle.aeth_io.proofs.mem_shelf.find_file.Goals as goal

-- The file at this place has the name, and none before it has.
pub returns-then-eq : goal.returns-then-eq
returns-then-eq c =
    let pair = c.loop-held-item.result in
    let named = c.if-eq.ensures
    ∙ ap (λ text. bytes_eq text c.args.name.now) c.as_str.ensures.value in
    let found = content_of-found c.args.files.now c.args.name.now c.loop-held.held-index pair
    c.loop-held-test.true c.loop-held-item.is named in
    ap Some c.as_slice.ensures.value ∙ sym found ∙ c.loop-held.invariant
