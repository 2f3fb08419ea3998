use Rattle.std.proofs.Common.{sym, ◌∙◌}
use Rattle.aeth_router.proofs.TableLemmas.{is_among-numbers_of}
use Rattle.aeth_router.proofs.entries.enters.Goals as goal

-- A link enters the router where it is one of those that do.
pub returns-in-Some : goal.returns-in-Some
returns-in-Some c =
    let same = is_among-numbers_of c.args.links.now c.in-Some.link in
    rw c.in-Some.is (
      (λ is. same ∙ sym c.is_one.ensures ∙ is),
      (λ is. c.is_one.ensures ∙ sym same ∙ is),
    )
