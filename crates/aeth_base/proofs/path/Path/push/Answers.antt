use Rattle.std.proofs.Common.{arith}
use Rattle.aeth_base.proofs.PathLemmas.{is_filled-push}
use Rattle.aeth_base.proofs.path.Path.push.Goals as goal

-- The link was written behind the others.
pub invariant_of-self : goal.invariant_of-self
invariant_of-self c =
    let path = c.self.inside in
    let within = c.self.invariant.within in
    is_filled-push path.links path.len c.args.link c.self.invariant
    (omega (arith, c.if-self-eq-MAX_PATH_LINKS.false))
