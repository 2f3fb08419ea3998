use Rattle.std.proofs.Common.{length, refl, arith}
use Rattle.std.proofs.lemmas.Option.{slice_get_read, slice_get_within}
use Rattle.aeth_audit.proofs.JudgeLemmas.{own-address}
use Rattle.aeth_audit.proofs.judge.Judge.is_of_channel.Goals as goal

-- The address is the grant's.
pub returns : goal.returns
returns c = λ app switches of.
    let judge = c.args.self.now in
    let k = c.args.place.now.grant in
    let grant = c.args.grant.now in
    let addresses = judge.table.now.addresses.items in
    let address = c.index-address.result.now in
    let known = slice_get_within judge.plan.now.grants k grant c.requires.is_grant in
    let at = slice_get_read addresses (length addresses) k address refl
    (omega (arith, known, c.requires.judge.addressed)) c.index-address.ensures in
    let own = own-address app switches judge of k c.args.place.now.place grant address
    c.requires.is_grant at in
    rw (own.0, own.1) at c.is_addressed.ensures
