use Rattle.std.proofs.Common.{◌∙◌, length, refl, sym}
use Rattle.std.proofs.lemmas.Option.{slice_get_read}
use Rattle.aeth_tables.proofs.SearchLaws.{grant-past, grant-there}
use Rattle.aeth_tables.proofs.finding.grant_of.Goals as goal

-- No grant is left.
pub returns-in-None : goal.returns-in-None
returns-in-None c =
    sym (grant-past c.args.unit c.args.side c.args.grants.now c.requires c.grants_before.result
    c.grants_before.ensures c.in-None.ensures.lookup.3)

-- The first that doesn't come before is the one, or none is.
pub returns-in-Some : goal.returns-in-Some
returns-in-Some c =
    c.kept_for.ensures ∙ sym (grant-there c.args.unit c.args.side c.args.grants.now c.requires
    c.grants_before.result c.grants_before.ensures c.in-Some.grant.now
    (slice_get_read c.args.grants.now (length c.args.grants.now) c.grants_before.result
    c.in-Some.grant.now refl c.in-Some.ensures.lookup.3.0 c.in-Some.ensures.lookup.1))
