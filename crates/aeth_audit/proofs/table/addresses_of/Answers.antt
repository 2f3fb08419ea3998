use Rattle.std.proofs.Common.{◌∙◌, ◌++◌, List, [], ◌∷◌, get_or, map, take, ap, sym}
use Rattle.std.proofs.lemmas.List.{map_push, take_more}
use Rattle.aeth_group.specs.declared.grant.Grant.{Grant}
use Rattle.aeth_audit.specs.{Tables.address_of, declared.table.Address.Address}
use Rattle.aeth_audit.proofs.table.addresses_of.Goals as goal

-- One more address.
pub loop-grant-preserved : goal.loop-grant-preserved
loop-grant-preserved c =
    let grants = c.args.grants.now in
    let grant = c.grant-item.result in
    let k = c.loop-grant.grant-index in
    let make : Grant → Address = address_of c.args.chip.now c.args.app.now c.args.seats.now in
    c.in_ok-push.ensures.items
    ∙ ap (λ (all : List Address). all ++ c.address_of.result ∷ []) c.loop-grant.invariant
    ∙ ap (λ (one : Address). map make (take k grants) ++ one ∷ [])
    (c.address_of.ensures ∙ ap make c.grant-item.is)
    ∙ sym (map_push make (take k grants) (get_or grants k grant))
    ∙ ap (map make) (sym (take_more grants k grant c.loop-grant-test.true))
