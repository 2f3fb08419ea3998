use Rattle.std.proofs.Common.{◌≡◌, ◌∙◌, Some, slice_get, ap, sym, rules, arith}
use Rattle.std.proofs.lemmas.Option.{slice_get-get_or}
use Rattle.aeth_chip.proofs.ports.is_single.Goals as goal

-- The one link each way is that of the numbers.
pub returns : goal.returns
returns c =
    let lists = c.requires.lists in
    let ni = c.args.ni in
    let sent = c.args.listed.now.nis.outgoing.items in
    let received = c.args.listed.now.nis.incoming.items in
    let within = c.requires.ni in
    let out_size = lists.outgoing.size in
    let in_size = lists.incoming.size in
    let leaving : slice_get sent ni ≡ Some c.index-leaving.result.now =
    slice_get-get_or sent ni c.index-leaving.result.now (omega arith)
    ∙ ap Some (sym c.index-leaving.ensures) in
    let entering : slice_get received ni ≡ Some c.index-entering.result.now =
    slice_get-get_or received ni c.index-entering.result.now (omega arith)
    ∙ ap Some (sym c.index-entering.ensures) in
    let after = c.router_at-after.ensures _ (lists.outgoing.each ni _ leaving) in
    let before = c.router_at.ensures _ (lists.incoming.each ni _ entering) in
    let links = c.deref.ensures.value in
    let same_links = c.deref-2.ensures.value in
    search rules
