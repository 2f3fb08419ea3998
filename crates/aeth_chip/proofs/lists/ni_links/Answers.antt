use Rattle.std.proofs.Common.{◌∙◌, ℕ, List, length, ap, subst, sym, arith}
use Rattle.aeth_base.proofs.Lists.{written_back}
use Rattle.aeth_chip.specs.{Index.HasEntries, Index.IsNiLink, declared.lists.NiLink.NiLink}
use Rattle.aeth_chip.specs.{declared.node.End.TheVariants.From, declared.node.End.TheVariants.To}
use Rattle.aeth_chip.proofs.lists.ni_links.Goals as goal

-- There is an entry for each network interface.
pub enter_nis-requires-clause-nodes : goal.enter_nis-requires-clause-nodes
enter_nis-requires-clause-nodes c =
    rw (
      c.deref_mut.ensures.value,
      c.deref_mut-2.ensures.value,
      (c.in_ok-outgoing.ensures From).size,
      (c.in_ok-incoming.ensures To).size,
    )
    c.requires.nodes

-- None has a link yet.
pub enter_nis-requires-clause-no_outgoing : goal.enter_nis-requires-clause-no_outgoing
enter_nis-requires-clause-no_outgoing c =
    rw (c.deref_mut.ensures.value, (c.in_ok-outgoing.ensures From).size)
    (c.in_ok-outgoing.ensures From)

pub enter_nis-requires-clause-no_incoming : goal.enter_nis-requires-clause-no_incoming
enter_nis-requires-clause-no_incoming c =
    rw (c.deref_mut-2.ensures.value, (c.in_ok-incoming.ensures To).size)
    (c.in_ok-incoming.ensures To)

-- The entries that were made are those of the vectors.
pub returns : goal.returns
returns c =
    let links = c.args.links.now in
    let nis = c.args.nis in
    let outgoing = c.in_ok-outgoing.outgoing in
    let sent = c.enter_nis.new.outgoing in
    let out_seen = ap length c.deref_mut.ensures.value in
    let out_size = (c.in_ok-outgoing.ensures From).size in
    let out_len = outgoing.ok in
    let out_same = c.enter_nis.ensures.outgoing.size ∙ out_seen in
    let incoming = c.in_ok-incoming.incoming in
    let received = c.enter_nis.new.incoming in
    let in_seen = ap length c.deref_mut-2.ensures.value in
    let in_size = (c.in_ok-incoming.ensures To).size in
    let in_len = incoming.ok in
    let in_same = c.enter_nis.ensures.incoming.size ∙ in_seen in
    record {
      outgoing = subst (λ (its : List NiLink). HasEntries (IsNiLink From links) nis its)
          (sym (written_back outgoing.items sent outgoing.len (omega arith) out_same))
          (subst (λ (n : ℕ). HasEntries (IsNiLink From links) n sent) (out_seen ∙ out_size)
          c.enter_nis.ensures.outgoing);
      incoming = subst (λ (its : List NiLink). HasEntries (IsNiLink To links) nis its)
          (sym (written_back incoming.items received incoming.len (omega arith) in_same))
          (subst (λ (n : ℕ). HasEntries (IsNiLink To links) n received) (in_seen ∙ in_size)
          c.enter_nis.ensures.incoming);
    }
