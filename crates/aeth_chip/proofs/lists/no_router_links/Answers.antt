use Rattle.std.proofs.Common.{refl}
use Rattle.aeth_chip.proofs.lists.no_router_links.Goals as goal

-- Empty lists have no links.
pub returns : goal.returns
returns c = λ links. record {
  outgoing = record {
    size = c.in_ok-outgoing.ensures.size;
    each = λ number below. rw (c.in_ok-outgoing.ensures.empty number) refl;
  };
  incoming = record {
    size = c.in_ok-incoming.ensures.size;
    each = λ number below. rw (c.in_ok-incoming.ensures.empty number) refl;
  };
  ports = rw c.in_ok-ports.ensures.items
      (record { size = refl; each = λ i entry is. absurd (cc is) });
}
