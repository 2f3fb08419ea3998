use Rattle.aeth_links.proofs.NetworkLemmas.{first-time}
use Rattle.aeth_links.proofs.text.links_text.Goals as goal

-- No cycle of the network is done.
pub text_of-requires-clause-first : goal.text_of-requires-clause-first
text_of-requires-clause-first c =
    first-time c.args.inputs.now c.in_ok-network.network c.in_ok-network.ensures.first
