use Rattle.std.proofs.Common.{◌∙◌, None, Option, ap, length, replicate, sym, ℕ}
use Rattle.aeth_clocked.specs.declared.flit.Flit.{Flit}
use Rattle.aeth_components.proofs.beside.Beside.of.Goals as goal

-- A number for each word and each link.
pub returns-clause-landings : goal.returns-clause-landings
returns-clause-landings c =
    c.in_ok-counts.ensures.landings ∙ ap (λ (n : ℕ). replicate {A = ℕ} n 0) c.count_words.ensures

pub returns-clause-flits : goal.returns-clause-flits
returns-clause-flits c =
    c.in_ok-counts.ensures.flits ∙ ap (λ (n : ℕ). replicate {A = ℕ} n 0) c.links.ensures.links

-- A mark for each channel.
pub returns-clause-enqueuing : goal.returns-clause-enqueuing
returns-clause-enqueuing c = λ parts.
    c.in_ok-enqueuing.ensures parts c.args.channels.now.channel_states
    (sym (ap length c.channel_states.ensures))

pub returns-clause-wires : goal.returns-clause-wires
returns-clause-wires c =
    c.in_ok-wires.ensures ∙ ap (λ (n : ℕ). replicate {A = Option Flit} n None) c.wires.ensures.wires
