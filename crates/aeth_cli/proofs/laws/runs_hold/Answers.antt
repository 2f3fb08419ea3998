use Rattle.aeth_accepted.specs.Inputs.{run_of}
use Rattle.aeth_running.{proofs.RouterTables.headers-route, specs.Routing.ByHeaders}
use Rattle.aeth_table_network.specs.Tables.{tables_of}
use Rattle.aeth_cli.proofs.KeptLemmas.{goes-through}
use Rattle.aeth_cli.proofs.laws.runs_hold.Goals as goal

-- Each sentence is a law.
pub returns : goal.returns
returns c = λ inputs accepted. record {
  one_flit = c.links_carry_one.ensures.one inputs accepted;
  wires = c.networks_carry.ensures.first inputs accepted ByHeaders (headers-route inputs);
  wires_by_tables = c.networks_carry.ensures.first inputs accepted (tables_of inputs)
      (c.tables_route.ensures inputs accepted);
  landings = c.rows_are_landings.ensures (run_of inputs)
      (c.runs_are_sound.ensures.sound inputs accepted);
  independent = λ other. c.channels_are_independent.ensures (run_of inputs) (run_of other);
  deadline = c.words_land_in_time.ensures.lands inputs accepted;
  in_time = c.words_land_in_time.ensures.in_time inputs accepted;
  single_word = c.words_land_in_time.ensures.wished inputs accepted;
  kept = goes-through inputs accepted (c.runs_are_sound.ensures.sound inputs accepted)
      (c.kept_channels_are_untouched.ensures.untouched inputs accepted);
}
