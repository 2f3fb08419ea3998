use Rattle.aeth_trace.proofs.FileLemmas.{receivers_of-kept, switches_of-kept, words_of-kept}
use Rattle.aeth_trace.proofs.laws.files.Goals as goal

pub returns : goal.returns
returns c = record {
  words = words_of-kept;
  receivers = receivers_of-kept;
  switches = switches_of-kept;
}
