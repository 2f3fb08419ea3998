use Rattle.std.proofs.{Common.[], lemmas.Result.err_from_is_err_and}
use Rattle.aeth_group.specs.Members.{groups_of}
use Rattle.aeth_tables.specs.Switching.{spans_of}
use Rattle.aeth_answers.specs.Places.{files_of}
use Rattle.aeth_run_files.specs.TraceFiles.{receivers_file, switches_file, words_file}
use Rattle.aeth_run_files.proofs.RunLemmas.{are_accepted}
use Rattle.aeth_run_files.proofs.TraceLemmas.{all_three-given, all_three-no_pulls}
use Rattle.aeth_run_files.proofs.TraceLemmas.{all_three-no_switches, all_three-no_words}
use Rattle.aeth_run_files.proofs.traces.read_traces.Goals as goal

-- There are no words.
pub returns-in_err-words-clause-judges : goal.returns-in_err-words-clause-judges
returns-in_err-words-clause-judges g c =
    let p = err_from_is_err_and c.from_residual.result c.from_residual.ensures.1 in
    let chip = c.args.design.now.chip in
    let app = c.args.design.now.app in
    let files = c.args.files.now in
    let spans = spans_of chip app (groups_of app) c.args.planned.now.plan in
    rw (p.1, p.2)
    (all_three-no_words (words_file app files.words) (receivers_file app files.receivers)
    (switches_file app spans files.switches) (files_of g.H.Shelf c.args.shelf.now)
    (files_of g.H.Shelf c.read_words_file.new.shelf) _ c.in_err-words.ensures.judges)

-- There are no receivers' rows.
pub returns-in_err-receivers-clause-judges : goal.returns-in_err-receivers-clause-judges
returns-in_err-receivers-clause-judges g c =
    let p = err_from_is_err_and c.from_residual-in_err-receivers.result
    c.from_residual-in_err-receivers.ensures.1 in
    let chip = c.args.design.now.chip in
    let app = c.args.design.now.app in
    let files = c.args.files.now in
    let spans = spans_of chip app (groups_of app) c.args.planned.now.plan in
    let now = files_of g.H.Shelf c.read_receivers_file.new.shelf in
    rw (p.1, p.2)
    (all_three-no_pulls (words_file app files.words) (receivers_file app files.receivers)
    (switches_file app spans files.switches) (files_of g.H.Shelf c.args.shelf.now)
    (files_of g.H.Shelf c.read_words_file.new.shelf) now now c.in_ok-words.words []
    c.in_ok-words.ensures.judges _ c.in_err-receivers.ensures.judges)

-- There are no switches.
pub returns-in_err-switches-clause-judges : goal.returns-in_err-switches-clause-judges
returns-in_err-switches-clause-judges g c =
    let p = err_from_is_err_and c.from_residual-in_err-switches.result
    c.from_residual-in_err-switches.ensures.1 in
    let chip = c.args.design.now.chip in
    let app = c.args.design.now.app in
    let files = c.args.files.now in
    let spans = spans_of chip app (groups_of app) c.args.planned.now.plan in
    rw (p.1, p.2)
    (all_three-no_switches (words_file app files.words) (receivers_file app files.receivers)
    (switches_file app spans files.switches) (files_of g.H.Shelf c.args.shelf.now)
    (files_of g.H.Shelf c.read_words_file.new.shelf)
    (files_of g.H.Shelf c.read_receivers_file.new.shelf)
    (files_of g.H.Shelf c.read_switches_file.new.shelf) c.in_ok-words.words
    c.in_ok-receivers.receivers c.in_ok-words.ensures.judges c.in_ok-receivers.ensures.judges _
    c.in_err-switches.ensures.judges)

-- All three are read.
pub returns-clause-judges : goal.returns-clause-judges
returns-clause-judges g c =
    let chip = c.args.design.now.chip in
    let app = c.args.design.now.app in
    let files = c.args.files.now in
    let spans = spans_of chip app (groups_of app) c.args.planned.now.plan in
    all_three-given (words_file app files.words) (receivers_file app files.receivers)
    (switches_file app spans files.switches) (files_of g.H.Shelf c.args.shelf.now)
    (files_of g.H.Shelf c.read_words_file.new.shelf)
    (files_of g.H.Shelf c.read_receivers_file.new.shelf)
    (files_of g.H.Shelf c.read_switches_file.new.shelf) c.in_ok-words.words
    c.in_ok-receivers.receivers c.in_ok-words.ensures.judges c.in_ok-receivers.ensures.judges
    c.in_ok-switches.switches c.in_ok-switches.ensures.judges

-- With them the inputs are accepted.
pub returns-clause-accepted : goal.returns-clause-accepted
returns-clause-accepted g c =
    λ cycles few. are_accepted c.args.design.now c.args.planned.now.plan _ cycles c.requires.of_chip
    c.requires.design c.in_ok-words.ensures.words c.in_ok-receivers.ensures.receivers
    c.in_ok-switches.ensures.switches few
