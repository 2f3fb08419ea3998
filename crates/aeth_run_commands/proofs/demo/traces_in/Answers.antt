use Rattle.std.proofs.Common.{◌∙◌, [], ap, codes}
use Rattle.std.proofs.lemmas.Result.{err_from_is_err_and}
use Rattle.aeth_demo.specs.Texts.{TextsData}
use Rattle.aeth_group.specs.Members.{groups_of}
use Rattle.aeth_tables.specs.Switching.{spans_of}
use Rattle.aeth_trace.specs.{Receivers.receivers_of, Switches.switches_of, Words.words_of}
use Rattle.aeth_answers.specs.Files.{judgement}
use Rattle.aeth_run_files.proofs.RunLemmas.{are_accepted}
use Rattle.aeth_run_files.proofs.TraceLemmas.{all_three-given, all_three-no_pulls}
use Rattle.aeth_run_files.proofs.TraceLemmas.{all_three-no_switches, all_three-no_words}
use Rattle.aeth_run_commands.proofs.demo.traces_in.Goals as goal

-- There are no words.
pub returns-in_err-words-clause-judges : goal.returns-in_err-words-clause-judges
returns-in_err-words-clause-judges c =
    let p = err_from_is_err_and c.from_residual.result c.from_residual.ensures.1 in
    let texts = c.args.texts.now in
    let chip = c.args.design.now.chip in
    let app = c.args.design.now.app in
    let spans = spans_of chip app (groups_of app) c.args.planned.now.plan in
    let words_bytes = c.deref.ensures.value ∙ ap (λ (t : TextsData). t.words) c.texts.view_is in
    λ now. rw (p.1, p.2)
    (all_three-no_words (judgement (codes "words") (words_of app texts.words))
    (judgement (codes "receivers") (receivers_of app texts.receivers))
    (judgement (codes "switches") (switches_of app spans texts.switches)) now now _
    ((rw words_bytes at c.in_err-words.ensures.judges) now))

-- There are no receivers' rows.
pub returns-in_err-receivers-clause-judges : goal.returns-in_err-receivers-clause-judges
returns-in_err-receivers-clause-judges c =
    let p = err_from_is_err_and c.from_residual-in_err-receivers.result
    c.from_residual-in_err-receivers.ensures.1 in
    let texts = c.args.texts.now in
    let chip = c.args.design.now.chip in
    let app = c.args.design.now.app in
    let spans = spans_of chip app (groups_of app) c.args.planned.now.plan in
    let words_bytes = c.deref.ensures.value ∙ ap (λ (t : TextsData). t.words) c.texts.view_is in
    let pulls_bytes = c.deref-2.ensures.value
    ∙ ap (λ (t : TextsData). t.receivers) c.texts.view_is in
    λ now. rw (p.1, p.2)
    (all_three-no_pulls (judgement (codes "words") (words_of app texts.words))
    (judgement (codes "receivers") (receivers_of app texts.receivers))
    (judgement (codes "switches") (switches_of app spans texts.switches)) now now now now
    c.in_ok-words.words [] ((rw words_bytes at c.in_ok-words.ensures.judges) now) _
    ((rw pulls_bytes at c.in_err-receivers.ensures.judges) now))

-- There are no switches.
pub returns-in_err-switches-clause-judges : goal.returns-in_err-switches-clause-judges
returns-in_err-switches-clause-judges c =
    let p = err_from_is_err_and c.from_residual-in_err-switches.result
    c.from_residual-in_err-switches.ensures.1 in
    let texts = c.args.texts.now in
    let chip = c.args.design.now.chip in
    let app = c.args.design.now.app in
    let spans = spans_of chip app (groups_of app) c.args.planned.now.plan in
    let words_bytes = c.deref.ensures.value ∙ ap (λ (t : TextsData). t.words) c.texts.view_is in
    let pulls_bytes = c.deref-2.ensures.value
    ∙ ap (λ (t : TextsData). t.receivers) c.texts.view_is in
    let switches_bytes = c.deref-3.ensures.value
    ∙ ap (λ (t : TextsData). t.switches) c.texts.view_is in
    λ now. rw (p.1, p.2)
    (all_three-no_switches (judgement (codes "words") (words_of app texts.words))
    (judgement (codes "receivers") (receivers_of app texts.receivers))
    (judgement (codes "switches") (switches_of app spans texts.switches)) now now now now
    c.in_ok-words.words c.in_ok-receivers.receivers
    ((rw words_bytes at c.in_ok-words.ensures.judges) now)
    ((rw pulls_bytes at c.in_ok-receivers.ensures.judges) now) _
    ((rw switches_bytes at c.in_err-switches.ensures.judges) now))

-- All three are told.
pub returns-clause-judges : goal.returns-clause-judges
returns-clause-judges c =
    let texts = c.args.texts.now in
    let chip = c.args.design.now.chip in
    let app = c.args.design.now.app in
    let spans = spans_of chip app (groups_of app) c.args.planned.now.plan in
    let words_bytes = c.deref.ensures.value ∙ ap (λ (t : TextsData). t.words) c.texts.view_is in
    let pulls_bytes = c.deref-2.ensures.value
    ∙ ap (λ (t : TextsData). t.receivers) c.texts.view_is in
    let switches_bytes = c.deref-3.ensures.value
    ∙ ap (λ (t : TextsData). t.switches) c.texts.view_is in
    λ now.
    all_three-given (judgement (codes "words") (words_of app texts.words))
    (judgement (codes "receivers") (receivers_of app texts.receivers))
    (judgement (codes "switches") (switches_of app spans texts.switches)) now now now now
    c.in_ok-words.words c.in_ok-receivers.receivers
    ((rw words_bytes at c.in_ok-words.ensures.judges) now)
    ((rw pulls_bytes at c.in_ok-receivers.ensures.judges) now) c.in_ok-switches.switches
    ((rw switches_bytes at c.in_ok-switches.ensures.judges) now)

-- With them the inputs are accepted.
pub returns-clause-accepted : goal.returns-clause-accepted
returns-clause-accepted c =
    λ cycles few. are_accepted c.args.design.now c.args.planned.now.plan _ cycles c.requires.of_chip
    c.requires.design c.in_ok-words.ensures.words c.in_ok-receivers.ensures.receivers
    c.in_ok-switches.ensures.switches few
