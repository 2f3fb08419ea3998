use Rattle.std.proofs.Common.{◌≡◌, ◌∙◌, Ok, ap, length, refl, codes}
use Rattle.aeth_group.specs.Members.{GroupsData, groups_of}
use Rattle.aeth_group.proofs.MemberLemmas.{length-groups_of}
use Rattle.aeth_tables.specs.Switching.{spans_of}
use Rattle.aeth_trace.{specs.Fault.rule_of, specs.Spans.SpanData, specs.Switches.AreSwitchesOf}
use Rattle.aeth_trace.{specs.Switches.switches_of, proofs.FileLemmas.switches_of-kept}
use Rattle.aeth_answers.proofs.FileLemmas.{HandsOn-keeps, Judges-told}
use Rattle.aeth_run_files.proofs.files.switches_in.Goals as goal

-- There is a use case of the spans for each one of the application.
pub read_switches-requires : goal.read_switches-requires
unfolding spans_of
read_switches-requires c =
    ap (λ (spans : SpanData). spans.uses) c.in_ok-spans.ensures
    ∙ ap (λ (groups : GroupsData). length groups.uses) c.requires.groups
    ∙ length-groups_of c.args.design.now.app

-- The bytes are judged with the plan's spans.
pub returns-clause-judges : goal.returns-clause-judges
returns-clause-judges c =
    let chip = c.args.design.now.chip in
    let app = c.args.design.now.app in
    let plan = c.args.planned.now.plan in
    let same = c.in_ok-spans.ensures
    ∙ ap (λ (groups : GroupsData). spans_of chip app groups plan) c.requires.groups in
    λ now. Judges-told now (codes "switches") rule_of (λ switches. switches)
    (switches_of app (spans_of chip app (groups_of app) plan) c.args.bytes.now)
    c.read_switches.result c.judged.result (rw same at c.read_switches.ensures.reads)
    c.judged.ensures

-- What is handed on is what was read.
pub returns-clause-switches : goal.returns-clause-switches
returns-clause-switches c =
    let chip = c.args.design.now.chip in
    let app = c.args.design.now.app in
    let plan = c.args.planned.now.plan in
    let same = c.in_ok-spans.ensures
    ∙ ap (λ (groups : GroupsData). spans_of chip app groups plan) c.requires.groups in
    HandsOn-keeps rule_of (codes "switches")
    (AreSwitchesOf app (spans_of chip app (groups_of app) plan)) c.read_switches.result
    c.judged.result (rw same at c.read_switches.ensures.switches) c.judged.ensures

-- The first row alone is told whatever the plan.
told-alone : (c : goal.In-Some) (spans : SpanData)
    → switches_of c.args.design.now.app spans c.args.bytes.now ≡ Ok c.in-Some.switches
told-alone c = rw c.in-Some.is at c.in_ok-switches.ensures

pub returns-in-Some-clause-judges : goal.returns-in-Some-clause-judges
returns-in-Some-clause-judges c =
    let app = c.args.design.now.app in
    let spans = spans_of c.args.design.now.chip app (groups_of app) c.args.planned.now.plan in
    let switches = c.in-Some.switches in
    λ now. Judges-told now (codes "switches") rule_of (λ switches. switches)
    (switches_of app spans c.args.bytes.now) (Ok switches) (Ok switches)
    (told-alone c spans) refl

pub returns-in-Some-clause-switches : goal.returns-in-Some-clause-switches
returns-in-Some-clause-switches c =
    let app = c.args.design.now.app in
    let spans = spans_of c.args.design.now.chip app (groups_of app) c.args.planned.now.plan in
    switches_of-kept app spans c.args.bytes.now c.in-Some.switches (told-alone c spans)
