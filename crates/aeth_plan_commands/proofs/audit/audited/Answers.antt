use Rattle.std.proofs.Common.{◌∙◌, length, ap}
use Rattle.aeth_group.{specs.Members.GroupsData, proofs.MemberLemmas.length-groups_of}
use Rattle.aeth_tables.specs.Switching.{spans_of}
use Rattle.aeth_trace.specs.Spans.{SpanData}
use Rattle.aeth_plan_commands.proofs.audit.audited.Goals as goal

-- There is a use case of the spans for each one of the application.
pub of-requires-clause-spans : goal.of-requires-clause-spans
unfolding spans_of
of-requires-clause-spans c =
    ap (λ (spans : SpanData). spans.uses) c.in_ok-spans.ensures
    ∙ ap (λ (groups : GroupsData). length groups.uses) c.requires.groups
    ∙ length-groups_of c.args.design.now.app
