use Rattle.std.proofs.Common.{◌∙◌, Some, ap}
use Rattle.aeth_clocked.specs.declared.flit.Flit.{Flit}
use Rattle.aeth_ni.specs.Component.{arrival_of}
use Rattle.aeth_report.specs.Carries.{header_at, words_at}
use Rattle.aeth_invariant.specs.RoutedSessions.{flow_at}
use Rattle.aeth_invariant.proofs.{Routers.none_lost, Routes.arrives}
use Rattle.aeth_invariant.proofs.laws.no_flit_is_lost.Goals as goal

-- Its session's path goes on, and no other flit goes on there.
pub returns-clause-passed : goal.returns-clause-passed
returns-clause-passed c sessions ok t held exact = none_lost sessions ok t held exact

pub returns-clause-read : goal.returns-clause-read
returns-clause-read c sessions ok t wires exact l flit there =
    let comes = exact.only l flit there in
    let flow = flow_at sessions comes.number in (
      record {
        header = header_at flow ((sessions.routed_session comes.number).routers_passed comes.place)
            comes.cycle;
        words = words_at flow comes.cycle;
      },
      ap (λ (f : Flit). arrival_of (Some f)) comes.is
          ∙ arrives sessions ok comes.number comes.place comes.cycle comes.on.known,
    )
