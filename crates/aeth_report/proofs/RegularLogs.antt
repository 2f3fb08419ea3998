-- The log of a run within the limits is regular.
use Rattle.std.proofs.Common.{◌≡◌, ◌∙◌, List, [], ◌∷◌, map, refl, ap, arith}
use Rattle.std.proofs.Math.Nat.{mul-le-mul}
use Rattle.aeth_base.specs.declared.ids.Channel.{Channel}
use Rattle.aeth_report.specs.{Channels.channels_of, Flows.Run, Regular.IsRegular}
use Rattle.aeth_report.specs.{RunLog.channel_log, RunLog.log_of, Sound.IsSound}
use Rattle.aeth_report.specs.{Sound.IsWithinLimits}
use Rattle.aeth_report.proofs.Totals.{log-flits, log-landings, log-ordered, log-words}

-- The logs of channels are of these channels.
own-channels : (run : Run) (channels : List Channel)
    → map (λ one. one.channel) (map (channel_log run) channels) ≡ channels
own-channels run [] = refl
own-channels run (channel ∷ channels) =
    ap (λ (rest : List Channel). channel ∷ rest) (own-channels run channels)

pub log-regular : (run : Run) → IsSound run → IsWithinLimits run
    → IsRegular run.design.app (log_of run)
log-regular run sound limits =
    let words = log-words run sound in
    let landings = log-landings run sound in
    let flits = log-flits run sound in
    let few_words = limits.words in
    let few_flits = mul-le-mul limits.links limits.cycles in
    record {
      channels = own-channels run (channels_of run.design.groups.connections)
          ∙ ap channels_of limits.connections;
      ordered = log-ordered run sound;
      offered = omega arith;
      outside = omega arith;
      landings = omega arith;
      flits = omega arith;
    }
