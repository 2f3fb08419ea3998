use Rattle.std.proofs.Common.{◌∙◌, ap, arith, sym}
use Rattle.std.proofs.lemmas.Option.{get_or_from_slice_get}
use Rattle.aeth_trace.specs.Channels.{channel_number}
use Rattle.aeth_schedule.specs.declared.session_start.SessionStart.{SessionStart}
use Rattle.aeth_network.proofs.ByNumberLemmas.{replicate-each}
use Rattle.aeth_network.proofs.Followed.{channel-more, channels-whole, count-few, count-more}
use Rattle.aeth_network.proofs.Followed.{counts-whole, channels-past, counts-past, followed-none}
use Rattle.aeth_network.proofs.logging.log_followed.Goals.{then-number-channels}
use Rattle.aeth_network.proofs.logging.log_followed.Goals.{else-number-channels}
use Rattle.aeth_network.proofs.logging.log_followed.Goals as goal

-- None has gone.
pub loop-place-init : goal.loop-place-init
loop-place-init c = record {
  channels = followed-none c.args.cycles c.args.landings.now c.args.channels.now;
  gone = c.fill.ensures.after (λ y same. same) ∙ replicate-each 0 0 c.args.gone.now;
}

-- No more have gone than were replaced.
pub overflow_add-gone : goal.overflow_add-gone
overflow_add-gone c =
    let there = c.loop-place-test.true in
    let enough = c.requires.replaced in
    let most = c.requires.few in
    let within = c.if-number-channels.true in
    let counted = c.requires.gone in
    let size = c.loop-place.auto.channels in
    let is = c.number_of-number.ensures ∙ ap (λ (g : SessionStart). channel_number g.channel)
    (sym (get_or_from_slice_get c.args.session_starts.now c.loop-place.place c.at.result c.at.result
    c.at.ensures)) in
    let few = count-few c.args.session_starts.now c.args.replaced.now c.at.result
    c.loop-place.place c.number_of-number.result (omega arith) there is
    c.args.gone.now c.loop-place.gone (omega arith) c.loop-place.invariant.gone in
    omega arith

-- One session more has gone.
pub loop-place-preserved : goal.loop-place-preserved
loop-place-preserved c =
    let session_starts = c.args.session_starts.now in
    let replaced = c.args.replaced.now in
    let one = c.at.result in
    let place = c.loop-place.place in
    let is = c.number_of-number.ensures ∙ ap (λ (g : SessionStart). channel_number g.channel)
    (sym (get_or_from_slice_get session_starts place one one c.at.ensures)) in
    let number = c.number_of-number.result in
    let there = c.loop-place-test.true in
    let enough = c.requires.replaced in
    let counted = c.requires.gone in
    let size = c.loop-place.auto.channels in
    elim c.if-number-channels.branch [
      | then-number-channels w ↦
          let within = w.if-number-channels.true in
          record {
            channels = w.channels-is
                ∙ channel-more session_starts replaced one place number (omega arith) there
                is c.args.cycles c.args.landings.now c.args.gone.now
                c.loop-place.gone c.args.channels.now c.loop-place.channels
                w.index-channels-number.result w.log_next.new.channel (omega arith) (omega arith)
                c.loop-place.invariant.gone c.loop-place.invariant.channels w.log_next.ensures;
            gone = w.gone-is
                ∙ count-more session_starts replaced one place number (omega arith) there
                is c.args.gone.now c.loop-place.gone (omega arith)
                c.loop-place.invariant.gone;
          }
      | else-number-channels w ↦
          let past = w.if-number-channels.false in
          record {
            channels = w.channels-is ∙ c.loop-place.invariant.channels
                ∙ channels-past session_starts replaced one place number (omega arith) there
                is c.args.cycles c.args.landings.now c.args.channels.now
                (omega arith);
            gone = w.gone-is ∙ c.loop-place.invariant.gone
                ∙ counts-past session_starts replaced one place number (omega arith) there
                is c.args.gone.now (omega arith);
          }
    ]

-- All have gone.
pub returns-clause-channels : goal.returns-clause-channels
returns-clause-channels c =
    c.loop-place.invariant.channels
    ∙ channels-whole c.args.session_starts.now c.args.replaced.now c.args.cycles c.args.landings.now
    c.loop-place.place c.args.channels.now c.loop-place-test.false

pub returns-clause-gone : goal.returns-clause-gone
returns-clause-gone c =
    c.loop-place.invariant.gone
    ∙ counts-whole c.args.session_starts.now c.args.replaced.now c.loop-place.place c.args.gone.now
    c.loop-place-test.false
