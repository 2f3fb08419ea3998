use Rattle.std.proofs.Common.{◌≡◌, ◌+◌, ◌∙◌, ℕ, List, ap, arith, inl, inr, length, Some, slice_get}
use Rattle.std.proofs.Common.{get_or, sym, length-append}
use Rattle.std.proofs.lemmas.Option.{slice_get-get_or, slice_get_within}
use Rattle.aeth_base.proofs.Lists.{item-at, slice_get-push}
use Rattle.aeth_chip.proofs.WireLemmas.{have_delays, wires_of-split}
use Rattle.aeth_components.proofs.ends.senders_of.Goals as goal

-- The sender of one wire more.
pub loop-wire-preserved : goal.loop-wire-preserved
loop-wire-preserved c =
    let chip = c.args.chip.now in
    let senders = c.loop-wire.senders.items in
    let more = c.sender_of.result in
    let items = c.in_ok-push.ensures.items in
    record {
      size = (
          let size = ap length items ∙ length-append senders _ in
          let before = c.loop-wire.invariant.size in
          omega arith);
      at = λ wire number is.
          elim (slice_get-push senders more number wire
          (ap (λ (list : List ℕ). slice_get list wire) (sym items) ∙ is)) [
            | inl early ↦ c.loop-wire.invariant.at wire number early
            | inr (last, same) ↦
                rw (last ∙ c.loop-wire.invariant.size, ← same) c.sender_of.ensures
          ];
    }

-- All senders.
pub returns : goal.returns
returns c =
    let chip = c.args.chip.now in
    let senders = c.loop-wire.senders.items in
    let is = c.loop-wire.invariant.at in
    let test = c.loop-wire-test.false in
    let end = c.loop-wire.auto.wire-end in
    let split = wires_of-split chip.links (have_delays chip c.slots.ensures.chip) in
    let size : length senders ≡ c.loop-wire.wire = c.loop-wire.invariant.size in
    record {
      size = omega (arith, size, test, end, c.wires-wire-end.ensures.wires);
      first = λ wire link at.
          let within = slice_get_within chip.links wire link at in
          let found = item-at senders wire
          (omega (arith, within, split, size, test, end, c.wires-wire-end.ensures.wires)) in
          found.1 ∙ ap (λ (n : ℕ). Some n) ((is wire found.0 found.1).first link at);
      further = λ k few.
          let found = item-at senders (length chip.links + k)
          (omega (arith, few, split, size, test, end, c.wires-wire-end.ensures.wires)) in
          found.1 ∙ ap (λ (n : ℕ). Some n)
          ((is (length chip.links + k) found.0 found.1).further (omega arith));
      below = λ place default within.
          (is place (get_or senders place default)
          (slice_get-get_or senders place default within)).below;
    }
