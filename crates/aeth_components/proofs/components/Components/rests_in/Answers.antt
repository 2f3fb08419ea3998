use Rattle.std.proofs.Common.{◌≡◌, ◌∙◌, arith, inl, inr, slice_get, Some, sym, eqb-true, false, ℕ}
use Rattle.std.proofs.lemmas.{Bool.cases_Bool, Option.slice_get_within}
use Rattle.aeth_router.specs.declared.part.Part.{Part}
use Rattle.aeth_components.proofs.{FlitLemmas.flits_on-none, RestingCycle.Cycle-resting}
use Rattle.aeth_components.proofs.{MarkedSenders.AreInjecting-sends}
use Rattle.aeth_components.proofs.{components.Components.rests_in.Goals.else-self-eq0}
use Rattle.aeth_components.proofs.{components.Components.rests_in.Goals.then-self-eq0}
use Rattle.aeth_components.specs.{Components.components_of, FlitsOnWires.sends_own}
use Rattle.aeth_components.proofs.components.Components.rests_in.Goals as goal

-- No wire has a flit, none that sends is marked, and all channels are idle.
pub returns-then-is_mute_in : goal.returns-then-is_mute_in
returns-then-is_mute_in c = λ idle.
    let all = c.self.inside in
    let parts = all.parts.items in
    elim c.if-self-eq0.branch [
      | else-self-eq0 w ↦
          let zero = eqb-true all.turns.flits 0 (sym w.value-is ∙ c.if-is_mute_in.true) in
          let some = w.if-self-eq0.false in
          absurd (omega (arith, zero, some))
      | then-self-eq0 w ↦
          let flits = c.self.invariant.1.flits in
          let size = w.len.ensures in
          let mute : (number : ℕ) (part : Part) → slice_get parts number ≡ Some part
          → sends_own c.args.cycle part ≡ false = λ number part at.
          elim (cases_Bool (sends_own c.args.cycle part)) [
            | inr rests ↦ rests
            | inl sends ↦
                let within = slice_get_within parts number part at in
                absurd (w.is_mute_in.ensures (sym w.value-is ∙ c.if-is_mute_in.true) number
                (omega (arith, within, size))
                (AreInjecting-sends c.args.cycle parts all.turns.injecting c.self.invariant.2 number part
                at sends))
          ] in
          rw (← c.self.view_is) (Cycle-resting c.args.cycle
          (components_of parts all.wires all.channels.channel_states all.channels.words
          all.counts.landings.items all.counts.flits.items) all.turns.ends all.enqueuing
          c.self.invariant.0.wired c.self.invariant.1.ends c.self.invariant.3.places
          (flits_on-none all.wires (sym flits ∙ w.if-self-eq0.true))
          mute (c.are_idle.ensures idle))
    ]
