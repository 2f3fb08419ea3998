use Rattle.std.proofs.Common.{◌∙◌, List, ap, arith, length, length-set, slice_get, sym, ℕ}
use Rattle.aeth_base.proofs.Lists.{written_back}
use Rattle.aeth_components.specs.Homes.{home_at}
use Rattle.aeth_components.proofs.HomeLemmas.{AreHomes-set, home-changed}
use Rattle.aeth_components.proofs.homes.Homes.note.Goals.{then-self, else-self}
use Rattle.aeth_components.proofs.homes.Homes.note.Goals as goal

-- The channel has come to its place, or another one is there.
pub returns-after-self : goal.returns-after-self
returns-after-self c = λ channel_states are within.
    let channel_state = c.args.channel_state.now in
    let numbers = c.come_to-is_own.new.numbers in
    let old = c.args.self.now.numbers in
    let kept = c.come_to-is_own.auto.numbers ∙ ap length c.deref_mut.ensures.value in
    let written = written_back old.items numbers old.len old.ok.0 kept in
    record {
      size = ap length written ∙ kept ∙ are.size;
      few = (
          let size = length-set channel_states c.args.number channel_state in
          let few = are.few in
          omega (arith, size, few));
      at = λ apart n found at waits.
          ap (λ (list : List ℕ). slice_get list
          (home_at found.receiver.ni.0 found.receiver.queue)) written
          ∙ elim c.if-self.branch [
            | then-self w ↦
                home-changed c.args.self.now channel_states c.args.number channel_state numbers are
                w.if-self.true within
                (λ waits.
                ap (slice_get numbers) (sym c.place_of-home.ensures.place)
                ∙ c.come_to-is_own.ensures.own (sym w.self-is ∙ apart))
                (λ other n at below.
                c.come_to-is_own.ensures.kept other n
                (ap (λ (list : List ℕ). slice_get list other) c.deref_mut.ensures.value ∙ at) below)
                n found at waits
            | else-self w ↦ absurd (cc (sym w.self-is ∙ apart))
          ];
    }

-- No words are still to land of it.
pub returns-else-channel_state : goal.returns-else-channel_state
returns-else-channel_state c = λ channel_states are within.
    let none = c.if-channel_state.false in
    AreHomes-set c.args.self.now channel_states c.args.number c.args.channel_state.now within
    (λ apart waits. absurd (omega (arith, none, waits))) are
