-- Laws of three traces that are judged one after the other.
use Rattle.std.proofs.Common.{List, Ok, Err, refl}
use Rattle.aeth_trace.specs.declared.{receivers.PullRow.PullRow, switches.SwitchRow.SwitchRow}
use Rattle.aeth_trace.specs.declared.{words.WordRow.WordRow}
use Rattle.aeth_machine.specs.declared.traces.Traces.{Traces}
use Rattle.aeth_answers.specs.{declared.answer.Stop.Stop, Places.Files, Stop.Judges, Task.Judging}
use Rattle.aeth_answers.proofs.FileLemmas.{Judges-made, Judges-stopped, Judges-then}

-- The traces of these rows.
abbrev pub traces_of : List WordRow → List PullRow → List SwitchRow → Traces
traces_of words pulls switches =
    record { words = words; receivers = pulls; switches = switches }

module _ (on_words : Judging (List WordRow)) (on_pulls : Judging (List PullRow))
    (on_switches : Judging (List SwitchRow)) where
  -- What is judged of switches, of receivers' rows and switches, and of all three.
  abbrev with_switches : List WordRow → List PullRow → Judging Traces
  with_switches words pulls next =
      on_switches (λ switches. next (traces_of words pulls switches))

  abbrev with_pulls : List WordRow → Judging Traces
  with_pulls words next = on_pulls (λ pulls. with_switches words pulls next)

  abbrev pub all_three : Judging Traces
  all_three next = on_words (λ words. with_pulls words next)

  -- The words end the task.
  pub all_three-no_words : (old new : Files) (stop : Stop)
      → Judges {X = List WordRow} old new on_words (λ words. words) (Err stop)
      → Judges {X = Traces} old new all_three (λ traces. traces) (Err stop)
  all_three-no_words old new stop took =
      Judges-stopped old new on_words with_pulls (λ (words : List WordRow). words)
      (λ (traces : Traces). traces) stop took

  module _ (old now next new : Files) (words : List WordRow) (pulls : List PullRow)
      (words_are : Judges old now on_words (λ (rows : List WordRow). rows) (Ok words)) where
    -- The receivers' rows end it.
    pub all_three-no_pulls : (stop : Stop)
        → Judges {X = List PullRow} now next on_pulls (λ pulls. pulls) (Err stop)
        → Judges {X = Traces} old next all_three (λ traces. traces) (Err stop)
    all_three-no_pulls stop took =
        Judges-then old now next on_words with_pulls (λ (rows : List WordRow). rows) words
        (λ (traces : Traces). traces) (Err stop) words_are
        (Judges-stopped now next on_pulls (with_switches words) (λ (pulls : List PullRow). pulls)
        (λ (traces : Traces). traces) stop took)

    module _ (pulls_are : Judges now next on_pulls (λ (rows : List PullRow). rows) (Ok pulls)) where
      -- The switches end it.
      pub all_three-no_switches : (stop : Stop)
          → Judges {X = List SwitchRow} next new on_switches (λ rows. rows) (Err stop)
          → Judges {X = Traces} old new all_three (λ traces. traces) (Err stop)
      all_three-no_switches stop took =
          Judges-then old now new on_words with_pulls (λ (rows : List WordRow). rows) words
          (λ (traces : Traces). traces) (Err stop) words_are
          (Judges-then now next new on_pulls (with_switches words) (λ (rows : List PullRow). rows)
          pulls (λ (traces : Traces). traces) (Err stop) pulls_are
          (Judges-stopped next new on_switches
          (λ switches more. more (traces_of words pulls switches))
          (λ (rows : List SwitchRow). rows) (λ (traces : Traces). traces) stop took))

      -- All three are given.
      pub all_three-given : (switches : List SwitchRow)
          → Judges next new on_switches (λ (rows : List SwitchRow). rows) (Ok switches)
          → Judges {X = Traces} old new all_three (λ traces. traces)
          (Ok (traces_of words pulls switches))
      all_three-given switches took =
          Judges-then old now new on_words with_pulls (λ (rows : List WordRow). rows) words
          (λ (traces : Traces). traces) (Ok (traces_of words pulls switches)) words_are
          (Judges-then now next new on_pulls (with_switches words) (λ (rows : List PullRow). rows)
          pulls (λ (traces : Traces). traces) (Ok (traces_of words pulls switches)) pulls_are
          (Judges-made next new on_switches (traces_of words pulls)
          (λ (rows : List SwitchRow). rows) switches (λ (traces : Traces). traces)
          (traces_of words pulls switches) refl took))
