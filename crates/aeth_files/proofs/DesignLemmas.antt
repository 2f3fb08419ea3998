-- Laws of a chip and an application for it that are judged one after the other.
use Rattle.std.proofs.Common.{Ok, Err, refl}
use Rattle.aeth_app.specs.App.{AppData}
use Rattle.aeth_chip.specs.Chip.{ChipData}
use Rattle.aeth_plan.specs.declared.design.Design.{Design}
use Rattle.aeth_answers.specs.{declared.answer.Stop.Stop, Places.Files, Stop.Judges, Task.Judging}
use Rattle.aeth_answers.proofs.FileLemmas.{Judges-made, Judges-stopped, Judges-then}

module _ (on_chip : Judging ChipData) (on_app : ChipData → Judging AppData) where
  -- What is judged of an application for a chip.
  abbrev with_app : ChipData → Judging Design
  with_app chip next = on_app chip (λ app. next (record { chip = chip; app = app }))

  -- A chip, and an application for it.
  abbrev pub both : Judging Design
  both next = on_chip (λ chip. with_app chip next)

  -- The chip ends the task.
  pub both-no_chip : (old new : Files) (stop : Stop)
      → Judges {X = ChipData} old new on_chip (λ chip. chip) (Err stop)
      → Judges {X = Design} old new both (λ design. design) (Err stop)
  both-no_chip old new stop took =
      Judges-stopped old new on_chip with_app (λ (chip : ChipData). chip)
      (λ (design : Design). design) stop took

  module _ (old now new : Files) (chip : ChipData)
      (chip_is : Judges old now on_chip (λ (one : ChipData). one) (Ok chip)) where
    -- The application ends it.
    pub both-no_app : (stop : Stop)
        → Judges {X = AppData} now new (on_app chip) (λ app. app) (Err stop)
        → Judges {X = Design} old new both (λ design. design) (Err stop)
    both-no_app stop took =
        Judges-then old now new on_chip with_app (λ (one : ChipData). one) chip
        (λ (design : Design). design) (Err stop) chip_is
        (Judges-stopped now new (on_app chip) (λ app next. next (record { chip = chip; app = app }))
        (λ (app : AppData). app) (λ (design : Design). design) stop took)

    -- Both are given.
    pub both-given : (app : AppData)
        → Judges now new (on_app chip) (λ (one : AppData). one) (Ok app)
        → Judges {X = Design} old new both (λ design. design) (Ok (record { chip = chip; app = app }))
    both-given app took =
        Judges-then old now new on_chip with_app (λ (one : ChipData). one) chip
        (λ (design : Design). design) (Ok (record { chip = chip; app = app })) chip_is
        (Judges-made now new (on_app chip) (λ one. record { chip = chip; app = one })
        (λ (one : AppData). one) app (λ (design : Design). design)
        (record { chip = chip; app = app }) refl took)
