use Rattle.std.proofs.Common.{◌∙◌, Contains, List, ap, subst}
use Rattle.aeth_alloc.specs.{Prices.prices_of, Trials.trials_of}
use Rattle.aeth_alloc.proofs.TrialLemmas.{trials-lack}
use Rattle.aeth_group.specs.Members.{GroupsData}
use Rattle.aeth_paths.specs.Trials.{TrialData}
use Rattle.aeth_explain_commands.proofs.explain.refusals_of.Goals as goal

-- The tries are those of the allocation, and nothing is a candidate for any.
pub returns : goal.returns
returns c =
    let chip = c.args.design.now.chip in
    let app = c.args.design.now.app in
    let tries = c.in_ok-tries.ensures.gives
    ∙ ap (λ (g : GroupsData). trials_of chip app g (prices_of app.price)) c.in_ok-groups.ensures.groups
    in record {
      groups = c.in_ok-groups.ensures.groups;
      far = c.in_ok-far.ensures;
      tries = tries;
      fit = c.in_ok-tries.ensures.fit;
      none = λ trial has some. trials-lack
          (record { chip = chip; app = app; prices = prices_of app.price })
          c.slots-chip_slots.ensures.chip c.slots-app_slots.ensures.app c.requires trial
          (subst (λ (ts : List TrialData). Contains ts trial) tries has) some.0 some.1;
    }
