use Rattle.std.proofs.Common.{◌≡◌, ◌∙◌, ◌+◌, ◌++◌, List, length, map, ap, arith, subst, sym, All}
use Rattle.std.proofs.Common.{option_to_list, append-nil}
use Rattle.aeth_group.specs.Members.{GroupsData}
use Rattle.aeth_paths.specs.Trials.{IsTrialOf}
use Rattle.aeth_alloc.specs.{Allocation.first_state, Channels.Design, Holds.IsDesign}
use Rattle.aeth_alloc.specs.{Holds.IsStateOf, Trials.trial_after, Trials.trial_in, Trials.trials_of}
use Rattle.aeth_alloc.specs.{Tries.AreWithin, Tries.TryData, Tries.trial_over, Turns.State}
use Rattle.aeth_alloc.specs.{Turns.after_turn}
use Rattle.aeth_alloc.proofs.KeptTryLemmas.{Grow, all-trials, grow-turn, tries-next, within-next}
use Rattle.aeth_alloc.proofs.TrialLemmas.{trials-fit}
use Rattle.aeth_alloc.proofs.TurnLemmas.{after_turns-next, after_turns-none, state-turns}
use Rattle.aeth_alloc.proofs.tries.tries_of.Goals.{Joined-branch-3, in-Some+in_ok-push, in_default}
use Rattle.aeth_alloc.proofs.tries.tries_of.Given as given
use Rattle.aeth_alloc.proofs.tries.tries_of.Goals as goal

-- No turn was taken.
pub loop-turn-init : goal.loop-turn-init
loop-turn-init g c = record {
  state = c.in_ok-state.ensures
      ∙ ap (λ (d : Design). first_state d c.args.groups.now) c.design.view_is
      ∙ sym (after_turns-none c.args.design.now c.args.groups.now);
  trials = ap (map (trial_over c.in_ok-state.state.reserved.book.grants)) c.new-tries.ensures.items;
  within = λ k d low. absurd (omega (arith, low, ap length c.new-tries.ensures.items));
}

-- The state is one of the design.
pub noted_turn-requires : goal.noted_turn-requires
noted_turn-requires g c =
    let design : Design = c.args.design.now in
    let is : IsDesign design c.design.inside.far.now =
    subst (λ (d : Design). IsDesign d c.design.inside.far.now) c.design.view_is c.design.invariant in
    subst (IsStateOf design) (sym c.loop-turn.invariant.state)
    (state-turns design c.args.groups.now c.loop-turn.turn is.chip is.app is.of c.requires)

-- The try of the turn, if there is one, stands behind the others.
items : (g : given.Over) (c : goal.Joined-branch-3 g)
    → c.match-branch-3.tries.items ≡ c.loop-turn.tries.items ++ option_to_list c.in_ok-one.field-0
items g c =
    let tries : List TryData = c.loop-turn.tries.items in
    elim c.match-branch-3.branch [
      | in-Some+in_ok-push w ↦ rw w.tries-is (w.in_ok-push.ensures.items
          ∙ ap (λ o. tries ++ option_to_list o) (sym w.in-Some.is))
      | in_default w ↦ rw w.tries-is (sym (append-nil tries)
          ∙ ap (λ o. tries ++ option_to_list o) (sym w.in_default.is))
    ]

-- One turn more was taken.
pub loop-turn-preserved : goal.loop-turn-preserved
loop-turn-preserved g c =
    let design : Design = c.args.design.now in
    let groups : GroupsData = c.args.groups.now in
    let turn = c.loop-turn.turn in
    let old = c.loop-turn.state.reserved.book.grants in
    let new = c.noted_turn.new.self.reserved.book.grants in
    let tries : List TryData = c.loop-turn.tries.items in
    let all = items g (goal.at.loop-turn-preserved g c).Joined-branch-3 in
    let grown : Grow old new =
    subst (λ (s : State). Grow old s.reserved.book.grants) (sym c.in_ok-one.ensures.state)
    (grow-turn design (turn + 1) c.loop-turn.state) in
    let now = c.in_ok-one.ensures.trial
    ∙ ap (trial_in design (turn + 1)) c.loop-turn.invariant.state in
    record {
      state = c.in_ok-one.ensures.state
          ∙ ap (after_turn design (turn + 1)) c.loop-turn.invariant.state
          ∙ sym (after_turns-next design groups turn);
      trials = ap (map (trial_over new)) all
          ∙ tries-next (trial_after design groups) turn old new tries c.in_ok-one.field-0
          c.loop-turn.invariant.trials grown c.loop-turn.invariant.within now;
      within = subst (AreWithin (length new)) (sym all)
          (within-next old new tries c.in_ok-one.field-0 grown c.loop-turn.invariant.within
          c.in_ok-one.ensures.within);
    }

-- Each unit had its turn.
pub returns-clause-gives : goal.returns-clause-gives
returns-clause-gives g c =
    c.with_tries.ensures ∙ c.loop-turn.invariant.trials
    ∙ all-trials c.args.design.now c.args.groups.now c.loop-turn.turn
    (omega (arith, c.loop-turn-test.false, c.loop-turn.auto.turn-end, c.units-turn-end.ensures))

-- The trials are on the chip.
pub returns-clause-fit : goal.returns-clause-fit
returns-clause-fit g c =
    let design : Design = c.args.design.now in
    let is : IsDesign design c.design.inside.far.now =
    subst (λ (d : Design). IsDesign d c.design.inside.far.now) c.design.view_is c.design.invariant in
    subst (All (IsTrialOf design.chip))
    (sym (c.with_tries.ensures ∙ c.loop-turn.invariant.trials
    ∙ all-trials design c.args.groups.now c.loop-turn.turn
    (omega (arith, c.loop-turn-test.false, c.loop-turn.auto.turn-end, c.units-turn-end.ensures))))
    (subst (λ (gs : GroupsData). All (IsTrialOf design.chip)
    (trials_of design.chip design.app gs design.prices)) (sym c.requires)
    (trials-fit design is.chip is.app is.of))
