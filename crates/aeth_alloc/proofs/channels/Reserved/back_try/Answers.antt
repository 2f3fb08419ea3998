use Rattle.std.proofs.Common.{◌≡◌, ◌∙◌, Some, length, ap, refl, subst, sym, option_map}
use Rattle.aeth_base.specs.declared.ids.Side.TheVariants.{Back, Fwd}
use Rattle.aeth_seats.specs.Seats.{IsSeats}
use Rattle.aeth_alloc.specs.Channels.{Design, Reserved, grant_of, request_of, tried, with_found}
use Rattle.aeth_alloc.specs.Trials.{trial_for}
use Rattle.aeth_alloc.specs.Tries.{TryData, trial_over}
use Rattle.aeth_alloc.proofs.{StepLemmas.tried-of, TryLemmas.back-try-is, TryLemmas.back_try}
use Rattle.aeth_alloc.proofs.{channels.Reserved.back_try.Goals.In_ok-found}
use Rattle.aeth_alloc.proofs.channels.Reserved.back_try.Given as given
use Rattle.aeth_alloc.proofs.channels.Reserved.back_try.Goals as goal

-- What the try of the `fwd` channel comes to, by what was found.
comes : (g : given.Over) (c : goal.In_ok-found g)
    → tried c.args.design.now c.args.self.now c.args.refused.unit Fwd
    ≡ option_map (with_found c.args.self.now c.args.connection.now c.args.refused.unit Fwd)
    c.in_ok-found.field-0
comes g c =
    tried-of c.args.design.now c.args.design.now c.args.self.now c.args.refused.unit Fwd
    c.args.connection.now c.in_ok-found.field-0 refl c.requires.is c.in_ok-found.ensures.first

-- It has no candidate.
pub returns-in_default-clause-trial : goal.returns-in_default-clause-trial
returns-in_default-clause-trial g c =
    let at = (goal.at.returns-in_default-clause-trial g c).In_ok-found in
    sym (ap (option_map (trial_for c.args.design.now c.args.refused c.args.connection.now))
    (rw c.in_default.is at (comes g at)))

-- It is granted.
pub returns-clause-trial : goal.returns-clause-trial
returns-clause-trial g c =
    let at = (goal.at.returns-clause-trial g c).In_ok-found in
    let design : Design = c.args.design.now in
    let before : Reserved = c.args.self.now in
    let found = c.in-Some.found in
    let ask = c.request_of.ensures ∙ ap (λ (d : Design). request_of d.app c.args.connection.now
    c.args.refused.unit Back) c.design.view_is in
    let count = ap length c.list.ensures.list
    ∙ ap (λ (r : Reserved). length r.book.grants) c.self.view_is in
    let kept : _ ≡ back_try design before c.args.connection.now c.args.refused found =
    λ i. record {
      ask = ask i;
      turn = c.args.refused.turn;
      before = count i;
      fwd = Some (grant_of c.args.refused.unit Fwd found);
      from = c.in_ok-alone.ensures i;
      to = c.in_ok-alone-2.ensures i;
      crowded = c.new.ensures.items i;
    } in
    ap (λ (one : TryData). Some (trial_over before.book.grants one)) kept
    ∙ ap Some (back-try-is design before
    (subst (λ (r : Reserved). IsSeats r.seats) c.self.view_is c.cores-cores.ensures.seats)
    c.requires.reserved c.args.connection.now c.requires.joined c.args.refused c.requires.side found
    (rw c.in-Some.is at c.in_ok-found.ensures.is))
    ∙ sym (ap (option_map (trial_for design c.args.refused c.args.connection.now))
    (rw c.in-Some.is at (comes g at)))
