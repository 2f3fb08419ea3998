use Rattle.std.proofs.Common.{◌≡◌, ◌∙◌, [], ◌∷◌, Contains, List, Some, ap, arith, inl, inr, length}
use Rattle.std.proofs.Common.{length-append, subst, sym, slice_index}
use Rattle.std.proofs.lemmas.Bool.{cases_lt}
use Rattle.aeth_base.specs.declared.ids.NiId.{NiId}
use Rattle.aeth_chip.specs.Paths.{IsOnwardDistance}
use Rattle.aeth_explain.proofs.SenderLemmas.{at-before, at-last, to-some}
use Rattle.aeth_explain.proofs.senders.Sender.new.Goals as goal

-- There is an entry more, and it is enough.
pub loop-router-preserved : goal.loop-router-preserved
loop-router-preserved c =
    let before = c.loop-router.invariant in
    let entries = c.loop-router.at.items in
    let more-items = c.in_ok-push.ensures.items in
    let table = c.deref.ensures.value in
    record {
      count = omega (
        arith,
        before.count,
        ap length more-items,
        length-append entries (c.most_at.result ∷ []),
      );
      near = λ r b more low among distance.
          elim (cases_lt r.0 c.loop-router.router) [
            | inl less ↦
                let read = ap (λ xs. slice_index xs r.0) more-items
                ∙ at-before entries c.most_at.result r.0 (omega (arith, less, before.count)) in
                let told = before.near r b more less among distance in
                omega (arith, told, read)
            | inr past ↦
                let number : r.0 ≡ c.loop-router.router = omega (arith, low, past) in
                let same : r ≡ record { 0 = c.loop-router.router } =
                ap (λ n. record { 0 = n }) number in
                let read = ap (λ xs. slice_index xs r.0) more-items
                ∙ at-last entries c.most_at.result r.0 (number ∙ sym before.count) in
                let told = c.most_at.ensures b more
                (subst (λ (to : List NiId). Contains to b) (sym c.to.ensures) among)
                (subst (λ n. IsOnwardDistance c.args.far.now n b (Some more)) same distance) in
                let place = ap (λ xs. slice_index xs b.0) table in
                omega (arith, told, read, place)
          ];
    }

-- Each router has one.
pub returns-clause-reach : goal.returns-clause-reach
returns-clause-reach c =
    let all : c.loop-router.router ≡ length c.args.chip.now.routers = omega (
      arith,
      c.loop-router-test.false,
      c.loop-router.auto.router-end,
      c.routers-router-end.ensures.routers,
    ) in
    record {
      interfaces = c.in_ok-most_to.ensures.count;
      routers = c.loop-router.invariant.count ∙ all;
      most = c.in_ok-most_to.ensures.most;
      near = λ r b more known low some distance.
          let told = c.loop-router.invariant.near r b more (omega (arith, known, all))
          (to-some c.args.chip.now c.args.trial.now c.requires.chip c.args.ni b some)
          (subst (λ ls. IsOnwardDistance ls r b (Some more)) (sym c.requires.far) distance) in
          omega (arith, told, c.in_ok-most_to.ensures.most b low);
    }
