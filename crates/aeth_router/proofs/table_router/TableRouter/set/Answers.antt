use Rattle.std.proofs.Common.{◌≡◌, ◌∙◌, ℕ, Option, arith, ap, sym, subst}
use Rattle.std.proofs.lemmas.Grind.{common_steps}
use Rattle.aeth_router.specs.{Router.numbers_of, Single.IsAlone, Single.IsTableNoted}
use Rattle.aeth_router.specs.{TableRouter.TableRouterState, TableRouter.place_from}
use Rattle.aeth_router.proofs.SingleLemmas.{IsTableNoted-with_entry}
use Rattle.aeth_router.proofs.table_router.TableRouter.set.Goals.{else-self, then-self}
use Rattle.aeth_router.proofs.table_router.TableRouter.set.Goals as goal

-- What is noted stays right.
pub invariant_of-self : goal.invariant_of-self
invariant_of-self c =
    let router = c.args.self.now in
    let noted = subst (λ (router : TableRouterState).
    IsTableNoted c.self.inside.is_holding c.self.inside.is_single router) c.self.view_is
    c.self.invariant in
    let entry : c.place_from-entry.result ≡ place_from router.links c.args.from =
    c.place_from-entry.ensures
    ∙ ap (λ links. place_from (numbers_of links) c.args.from) c.deref.ensures.value
    ∙ ap (λ (router : TableRouterState). place_from router.links c.args.from) c.self.view_is in
    IsTableNoted-with_entry router _ c.args.port c.args.slot c.args.from c.self.inside.is_holding
    c.self.inside.is_single c.if-self.self noted c.requires.port c.requires.slot
    (λ is. elim c.if-self.branch [
      | then-self w ↦ (
        w.if-self.true,
        subst (λ (entry : Option ℕ). IsAlone router c.args.port c.args.slot entry) entry
            (w.is_alone-self-inside.ensures (sym w.self-is ∙ is)),
      )
      | else-self w ↦ absurd (cc (sym is ∙ w.self-is))
    ])
    (grind (arith, common_steps))
