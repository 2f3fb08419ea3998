use Rattle.std.proofs.Common.{◌≡◌, ◌∙◌, Some, ap, arith, get_or, inl, inr, subst, sym, slice_get}
use Rattle.std.proofs.Common.{slice_index}
use Rattle.std.proofs.lemmas.Bool.{cases_lt}
use Rattle.std.proofs.lemmas.Option.{get_or_from_slice_get, none-some, same_Some, slice_get_within}
use Rattle.aeth_base.{proofs.Members.slice_get-Contains, specs.declared.ids.NiId.NiId}
use Rattle.aeth_chip.specs.Paths.{IsOnwardDistance}
use Rattle.aeth_explain.proofs.SenderLemmas.{one-least}
use Rattle.aeth_explain.proofs.senders.most_at.Goals.{else-links-most, then-links-most+in-Some}
use Rattle.aeth_explain.proofs.senders.most_at.Goals.{then-links-most+in_default}
use Rattle.aeth_explain.proofs.senders.most_at.Goals as goal

-- It is enough for one interface more.
pub loop-i-preserved : goal.loop-i-preserved
loop-i-preserved c k b more less at distance =
    let to = c.args.to.now in
    let i = c.loop-i.i in
    elim (cases_lt k i) [
      | inl before ↦
          let told = c.loop-i.invariant k b more before at distance in
          elim c.if-links-most.branch [
            | then-links-most+in-Some w ↦
                let grown = w.most-is ∙ w.max-most.ensures in
                omega (arith, told, grown)
            | then-links-most+in_default w ↦ omega (arith, told, w.most-is)
            | else-links-most w ↦ omega (arith, told, w.most-is)
          ]
      | inr past ↦
          let number : k ≡ i = omega (arith, less, past) in
          let here : slice_get to i ≡ Some b = subst (λ n. slice_get to n ≡ Some b) number at in
          let same : get_or to i (record { 0 = 0 }) ≡ b =
          get_or_from_slice_get to i b (record { 0 = 0 }) here in
          let place = ap (λ (n : NiId). slice_index c.args.most_to.now n.0) same in
          elim c.if-links-most.branch [
            | then-links-most+in-Some w ↦
                let one = one-least c.args.far.now c.args.router b more w.onward.result distance
                (subst (λ n. IsOnwardDistance c.args.far.now c.args.router n w.onward.result) same
                w.onward.ensures.distance) in
                let grown = w.most-is ∙ w.max-most.ensures in
                let equal = same_Some _ _ (one ∙ w.in-Some.is) in
                omega (arith, grown, equal, place, w.saturating_sub.ensures)
            | then-links-most+in_default w ↦
                let one = one-least c.args.far.now c.args.router b more w.onward.result distance
                (subst (λ n. IsOnwardDistance c.args.far.now c.args.router n w.onward.result) same
                w.onward.ensures.distance) in
                absurd (none-some more (sym w.in_default.is ∙ sym one))
            | else-links-most w ↦ omega (arith, w.most-is, place, w.if-links-most.false)
          ]
    ]

-- It is for all.
pub returns : goal.returns
returns c b more has distance =
    let (k, at) = slice_get-Contains c.args.to.now b has in
    let low = slice_get_within c.args.to.now k b at in
    c.loop-i.invariant k b more (omega (arith, low, c.loop-i-test.false, c.loop-i.auto.i-end)) at distance
