use Rattle.std.proofs.Common.{List, subst}
use Rattle.aeth_components.specs.First.{IsFirst}
use Rattle.aeth_schedule.specs.declared.windows.Window.{Window}
use Rattle.aeth_stimuli.specs.Stimuli.{Offer}
use Rattle.aeth_network.{specs.Next.HasOffer, specs.Next.HasWindow, proofs.Firsts.first-either}
use Rattle.aeth_network.proofs.given.Given.next.Goals as goal

-- Either of the two.
pub returns : goal.returns
returns c =
    let all = c.args.self.now in
    first-either (subst (λ (offers : List Offer). IsFirst (HasOffer offers) c.args.time c.args.to
    c.next_offer-next.result) c.deref.ensures.value c.next_offer-next.ensures)
    (subst (λ (windows : List Window). IsFirst (HasWindow windows) c.args.time
    c.next_offer-next.result c.next_window.result) c.windows.ensures c.next_window.ensures)
