-- Items that keep their rules are items of the use case.
use Rattle.std.proofs.Common.{◌≡◌, ℕ, List, map, subst, Ok}
use Rattle.aeth_app.specs.App.{AppData}
use Rattle.aeth_document.proofs.ChainLemmas.{bind_ok}
use Rattle.aeth_chain.specs.declared.item.ChainItem.{ChainItem}
use Rattle.aeth_chain.specs.declared.fault.ItemRule.TheVariants.{NotInUse, NotJoined, Repeated}
use Rattle.aeth_chain.specs.declared.fault.ItemRule.TheVariants.{UnknownConnection}
use Rattle.aeth_chain.specs.declared.names.ItemName.{ItemName}
use Rattle.aeth_chain.specs.ChainItems.{AreItemsOf, item_of, items_of, judged_by}
use Rattle.aeth_chain.specs.ItemNames.{AreItemNames}
use Rattle.aeth_chain.proofs.RuleLemmas.{kept-items}

-- The items that names tell are those of the use case.
pub told-items : (app : AppData) (u : ℕ) (names : List ItemName) (items : List ChainItem)
    → AreItemNames names → items_of app u names ≡ Ok items → AreItemsOf app u items
unfolding items_of
told-items app u names items few is =
    let own = map (item_of app) names in
    let (known, known_is, on_used) = bind_ok (judged_by UnknownConnection app u own names) _ items is in
    let (used, used_is, on_joined) = bind_ok (judged_by NotInUse app u own names) _ items on_used in
    let (joined, joined_is, on_once) = bind_ok (judged_by NotJoined app u own names) _ items on_joined in
    let (once, once_is, last) = bind_ok (judged_by Repeated app u own names) _ items on_once in
    let same : own ≡ items = cc in
    subst (AreItemsOf app u) same
    (kept-items app u names few known_is used_is once_is)
