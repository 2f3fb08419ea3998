use Rattle.std.proofs.Common.{◌≡◌, drop}
use Rattle.aeth_chain.specs.ChainItems.{are_kept, judged_by, keeps}
use Rattle.aeth_chain.proofs.items.judge.Given as goal

-- The items that are left break the rule just as all do.
abbrev pub invariant-loop-one : goal.invariant-loop-one
invariant-loop-one l = (l.place ≡ l.one-index)
    × (are_kept l.rule (keeps l.rule l.app l.u.0 l.items) l.place (drop l.one-index l.names)
    ≡ judged_by l.rule l.app l.u.0 l.items l.names)
