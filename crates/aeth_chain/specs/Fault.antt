-- The rules that the items of a chain break, as a refusal shows them. Places are items, from 1; the value
-- is the name of the item's connection.
-- This project's own.
use Rattle.std.proofs.Common.{ℕ, List, Option, Some, None, codes}
use Rattle.aeth_base.specs.{Faults.BrokenRule, declared.shown.Shown.TheVariants.Word}
use Rattle.aeth_chain.specs.declared.fault.ChainFault.{ChainFault}
use Rattle.aeth_chain.specs.declared.fault.ChainFault.TheVariants.{Broken, Memory}
use Rattle.aeth_chain.specs.declared.fault.ItemRule.{ItemRule}
use Rattle.aeth_chain.specs.declared.fault.ItemRule.TheVariants.{NotInUse, NotJoined, Repeated}
use Rattle.aeth_chain.specs.declared.fault.ItemRule.TheVariants.{UnknownConnection}

-- The number of a rule, and its name.
abbrev pub rule_number : ItemRule → ℕ
rule_number UnknownConnection = 1
rule_number NotInUse = 2
rule_number NotJoined = 3
rule_number Repeated = 4

abbrev pub rule_name : ItemRule → List ℕ
rule_name UnknownConnection = codes "UnknownConnection"
rule_name NotInUse = codes "NotInUse"
rule_name NotJoined = codes "NotJoined"
rule_name Repeated = codes "Repeated"

-- A rule that is broken at an item of this name.
abbrev pub broken_at : ItemRule → ℕ → List ℕ → BrokenRule
broken_at rule item name = record {
  rule = rule_number rule;
  name = rule_name rule;
  place = item;
  value = Word name;
}

-- The rule that a fault shows; want of memory shows none.
abbrev pub rule_of : ChainFault → Option BrokenRule
rule_of (Broken rule item name) = Some (broken_at rule item name)
rule_of Memory = None
