-- Conflicts of grants.
-- Slots and links: after Æthereal (2005). Groups: this project's own.
use Rattle.std.proofs.Common.{◌≡◌, ℕ, IsTrue, List}
use Rattle.aeth_chip.specs.declared.node.Link.{Link}
use Rattle.aeth_group.specs.{declared.grant.Grant.Grant, Members.GroupsData, Members.are_together}
use Rattle.aeth_group.specs.{Occupation.Occupies, Occupation.holds_in}

-- Two grants of one group conflict: their connections are together in it, and they occupy one slot of
-- one link. Grants of different groups never conflict.
pub record Conflict (groups : GroupsData) (links : List Link) (a b : Grant) : Type 0 where
  pub one_group : a.unit.group.0 ≡ b.unit.group.0
  pub together : IsTrue (are_together groups a.unit.group.0 a.unit.conn.0 b.unit.conn.0)
  pub link : ℕ
  pub slot : ℕ
  pub first : Occupies links a link slot
  pub second : Occupies links b link slot

-- Both grants occupy one slot of one link in one use case.
pub record IsHeldTwice (groups : GroupsData) (links : List Link) (a b : Grant) : Type 0 where
  pub use_case : ℕ
  pub link : ℕ
  pub slot : ℕ
  pub first : IsTrue (holds_in groups links use_case link slot a)
  pub second : IsTrue (holds_in groups links use_case link slot b)
