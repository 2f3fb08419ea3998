-- Connections that were found by their names.
use Rattle.std.proofs.Common.{◌≡◌, ℕ, List, Some, sym}
use Rattle.aeth_base.{specs.Name.name_of, proofs.NameLemmas.name_only}

-- A text that is a name is this name.
pub name_of_text : (text name : List ℕ) → name_of text ≡ Some name → text ≡ name
name_of_text text name is = sym (name_only text name is).0
