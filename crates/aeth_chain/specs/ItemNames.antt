-- The items of a chain as a word tells them: `CONN:SIDE:WORK` with commas between, and `CONN:SIDE` at the
-- end.
--
--   is_work, work_in      for how long a core works
--   item_in, items_in, item_names_of      an item, those of some pieces of a word, and those of a word
--   AreWorks, AreItemNames      what holds of the items that a word tells
-- This project's own.
use Rattle.std.proofs.Common.{ℕ, ◌≡◌, ◌≤◌, ◌==◌, ◌&&◌, Bool, true, false, List, [], ◌∷◌, Option}
use Rattle.std.proofs.Common.{Some, None, length, map, nat_le, option_map}
use Rattle.aeth_base.specs.{Name.name_of, declared.ids.Side.Side}
use Rattle.aeth_text.specs.{Fields.number_in, Fields.side_in, Grammar.both, Grammar.kept}
use Rattle.aeth_text.specs.{Grammar.parts, Limits.comma}
use Rattle.aeth_chain.specs.Limits.{colon, max_chain_items, max_work}
use Rattle.aeth_chain.specs.declared.names.ItemName.{ItemName}

-- Whether a core may work so long.
abbrev pub is_work : ℕ → Bool
is_work n = nat_le 1 n && nat_le n max_work

-- The work that the words behind the side of an item tell: there is one but in the last item, whose work is
-- 0.
abbrev pub work_in : Bool → List (List ℕ) → Option ℕ
work_in true [] = Some 0
work_in true (word ∷ words) = None
work_in false [] = None
work_in false (word ∷ []) = kept is_work (number_in word)
work_in false (word ∷ other ∷ words) = None

-- A name, a side and the work of an item, where there are all.
abbrev pub named_item : Option (List ℕ) → Option Side → Option ℕ → Option ItemName
named_item None side work = None
named_item (Some name) None work = None
named_item (Some name) (Some side) None = None
named_item (Some name) (Some side) (Some work) =
    Some (record { name = name; side = side; work = work })

-- An item of these words, which is the last or isn't.
abbrev pub item_in : Bool → List (List ℕ) → Option ItemName
item_in last [] = None
item_in last (name ∷ []) = None
item_in last (name ∷ side ∷ words) =
    named_item (name_of name) (side_in side) (work_in last words)

-- The items of some last pieces of a word.
abbrev pub items_in : List (List ℕ) → Option (List ItemName)
items_in [] = Some []
items_in (piece ∷ pieces) = option_map (λ p. p.0 ∷ p.1)
    (both (item_in (length pieces == 0) (parts colon piece)) (items_in pieces))

-- The items of a word: 1 to 16.
unfoldable pub item_names_of : List ℕ → Option (List ItemName)
item_names_of word =
    kept (λ names. nat_le (length names) max_chain_items) (items_in (parts comma word))

-- The works of the items of a chain: 1 to 4,096 in each but the last, and 0 in that.
abbrev pub AreWorks : List ℕ → Type 0
AreWorks [] = ⊥
AreWorks (work ∷ []) = work ≡ 0
AreWorks (work ∷ next ∷ works) = (1 ≤ work) × (work ≤ max_work) × AreWorks (next ∷ works)

-- What holds of the items that a word tells.
pub record AreItemNames (names : List ItemName) : Type 0 where
  pub few : length names ≤ max_chain_items
  pub works : AreWorks (map (λ one. one.work) names)
