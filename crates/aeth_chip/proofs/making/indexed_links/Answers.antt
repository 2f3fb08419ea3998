use Rattle.std.proofs.Common.{◌≡◌, ◌∙◌, ◌<◌, ◌≤◌, ℕ, List, Ok, length, subst, sym, ap}
use Rattle.toml.specs.View.{table_view}
use Rattle.aeth_base.specs.declared.ids.NiId.{NiId}
use Rattle.aeth_chip.specs.{Chip.IsChip, Chip.IsSingle, Index.AreLinkLists, Index.IsIndex}
use Rattle.aeth_chip.specs.{Limits.max_links, Told.nis_of, Told.told_chip, Told.told_links}
use Rattle.aeth_chip.specs.{Wires.HaveDelays, declared.node.Link.Link}
use Rattle.aeth_chip.proofs.{FileLemmas.judged-told, FileLemmas.told-IsChip, WireLemmas.have_delays}
use Rattle.aeth_chip.proofs.{making.indexed_links.Goals.In_ok-listed}
use Rattle.aeth_chip.proofs.making.indexed_links.Goals as goal

-- The links are those of the chip that the file tells.
is_chip : (c : goal.In_ok-listed) → IsChip (told_chip (table_view c.args.root.now))
is_chip c =
    told-IsChip (table_view c.args.root.now) c.in_ok-listed.listed.links.items c.requires.keys
    c.requires.range c.requires.differ c.in_ok-listed.ensures.gives

are_told : (c : goal.In_ok-listed)
    → told_links (table_view c.args.root.now) ≡ c.in_ok-listed.listed.links.items
are_told c =
    judged-told (table_view c.args.root.now) c.in_ok-listed.listed.links.items
    c.in_ok-listed.ensures.gives

-- So they are few,
pub with_index-requires-clause-few : goal.with_index-requires-clause-few
with_index-requires-clause-few c =
    let listed = (goal.at.with_index-requires-clause-few c).In_ok-listed in
    subst (λ (ls : List Link). length ls ≤ max_links) (are_told listed) (is_chip listed).few_links

-- have delays in their range,
pub with_index-requires-clause-delays : goal.with_index-requires-clause-delays
with_index-requires-clause-delays c =
    let listed = (goal.at.with_index-requires-clause-delays c).In_ok-listed in
    subst HaveDelays (are_told listed) (have_delays _ (is_chip listed))

-- and join each network interface to one router.
pub with_index-requires-clause-single : goal.with_index-requires-clause-single
with_index-requires-clause-single c =
    let root = table_view c.args.root.now in
    let listed = (goal.at.with_index-requires-clause-single c).In_ok-listed in
    rw (c.len.ensures, c.requires.nis)
    (subst (λ (ls : List Link). (ni : NiId) → ni.0 < length (nis_of root) → IsSingle ls ni)
    (are_told listed) (is_chip listed).single)

pub with_index-requires-clause-lists : goal.with_index-requires-clause-lists
with_index-requires-clause-lists c = (
  length c.args.names.now.routers,
  rw c.len.ensures c.in_ok-listed.ensures.lists,
)

-- The links are kept.
pub returns : goal.returns
returns c =
    let routers = length c.args.names.now.routers in
    let its = c.in_ok-with_index.field-0 in
    record {
      gives = c.in_ok-listed.ensures.gives ∙ ap Ok (sym c.in_ok-with_index.ensures.links);
      index = subst (λ (n : ℕ). IsIndex its.links.items routers n its.index) c.len.ensures
          (c.in_ok-with_index.ensures.index routers
          (subst (λ (n : ℕ). AreLinkLists routers n c.in_ok-listed.listed) (sym c.len.ensures)
          c.in_ok-listed.ensures.lists));
    }
