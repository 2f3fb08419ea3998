use Rattle.std.proofs.Common.{◌≡◌, ◌∙◌, ◌-◌, ◌<◌, List, All, length, sym, ap, arith, slice_get}
use Rattle.std.proofs.lemmas.Option.{same_Some}
use Rattle.aeth_base.specs.declared.ids.LinkId.{LinkId}
use Rattle.aeth_chip.specs.{declared.node.Link.Link, Paths.to_in}
use Rattle.aeth_group.proofs.ListLemmas.{all_at}
use Rattle.aeth_paths.specs.Pairs.{HasEnds}
use Rattle.aeth_paths.proofs.EndLemmas.{path-all, path-first, path-last, path-some}
use Rattle.aeth_paths.proofs.ends.found.Goals as goal

all-inside : {links : List Link} {path : List LinkId} → HasEnds links path
    → All (λ (link : LinkId). link.0 < length links) path
all-inside {links} {path} ends = path-all links ends.from ends.to path ends.is_path

-- There is a first link.
pub link-first-requires : goal.link-first-requires
link-first-requires c =
    let ends = c.requires.ends in omega (arith, path-some _ ends.from ends.to _ ends.is_path)

-- The first and the last are links of the chip.
pub link-requires : goal.link-requires
link-requires c =
    all_at (λ (link : LinkId). link.0 < length c.args.task.now.chip.now.links) c.args.path.now _
    c.link-first.result (all-inside c.requires.ends)
    c.link-first.ensures

pub link-requires-2 : goal.link-requires-2
link-requires-2 c =
    all_at (λ (link : LinkId). link.0 < length c.args.task.now.chip.now.links) c.args.path.now _
    c.link-last.result (all-inside c.requires.ends)
    c.link-last.ensures

-- All are.
pub slots_on-requires-clause-links : goal.slots_on-requires-clause-links
slots_on-requires-clause-links c =
    all-inside c.requires.ends

-- The path begins and ends at one interface each.
pub returns-clause-ends : goal.returns-clause-ends
returns-clause-ends c a b is_path =
    let links = c.args.task.now.chip.now.links in
    let path = c.args.path.now in
    let first = path-first links a b path c.link-first.result is_path c.link-first.ensures in
    let begins : first.link ≡ c.link.result = same_Some _ _ (sym first.is ∙ c.link.ensures.link) in
    let last = path-last links a b path c.link-last.result is_path
    (sym (ap (λ n. slice_get path (n - 1)) c.len.ensures.len) ∙ c.link-last.ensures) in (
      c.interface.ensures a (ap (λ (l : Link). l.from) (sym begins) ∙ first.begins),
      c.interface-2.ensures b (sym (ap to_in c.link-2.ensures.link) ∙ last),
    )
