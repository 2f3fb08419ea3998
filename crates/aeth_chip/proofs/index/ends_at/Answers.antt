use Rattle.std.proofs.Common.{◌≡◌, ◌∙◌, ℕ, List, Some, ap, get_or, slice_get, sym}
use Rattle.std.proofs.lemmas.Option.{get_or_from_slice_get}
use Rattle.aeth_base.specs.declared.ids.LinkId.{LinkId}
use Rattle.aeth_chip.specs.declared.lists.NiLink.{NiLink, TheVariants.One}
use Rattle.aeth_chip.proofs.index.ends_at.Goals as goal

-- What was read is the one link that stands there.
read_one : (entries : List NiLink) (ni : ℕ) (its : NiLink) (link : LinkId)
    → its ≡ get_or entries ni its → slice_get entries ni ≡ Some (One link) → its ≡ One link
read_one entries ni its link is at = is ∙ get_or_from_slice_get entries ni (One link) its at

pub only_link-requires : goal.only_link-requires
only_link-requires c =
    let (link, at) = c.requires.leaving in
    (link, read_one c.args.its.now.outgoing.items c.args.ni c.index.result.now link c.index.ensures at)

pub only_link-requires-2 : goal.only_link-requires-2
only_link-requires-2 c =
    let (link, at) = c.requires.entering in (
      link,
      read_one c.args.its.now.incoming.items c.args.ni c.index-2.result.now link c.index-2.ensures
          at,
    )

-- So it is the one that is told.
pub returns-clause-leaving : goal.returns-clause-leaving
returns-clause-leaving c =
    let (link, at) = c.requires.leaving in
    at
    ∙ ap Some (sym (read_one c.args.its.now.outgoing.items c.args.ni c.index.result.now link
    c.index.ensures at) ∙ c.only_link.ensures)

pub returns-clause-entering : goal.returns-clause-entering
returns-clause-entering c =
    let (link, at) = c.requires.entering in
    at
    ∙ ap Some (sym (read_one c.args.its.now.incoming.items c.args.ni c.index-2.result.now link
    c.index-2.ensures at) ∙ c.only_link-2.ensures)
