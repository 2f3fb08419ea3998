use Rattle.std.proofs.Common.{ap, map, not, sym, ◌∙◌}
use Rattle.std.specs.Str.{bytes_eq}
use Rattle.aeth_base.proofs.Lists.{list_any-map}
use Rattle.aeth_document.proofs.TextLemmas.{map-insert_key}
use Rattle.aeth_document.proofs.names.add_text.Goals as goal

-- Whether the text is new, where texts are compared by their bytes.
pub returns-clause-new : goal.returns-clause-new
returns-clause-new c =
    c.in_ok-is_new.ensures.added
    ∙ ap not (sym (list_any-map (bytes_eq c.args.text.now) (λ t. t.now) c.args.seen.now.keys))

-- The texts after it, for the same reason.
pub returns-clause-keys : goal.returns-clause-keys
returns-clause-keys c =
    ap (map (λ t. t.now)) c.in_ok-is_new.ensures.keys
    ∙ map-insert_key (λ t. t.now) c.args.seen.now.keys c.args.text
