-- Laws of paths in memory.
use Rattle.std.proofs.Common.{◌≡◌, ◌∙◌, ◌+◌, ◌-◌, ◌<◌, ℕ, List, drop, set, sym, ap, arith}
use Rattle.std.proofs.Common.{replicate, drop-drop, drop-set-lt, length-set}
use Rattle.std.proofs.lemmas.List.{drop-replicate}
use Rattle.aeth_base.specs.{declared.ids.LinkId.LinkId, PathLinks.IsFilled, PathLinks.filler}

-- A link that is written behind the others leaves the filler behind it.
pub is_filled-push : (links : List LinkId) (len : ℕ) (link : LinkId) → IsFilled links len → len < 8
    → IsFilled (set links len link) (len + 1)
is_filled-push links len link is_filled room =
    let one_less : (8 - len) - 1 ≡ 8 - (len + 1) = omega arith in
    record {
      size = length-set links len link ∙ is_filled.size;
      within = omega arith;
      rest = drop-set-lt (len + 1) links len link (omega arith) ∙ sym (drop-drop 1 len links)
          ∙ ap (drop 1) is_filled.rest ∙ drop-replicate 1 (8 - len) filler
          ∙ ap (λ n. replicate n filler) one_less;
    }
