-- Laws of the files of a shelf in memory.
use Rattle.std.proofs.Common.{◌≡◌, ◌∙◌, ◌+◌, ◌<◌, ◌∷◌, ℕ, true, List, Some, length, drop, get_or}
use Rattle.std.proofs.Common.{ap, sym, Global, String, Vec, string_bytes}
use Rattle.std.proofs.lemmas.List.{at_drop_more}
use Rattle.std.specs.Str.{bytes_eq}
use Rattle.aeth_io.specs.MemShelf.{content_of, files_of}

-- The first file is found where its name is the one that is sought.
content_of-first : (pair : String Global × Vec ℕ Global)
    (rest : List (String Global × Vec ℕ Global))
    (name : List ℕ) → true ≡ bytes_eq (string_bytes pair.0) name
    → content_of (files_of (pair ∷ rest)) name ≡ Some pair.1.items
content_of-first pair rest name same = simp (sym same)

-- The same of the first file from a place on.
pub content_of-found : (pairs : List (String Global × Vec ℕ Global)) (name : List ℕ) (i : ℕ)
    (pair : String Global × Vec ℕ Global) → i < length pairs → pair ≡ get_or pairs i pair
    → true ≡ bytes_eq (string_bytes pair.0) name
    → content_of (files_of (drop i pairs)) name ≡ Some pair.1.items
content_of-found pairs name i pair within here same =
    let content = λ (files : List (String Global × Vec ℕ Global)).
    content_of (files_of files) name in
    at_drop_more content pairs i pair within
    ∙ ap (λ (first : String Global × Vec ℕ Global). content (first ∷ drop (i + 1) pairs)) (sym here)
    ∙ content_of-first pair (drop (i + 1) pairs) name same
