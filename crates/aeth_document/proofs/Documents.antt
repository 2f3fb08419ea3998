-- The document of bytes that are UTF-8, and of bytes that aren't.
use Rattle.std.proofs.Common.{◌≡◌, ℕ, List, None, inl, inr, IsUtf8}
use Rattle.std.proofs.lemmas.{Bool.cases_Bool, Str.is_utf8-from_IsUtf8, Str.IsUtf8-from_is_utf8}
use Rattle.std.specs.Str.{is_utf8}
use Rattle.toml.specs.Parse.{parse_document}
use Rattle.aeth_document.specs.Document.{document_of}

-- Of bytes that are UTF-8 it is what TOML makes of them.
pub document_of-utf8 : (bytes : List ℕ) → IsUtf8 bytes → document_of bytes ≡ parse_document bytes
unfolding document_of
document_of-utf8 bytes utf8 = rw (is_utf8-from_IsUtf8 bytes utf8)

-- Bytes that aren't UTF-8 have none.
pub document_of-other : (bytes : List ℕ) → ¬ (IsUtf8 bytes) → document_of bytes ≡ None
unfolding document_of
document_of-other bytes other =
    elim (cases_Bool (is_utf8 bytes)) [
      | inl utf8 ↦ absurd (other (IsUtf8-from_is_utf8 bytes utf8))
      | inr not_utf8 ↦ rw not_utf8
    ]
