use Rattle.std.proofs.Common.{◌≡◌, sym, ◌∙◌, true, false}
use Rattle.aeth_document.proofs.Documents.{document_of-utf8, document_of-other}
use Rattle.aeth_document.proofs.document.read_document.Goals as goal

-- Bytes that aren't UTF-8 have no document.
pub returns-in-Err : goal.returns-in-Err
returns-in-Err c = sym (document_of-other _ c.in-Err.ensures.cases.0)

-- The document of bytes that are UTF-8 is what TOML makes of them.
pub returns-in-Ok-table_from_str : goal.returns-in-Ok-table_from_str
returns-in-Ok-table_from_str c =
    let utf8 = c.in-Ok.ensures.cases in
    sym (document_of-utf8 _ utf8.1 ∙ rw utf8.0 at c.in-Ok-table_from_str.ensures.ok)

-- What TOML refuses for another cause than memory has no document.
pub returns-else-is_memory : goal.returns-else-is_memory
returns-else-is_memory c =
    let utf8 = c.in-Ok.ensures.cases in
    sym (document_of-utf8 _ utf8.1 ∙ rw utf8.0 at
    (c.in-Err-table_from_str.ensures.refused
    (λ memory. let never : false ≡ true = c.if-is_memory.ensures.1 memory in cc)))
