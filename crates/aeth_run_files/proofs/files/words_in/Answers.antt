use Rattle.std.proofs.Common.{codes}
use Rattle.aeth_trace.specs.{Fault.rule_of, Words.AreWordsOf, Words.words_of}
use Rattle.aeth_answers.proofs.FileLemmas.{HandsOn-keeps, Judges-told}
use Rattle.aeth_run_files.proofs.files.words_in.Goals as goal

-- The bytes are judged.
pub returns-clause-judges : goal.returns-clause-judges
returns-clause-judges c =
    λ now. Judges-told now (codes "words") rule_of (λ words. words)
    (words_of c.args.app.now c.args.bytes.now) c.read_words.result c.judged.result c.read_words.ensures.reads
    c.judged.ensures

-- What is handed on is what was read.
pub returns-clause-words : goal.returns-clause-words
returns-clause-words c =
    HandsOn-keeps rule_of (codes "words") (AreWordsOf c.args.app.now) c.read_words.result c.judged.result
    c.read_words.ensures.words c.judged.ensures
