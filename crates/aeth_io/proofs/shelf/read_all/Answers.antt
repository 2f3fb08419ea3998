use Rattle.std.proofs.Common.{◌≡◌, ◌∙◌, ℕ, length, subst, arith}
use Rattle.aeth_io.proofs.Reading.{read_so_far-end, read_so_far-le, read_so_far-more}
use Rattle.aeth_io.specs.Shelf.{ReadsFrom}
use Rattle.aeth_io.proofs.shelf.read_all.Goals as goal

-- No byte was read, so the text is the file.
pub returns-then-taken-eq0-clause-ok : goal.returns-then-taken-eq0-clause-ok
returns-then-taken-eq0-clause-ok g c = λ bytes told.
    let text = c.loop-chunk.text in
    let now = c.loop-chunk.invariant.kept c.args.name.now ∙ told in
    let ended = c.in-Ok.ensures.end bytes now (omega arith) c.if-taken-eq0.true in
    let size : c.len-in-loop-chunk.result ≡ length text.items =
    omega (arith, c.len-in-loop-chunk.ensures, text.ok) in
    read_so_far-end bytes text.items (c.loop-chunk.invariant.read bytes told)
    (omega (arith, ended, size))

-- What was read is put behind the text.
pub loop-chunk-preserved : goal.loop-chunk-preserved
loop-chunk-preserved g c =
    let text = c.loop-chunk.text in
    let turn = c.loop-chunk.invariant in
    let taken = c.in-Ok.taken in
    record {
      read = λ bytes told.
          let now = turn.kept c.args.name.now ∙ told in
          let reads = c.in-Ok.ensures.ok bytes now in
          let size : c.len-in-loop-chunk.result ≡ length text.items =
          omega (arith, c.len-in-loop-chunk.ensures, text.ok) in
          let next : ReadsFrom bytes (length text.items) taken c.read.new.into =
          subst (λ (at : ℕ). ReadsFrom bytes at taken c.read.new.into) size reads in
          rw c.in_ok-push_bytes.ensures.ok
          (read_so_far-more bytes text.items c.read.new.into taken (turn.read bytes told)
          c.in-Ok.ensures.within next);
      faultless = λ counts other. c.in-Ok.ensures.faultless counts other ∙ turn.faultless counts other;
      later = λ other. let later =
          c.in-Ok.ensures.later other in omega (arith, later, turn.later other);
      kept = λ other. c.in-Ok.ensures.kept other ∙ turn.kept other;
    }

-- More was read than a file may have, and all of it is the file's.
pub returns-clause-only_too_long : goal.returns-clause-only_too_long
returns-clause-only_too_long g c = λ bytes told refused.
    let within = read_so_far-le bytes c.loop-chunk.text.items (c.loop-chunk.invariant.read bytes
    told) in
    omega (arith, within, c.len.ensures, c.loop-chunk-test.false, c.loop-chunk.text.ok)
