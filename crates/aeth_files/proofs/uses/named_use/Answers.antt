use Rattle.std.proofs.Common.{[], map, refl, sym, codes}
use Rattle.std.proofs.lemmas.List.{length-map, Quantifiers.position-Some}
use Rattle.std.specs.Str.{bytes_eq}
use Rattle.aeth_files.specs.Uses.{unknown_use}
use Rattle.aeth_answers.proofs.{FileLemmas.IsAnswer-refused, TaskLemmas.IsAfter-same}
use Rattle.aeth_files.proofs.uses.named_use.Goals as goal

-- A use case has the name, and what comes next is left.
pub returns-in-Some-clause-judges : goal.returns-in-Some-clause-judges
returns-in-Some-clause-judges c =
    λ now. record {
      after = IsAfter-same now;
      faultless = λ name. refl;
      judges = λ next new answer answers. rw (sym c.in-Some.ensures) answers;
    }

-- Its number is that of a use case.
pub returns-in-Some-clause-within : goal.returns-in-Some-clause-within
returns-in-Some-clause-within c =
    let names = map (λ one. one.name) c.args.app.now.uses in
    let within = (position-Some (bytes_eq c.args.name.now) names c.in-Some.u.0 []
    (sym c.in-Some.ensures)).0 in
    rw (length-map c.args.app.now.uses (λ one. one.name)) at within

-- No use case has the name.
pub returns-in_ok-unknown-in-None-clause-judges : goal.returns-in_ok-unknown-in-None-clause-judges
returns-in_ok-unknown-in-None-clause-judges c =
    λ now. record {
      after = IsAfter-same now;
      faultless = tt;
      judges = λ next. rw (sym c.in-None.ensures)
          (IsAnswer-refused now (codes "use") (unknown_use c.args.name.now) _
          c.in_ok-unknown-in-None.ensures);
    }
