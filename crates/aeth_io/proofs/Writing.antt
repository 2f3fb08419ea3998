-- Laws of appended bytes, and of a text that is under way to a sink.
use Rattle.std.proofs.Common.{◌≡◌, ◌-◌, ◌++◌, ◌∙◌, List, [], ℕ, length, take, drop, Option, Some}
use Rattle.std.proofs.Common.{None, ap, refl, length-append, append_assoc, arith}
use Rattle.std.proofs.lemmas.Grind.{common_steps}
use Rattle.aeth_io.specs.Sink.{appended}

-- A front of the text was appended, and the rest is left.
pub record IsUnderWay (before now : Option (List ℕ)) (text rest : List ℕ) : Type 0 where
  pub front : List ℕ
  pub written : now ≡ appended before front
  pub joined : front ++ rest ≡ text

-- Two pieces appended are one.
pub appended-appended : (before : Option (List ℕ)) (xs ys : List ℕ)
    → appended (appended before xs) ys ≡ appended before (xs ++ ys)
appended-appended None xs ys = refl
appended-appended (Some bytes) xs ys = simp append_assoc

-- A call that takes the front of the rest leaves the text under way.
pub under_way-write : (before now after : Option (List ℕ)) (text rest : List ℕ) (n : ℕ)
    → IsUnderWay before now text rest → after ≡ appended now (take n rest)
    → IsUnderWay before after text (take (length rest - n) (drop n rest))
under_way-write before now after text rest n way takes =
    let cut : take n rest ++ take (length rest - n) (drop n rest) ≡ rest =
    grind (arith, common_steps) in
    record {
      front = way.front ++ take n rest;
      written = takes ∙ ap (λ bytes. appended bytes (take n rest)) way.written
          ∙ appended-appended before way.front (take n rest);
      joined = append_assoc way.front (take n rest) (take (length rest - n) (drop n rest))
          ∙ ap (λ end. way.front ++ end) cut ∙ way.joined;
    }

-- Nothing is left of an empty text.
pub under_way-empty : (before now : Option (List ℕ)) (text rest : List ℕ)
    → IsUnderWay before now text rest → text ≡ [] → length rest ≡ 0
under_way-empty before now text rest way empty =
    omega (arith, simp length-append at (ap length (way.joined ∙ empty)))
