-- Tables with one entry more.
use Rattle.std.proofs.Common.{◌∙◌, ◌+◌, ◌++◌, ℕ, List, [], ◌∷◌, sym, ap, subst, inl, inr}
use Rattle.std.proofs.lemmas.List.{length_push}
use Rattle.aeth_base.proofs.Lists.{slice_get-push}
use Rattle.aeth_chip.specs.Index.{HasEntries}

-- An entry was put behind a table's, and has what is asked at its place.
pub table-push : {X : Type 0} (P : ℕ → X → Type 0) (count : ℕ) (entries : List X) (last : X)
    → HasEntries P count entries → P count last → HasEntries P (count + 1) (entries ++ last ∷ [])
table-push P count entries last table holds = record {
  size = length_push entries last ∙ ap (λ n. n + 1) table.size;
  each = λ i entry is. elim (slice_get-push entries last entry i is) [
    | inl early ↦ table.each i entry early
    | inr (at, same) ↦
        subst (λ x. P i x) same (subst (λ n. P n last) (sym table.size ∙ sym at) holds)
  ];
}
