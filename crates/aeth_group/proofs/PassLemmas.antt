-- Laws of a pass over a table of marks, and of the table that it starts from.
use Rattle.std.proofs.Common.{◌≡◌, ◌∙◌, ◌<◌, ◌≤◌, ◌+◌, ◌⊎◌, ℕ, Bool, true, false, List, length}
use Rattle.std.proofs.Common.{replicate, sym, ap, subst, inl, inr, arith}
use Rattle.std.proofs.lemmas.Bool.{cases_eq, cases_lt, false≢true, OnFalse_at, OnFalse_from}
use Rattle.std.specs.Bool.{OnFalse}
use Rattle.aeth_app.specs.{App.UseData, Limits.max_uses}
use Rattle.aeth_group.specs.Marks.{IsPair, IsTransitive, LeadsOver, Spreads, marked, places}
use Rattle.aeth_group.specs.Marks.{with_mark}
use Rattle.aeth_group.proofs.MarkLemmas.{marked-none, marked-with_mark_cases, marked-with_mark_kept}
use Rattle.aeth_group.proofs.MarkLemmas.{marked-with_mark_same, marked_first, marked_second}
use Rattle.aeth_group.proofs.MarkLemmas.{spreads-both, spreads-refl}

-- A pair comes before another, row by row.
pub IsBefore : ℕ → ℕ → ℕ → ℕ → Type 0
IsBefore u v a b = (a < u) ⊎ ((a ≡ u) × (b < v))

-- ---- a pass

-- Each pair before one leads over, unless a mark was added.
pub record Passing (old new : List Bool) (added : Bool) (u w : ℕ) : Type 0 where
  pub spreads : Spreads old new added
  pub led : OnFalse added ((a b : ℕ) → IsBefore u w a b → LeadsOver new a b)

-- Before the first pair.
pub passing-start : (marks : List Bool) → Passing marks marks false 0 0
unfolding IsBefore
passing-start marks = record {
  spreads = spreads-refl marks;
  led = λ a b before.
      elim before [ inl low ↦ absurd (omega arith) | inr low ↦ absurd (omega arith) ];
}

-- One more pair, with a mark added.
pub passing-added : (old new next : List Bool) (added : Bool) (u w after : ℕ)
    → Passing old new added u w → Spreads new next true → Passing old next true u after
passing-added old new next added u w after before more = record {
  spreads = spreads-both old new next added before.spreads more;
  led = tt;
}

-- One more pair, without.
pub passing-none : (old new next : List Bool) (added : Bool) (u w : ℕ) → Passing old new added u w
    → Spreads new next false → LeadsOver next u w → Passing old next added u (w + 1)
unfolding IsBefore
passing-none old new next added u w before kept leads =
    let same : new ≡ next = sym kept.same in
    let moved = subst (λ (marks : List Bool). Passing old marks added u w) same before in
    record {
      spreads = moved.spreads;
      led = OnFalse_from added _ (λ none a b earlier. elim earlier [
        | inl low ↦ OnFalse_at none moved.led a b (inl low)
        | inr row ↦ elim (cases_lt b w) [
          | inl early ↦ OnFalse_at none moved.led a b (inr (row.0, early))
          | inr late ↦
              let last : b ≡ w = omega arith in
              subst (λ (p : ℕ). LeadsOver next p b) (sym row.0)
              (subst (λ (q : ℕ). LeadsOver next u q) (sym last) leads)
        ]
      ]);
    }

-- After a row.
pub passing-row : (old new : List Bool) (added : Bool) (u w : ℕ) → Passing old new added u w
    → max_uses ≤ w → Passing old new added (u + 1) 0
unfolding IsBefore
passing-row old new added u w row last = record {
  spreads = row.spreads;
  led = OnFalse_from added _ (λ none a b before v to onward.
      let within = marked_second new a b to in
      OnFalse_at none row.led a b (elim before [
        | inl low ↦ elim (cases_eq a u) [
          | inl same ↦ inr (same, omega arith)
          | inr other ↦ inl (omega arith)
        ]
        | inr row ↦ absurd (omega arith)
      ]) v to onward);
}

-- After the last row.
pub passing-end : (old new : List Bool) (added : Bool) (u : ℕ) → Passing old new added u 0
    → max_uses ≤ u → OnFalse added (IsTransitive (marked new))
unfolding IsBefore
passing-end old new added u all last = OnFalse_from added _ (λ none a b v to onward.
    let within = marked_first new a b to in
    OnFalse_at none all.led a b (inl (omega arith)) v to onward)

-- ---- the table of pairs

-- The marked pairs are those before one that are pairs.
pub record Pairing (uses : List UseData) (marks : List Bool) (u v : ℕ) : Type 0 where
  pub only : (a b : ℕ) → marked marks a b ≡ true → IsPair uses a b
  pub each : (a b : ℕ) → IsPair uses a b → IsBefore u v a b → marked marks a b ≡ true

-- Before the first pair.
pub pairing-start : (uses : List UseData) → Pairing uses (replicate places false) 0 0
unfolding IsBefore
pairing-start uses = record {
  only = λ a b is. absurd (false≢true (sym (marked-none a b) ∙ is));
  each = λ a b pair before.
      elim before [ inl low ↦ absurd (omega arith) | inr low ↦ absurd (omega arith) ];
}

-- One more pair, which was marked.
pub pairing-mark : (uses : List UseData) (marks : List Bool) (u v : ℕ) → Pairing uses marks u v
    → length marks ≡ places → u < max_uses → v < max_uses → IsPair uses u v
    → Pairing uses (with_mark marks u v) u (v + 1)
unfolding IsBefore
pairing-mark uses marks u v before long first second pair = record {
  only = λ a b is. elim (marked-with_mark_cases marks u v a b first second is) [
    | inl old ↦ before.only a b old
    | inr same ↦ subst (λ (p : ℕ). IsPair uses p b) (sym same.0)
        (subst (λ (q : ℕ). IsPair uses u q) (sym same.1) pair)
  ];
  each = λ a b other earlier. elim earlier [
    | inl low ↦ marked-with_mark_kept marks u v a b long first second
        (before.each a b other (inl low))
    | inr row ↦ elim (cases_lt b v) [
      | inl early ↦ marked-with_mark_kept marks u v a b long first second
          (before.each a b other (inr (row.0, early)))
      | inr late ↦
          let last : b ≡ v = omega arith in
          ap (λ p. marked (with_mark marks u v) p b) row.0
          ∙ ap (marked (with_mark marks u v) u) last
          ∙ marked-with_mark_same marks u v long first second
    ]
  ];
}

-- One more pair, which is none.
pub pairing-skip : (uses : List UseData) (marks : List Bool) (u v : ℕ) → Pairing uses marks u v
    → (IsPair uses u v → ⊥) → Pairing uses marks u (v + 1)
unfolding IsBefore
pairing-skip uses marks u v before none = record {
  only = before.only;
  each = λ a b pair earlier. elim earlier [
    | inl low ↦ before.each a b pair (inl low)
    | inr row ↦ elim (cases_lt b v) [
      | inl early ↦ before.each a b pair (inr (row.0, early))
      | inr late ↦
          let last : b ≡ v = omega arith in
          absurd (none (subst (λ (p : ℕ). IsPair uses p v) row.0
          (subst (λ (q : ℕ). IsPair uses a q) last pair)))
    ]
  ];
}

-- After a row.
pub pairing-row : (uses : List UseData) (marks : List Bool) (u v : ℕ) → Pairing uses marks u v
    → length uses ≤ v → Pairing uses marks (u + 1) 0
unfolding IsBefore
pairing-row uses marks u v row last = record {
  only = row.only;
  each = λ a b pair before.
      let within = pair.second in
      row.each a b pair (elim before [
        | inl low ↦ elim (cases_eq a u) [
          | inl same ↦ inr (same, omega arith)
          | inr other ↦ inl (omega arith)
        ]
        | inr row ↦ absurd (omega arith)
      ]);
}

-- After the last row.
pub pairing-end : (uses : List UseData) (marks : List Bool) (u : ℕ) → Pairing uses marks u 0
    → length uses ≤ u → (a b : ℕ) → IsPair uses a b → marked marks a b ≡ true
unfolding IsBefore
pairing-end uses marks u all last a b pair =
    let within = pair.first in
    all.each a b pair (inl (omega arith))
