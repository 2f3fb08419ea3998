-- Words that arrive in a cycle, among those of a channel.
use Rattle.std.proofs.Common.{◌≡◌, ◌∙◌, ◌≤◌, ◌<◌, ◌+◌, ◌&&◌, ℕ, Bool, true, false, List, [], ◌∷◌}
use Rattle.std.proofs.Common.{filter, length, refl, ap, inl, inr, arith, ◌==◌, nat_le, nat_lt}
use Rattle.std.proofs.Common.{eq-eqb, le-leb, le-ltb, leb-true, ltb-true, lt-ltb, ne_eqb}
use Rattle.std.proofs.lemmas.Bool.{and_from, and_parts, and_right, cases_Bool, cases_order}

-- How many of those cycles that pass a test are before one.
abbrev pub passed_before : (ℕ → Bool) → ℕ → List ℕ → ℕ
passed_before test end cycles = length (filter (λ a. nat_lt a end) (filter test cycles))

module _ (test : ℕ → Bool) (t : ℕ) where
  -- Where the cycle passes the test, all in it count.
  pub more-in : test t ≡ true → (cycles : List ℕ)
      → passed_before test (t + 1) cycles
      ≡ passed_before test t cycles + length (filter (λ a. a == t) cycles)
  more-in passes [] = omega arith
  more-in passes (a ∷ cycles) =
      let rest = more-in passes cycles in
      elim (cases_order a t) [
        | inl now ↦
            let own : test a ≡ true = ap test now ∙ passes in
            rw (
              own,
              lt-ltb a (t + 1) (omega (arith, now)),
              le-ltb a t (omega (arith, now)),
              eq-eqb a t now,
            )
            (omega (arith, rest))
        | inr apart ↦ elim (cases_Bool (test a)) [
          | inr fails ↦
              let other : (a == t) ≡ false = ne_eqb a t (λ same. elim apart [
                | inl early ↦ omega (arith, same, early)
                | inr late ↦ omega (arith, same, late)
              ]) in
              rw (fails, other) rest
          | inl own ↦ elim apart [
            | inl early ↦
                rw (
                  own,
                  lt-ltb a (t + 1) (omega (arith, early)),
                  lt-ltb a t early,
                  ne_eqb a t (λ same. omega (arith, same, early)),
                ) (omega (arith, rest))
            | inr late ↦
                rw (
                  own,
                  le-ltb a (t + 1) (omega (arith, late)),
                  le-ltb a t (omega (arith, late)),
                  ne_eqb a t (λ same. omega (arith, same, late)),
                ) rest
          ]
        ]
      ]

  -- Where it doesn't, none in it counts.
  pub none-in : test t ≡ false → (cycles : List ℕ)
      → passed_before test (t + 1) cycles ≡ passed_before test t cycles
  none-in fails [] = refl
  none-in fails (a ∷ cycles) =
      let rest = none-in fails cycles in
      elim (cases_order a t) [
        | inl now ↦
            let own : test a ≡ false = ap test now ∙ fails in
            rw own rest
        | inr apart ↦ elim (cases_Bool (test a)) [
          | inr out ↦ rw out rest
          | inl own ↦ elim apart [
            | inl early ↦
                rw (own, lt-ltb a (t + 1) (omega (arith, early)), lt-ltb a t early) (omega (arith, rest))
            | inr late ↦
                rw (own, le-ltb a (t + 1) (omega (arith, late)), le-ltb a t (omega (arith, late))) rest
          ]
        ]
      ]

-- The cycles from one on and before another.
abbrev pub is_between : ℕ → ℕ → ℕ → Bool
is_between go until a = nat_le go a && nat_lt a until

pub between : (go until a : ℕ) → go ≤ a → a < until → is_between go until a ≡ true
between go until a from upto =
    and_from (nat_le go a) (nat_lt a until) (le-leb go a from) (lt-ltb a until upto)

pub past-between : (go until a : ℕ) → until ≤ a → is_between go until a ≡ false
past-between go until a past = and_right (nat_le go a) (nat_lt a until) (le-ltb a until past)

-- None has arrived by the first.
pub none-by : (go until t : ℕ) → t ≤ go → (cycles : List ℕ)
    → passed_before (is_between go until) t cycles ≡ 0
none-by go until t early [] = refl
none-by go until t early (a ∷ cycles) =
    let rest = none-by go until t early cycles in
    elim (cases_Bool (is_between go until a)) [
      | inr out ↦ rw out rest
      | inl own ↦ elim (cases_Bool (nat_lt a t)) [
        | inr late ↦ rw (own, late) rest
        | inl soon ↦
            let before = ltb-true a t soon in
            let from = leb-true go a (and_parts (nat_le go a) (nat_lt a until) own).0 in
            absurd (omega (arith, before, from, early))
      ]
    ]
