-- Laws of ascending lists: their bounds, their numbers, and a slot that is put in.
use Rattle.std.proofs.Common.{ℕ, ◌+◌, ◌<◌, ◌≤◌, ◌≡◌, ◌↔◌, ◌⊎◌, ◌∙◌, Bool, true, false, cond, eqb}
use Rattle.std.proofs.Common.{ltb, List, [], ◌∷◌, ◌++◌, length, filter, Contains, sym, refl, ap}
use Rattle.std.proofs.Common.{subst, inl, inr, arith, eqb-true, eq-eqb, ne_eqb, lt-ltb, le-ltb}
use Rattle.std.proofs.lemmas.Bool.{cases_eq, cases_lt, cond-false}
use Rattle.aeth_slots.specs.SlotSet.{Ascends, with_slot, ascending}
use Rattle.aeth_base.proofs.Members.{Contains-nil, Contains-here, Contains-there, Contains-cases}

-- A number of an ascending list lies within its bounds.
pub Ascends-bounds : (low high : ℕ) (xs : List ℕ) → Ascends low high xs → (x : ℕ) → Contains xs x
    → (low ≤ x) × (x < high)
Ascends-bounds low high [] asc x has = Contains-nil has
Ascends-bounds low high (y ∷ ys) asc x has = elim (Contains-cases y ys x has) [
  | inl same ↦ (omega (arith, asc.0), omega (arith, asc.1))
  | inr later ↦ let bounds = Ascends-bounds (y + 1) high ys asc.2 x later in
      (omega (arith, asc.0), bounds.1)
]

-- The lower bound may be any up to the least number.
pub Ascends-from : (low other high : ℕ) (xs : List ℕ) → ((x : ℕ) → Contains xs x → other ≤ x)
    → Ascends low high xs → Ascends other high xs
Ascends-from low other high [] above asc = tt
Ascends-from low other high (x ∷ xs) above asc = (above x (Contains-here x xs), asc.1, asc.2)

-- The bounds may be wider.
pub Ascends-wider : (low high lower higher : ℕ) (xs : List ℕ) → lower ≤ low → high ≤ higher
    → Ascends low high xs → Ascends lower higher xs
Ascends-wider low high lower higher [] below above asc = tt
Ascends-wider low high lower higher (x ∷ xs) below above asc = (
  omega (arith, asc.0),
  omega (arith, asc.1),
  Ascends-wider (x + 1) high (x + 1) higher xs (omega arith) above asc.2,
)

-- A number goes behind all others.
pub Ascends-push : (low y : ℕ) (xs : List ℕ) → low ≤ y → Ascends low y xs
    → Ascends low (y + 1) (xs ++ y ∷ [])
Ascends-push low y [] least asc = (least, omega arith, tt)
Ascends-push low y (x ∷ xs) least asc =
    (asc.0, omega (arith, asc.1), Ascends-push (x + 1) y xs (omega (arith, asc.1)) asc.2)

-- An ascending list has no more numbers than lie between its bounds.
pub Ascends-length : (low high : ℕ) (xs : List ℕ) → low ≤ high → Ascends low high xs
    → low + length xs ≤ high
Ascends-length low high [] room asc = omega arith
Ascends-length low high (x ∷ xs) room asc =
    let rest = Ascends-length (x + 1) high xs (omega (arith, asc.1)) asc.2 in
    omega (arith, asc.0, rest)

-- The rest of an ascending list has what lies above the head.
rest_has : (low high x : ℕ) (xs : List ℕ) → Ascends low high (x ∷ xs) → (y : ℕ)
    → Contains (x ∷ xs) y → x < y → Contains xs y
rest_has low high x xs asc y has above =
    elim (Contains-cases x xs y has) [ inl same ↦ absurd (omega (arith, same)) | inr later ↦ later ]

-- Of two ascending lists where each number of the one is in the other, the rests are so too.
rests_within : (low high x : ℕ) (xs ys : List ℕ) → Ascends low high (x ∷ xs)
    → Ascends low high (x ∷ ys)
    → ((z : ℕ) → Contains (x ∷ xs) z → Contains (x ∷ ys) z) → (z : ℕ) → Contains xs z
    → Contains ys z
rests_within low high x xs ys asc asc' within z has =
    rest_has low high x ys asc' z (within z (Contains-there x xs z has))
    (let b = Ascends-bounds (x + 1) high xs asc.2 z has in omega (arith, b.0))

-- Two ascending lists with the same numbers are equal.
pub same_members : (low high : ℕ) (xs ys : List ℕ) → Ascends low high xs → Ascends low high ys
    → ((x : ℕ) → Contains xs x ↔ Contains ys x) → xs ≡ ys
same_members low high [] [] asc asc' same = refl
same_members low high [] (y ∷ ys) asc asc' same = Contains-nil ((same y).1 (Contains-here y ys))
same_members low high (x ∷ xs) [] asc asc' same = Contains-nil ((same x).0 (Contains-here x xs))
same_members low high (x ∷ xs) (y ∷ ys) asc asc' same =
    let heads : x ≡ y = elim (Contains-cases y ys x ((same x).0 (Contains-here x xs))) [
      | inl equal ↦ sym equal
      | inr later ↦ elim (Contains-cases x xs y ((same y).1 (Contains-here y ys))) [
        | inl equal ↦ equal
        | inr after ↦
            absurd (omega (
              arith,
              (Ascends-bounds (y + 1) high ys asc'.2 x later).0,
              (Ascends-bounds (x + 1) high xs asc.2 y after).0,
            ))
      ]
    ] in
    let asc'' : Ascends low high (x ∷ ys) =
    subst (λ (k : ℕ). Ascends low high (k ∷ ys)) (sym heads) asc' in
    let onto : (z : ℕ) → Contains (x ∷ xs) z ↔ Contains (x ∷ ys) z =
    subst (λ (k : ℕ). (z : ℕ) → Contains (x ∷ xs) z ↔ Contains (k ∷ ys) z) (sym heads) same in
    let rests : xs ≡ ys = same_members (x + 1) high xs ys asc.2 asc''.2 (λ z. (
      rests_within low high x xs ys asc asc'' (λ z has. (onto z).0 has) z,
      rests_within low high x ys xs asc'' asc (λ z has. (onto z).1 has) z,
    )) in cc

-- A slot that is put in is there.
pub with_slot-new : (s : ℕ) (xs : List ℕ) → Contains (with_slot s xs) s
with_slot-new s [] = Contains-here s []
with_slot-new s (x ∷ xs) =
    let cases : (a b : Bool) → eqb s x ≡ b
    → Contains (cond a (s ∷ x ∷ xs) (cond b (x ∷ xs) (x ∷ with_slot s xs))) s =
    λ a. elim a
    as (λ v. (b : Bool) → eqb s x ≡ b
    → Contains (cond v (s ∷ x ∷ xs) (cond b (x ∷ xs) (x ∷ with_slot s xs))) s) [
      | true ↦ λ b is. Contains-here s (x ∷ xs)
      | false ↦ elim [
        | true ↦ λ is. rw (eqb-true s x is) (Contains-here x xs)
        | false ↦ λ is. Contains-there x _ s (with_slot-new s xs)
      ]
    ]
    in cases (ltb s x) (eqb s x) refl

-- A slot that was there stays.
pub with_slot-old : (s : ℕ) (xs : List ℕ) (t : ℕ) → Contains xs t → Contains (with_slot s xs) t
with_slot-old s [] t has = Contains-nil has
with_slot-old s (x ∷ xs) t has =
    let cases : (a b : Bool)
    → Contains (cond a (s ∷ x ∷ xs) (cond b (x ∷ xs) (x ∷ with_slot s xs))) t =
    elim [
      | true ↦ λ b. Contains-there s (x ∷ xs) t has
      | false ↦ elim [
        | true ↦ has
        | false ↦ elim (Contains-cases x xs t has) [
          | inl same ↦ subst (λ (u : ℕ). Contains (x ∷ with_slot s xs) u) same
              (Contains-here x (with_slot s xs))
          | inr later ↦ Contains-there x _ t (with_slot-old s xs t later)
        ]
      ]
    ]
    in cases (ltb s x) (eqb s x)

-- What is there after a slot was put in is this slot, or was there.
pub with_slot-cases : (s : ℕ) (xs : List ℕ) (t : ℕ) → Contains (with_slot s xs) t
    → (s ≡ t) ⊎ Contains xs t
with_slot-cases s [] t has = Contains-cases s [] t has
with_slot-cases s (x ∷ xs) t has =
    let cases : (a b : Bool)
    → Contains (cond a (s ∷ x ∷ xs) (cond b (x ∷ xs) (x ∷ with_slot s xs))) t
    → (s ≡ t) ⊎ Contains (x ∷ xs) t =
    elim [
      | true ↦ λ b. Contains-cases s (x ∷ xs) t
      | false ↦ elim [
        | true ↦ λ kept. inr kept
        | false ↦ λ kept. elim (Contains-cases x (with_slot s xs) t kept) [
          | inl same ↦ inr (subst (λ (u : ℕ). Contains (x ∷ xs) u) same (Contains-here x xs))
          | inr later ↦ elim (with_slot-cases s xs t later)
              [ inl same ↦ inl same | inr old ↦ inr (Contains-there x xs t old) ]
        ]
      ]
    ]
    in cases (ltb s x) (eqb s x) has

-- A list stays ascending when a slot is put in.
pub Ascends-with_slot : (low high s : ℕ) (xs : List ℕ) → low ≤ s → s < high → Ascends low high xs
    → Ascends low high (with_slot s xs)
Ascends-with_slot low high s [] least most asc = (least, most, tt)
Ascends-with_slot low high s (x ∷ xs) least most asc =
    elim (cases_lt s x) [
      | inl before ↦ rw (lt-ltb s x before) (least, most, (omega arith, asc.1, asc.2))
      | inr after ↦ rw (le-ltb s x after) (elim (cases_eq s x) [
        | inl same ↦ rw (eq-eqb s x same) asc
        | inr other ↦
            rw (ne_eqb s x other)
            (asc.0, asc.1, Ascends-with_slot (x + 1) high s xs (omega arith) most asc.2)
      ])
    ]

-- A slot above all others goes to the end.
pub with_slot-last : (low s : ℕ) (xs : List ℕ) → Ascends low s xs → with_slot s xs ≡ xs ++ s ∷ []
with_slot-last low s [] asc = refl
with_slot-last low s (x ∷ xs) asc =
    cond-false (ltb s x) _ _ (le-ltb s x (omega (arith, asc.1)))
    ∙ cond-false (eqb s x) _ _ (ne_eqb s x (λ same. absurd (omega (arith, same, asc.1))))
    ∙ ap (λ k. x ∷ k) (with_slot-last (x + 1) s xs asc.2)

-- A list that is put in order has the same numbers.
pub Contains-ascending : (xs : List ℕ) (x : ℕ) → Contains xs x → Contains (ascending xs) x
Contains-ascending [] x has = has
Contains-ascending (y ∷ ys) x has = elim (Contains-cases y ys x has) [
  | inl same ↦ subst (λ (k : ℕ). Contains (with_slot y (ascending ys)) k) same
      (with_slot-new y (ascending ys))
  | inr later ↦ with_slot-old y (ascending ys) x (Contains-ascending ys x later)
]

-- It has no other numbers.
pub ascending-Contains : (xs : List ℕ) (x : ℕ) → Contains (ascending xs) x → Contains xs x
ascending-Contains [] x has = has
ascending-Contains (y ∷ ys) x has = elim (with_slot-cases y (ascending ys) x has) [
  | inl same ↦ subst (λ (k : ℕ). Contains (y ∷ ys) k) same (Contains-here y ys)
  | inr later ↦ Contains-there y ys x (ascending-Contains ys x later)
]

-- A list of numbers below a bound ascends once it is put in order.
pub Ascends-ascending : (high : ℕ) (xs : List ℕ) → ((x : ℕ) → Contains xs x → x < high)
    → Ascends 0 high (ascending xs)
Ascends-ascending high [] below = tt
Ascends-ascending high (x ∷ xs) below =
    Ascends-with_slot 0 high x (ascending xs) (omega arith) (below x (Contains-here x xs))
    (Ascends-ascending high xs (λ y has. below y (Contains-there x xs y has)))

-- A filter keeps an ascending list ascending.
pub Ascends-filter : (test : ℕ → Bool) (low high : ℕ) (xs : List ℕ) → Ascends low high xs
    → Ascends low high (filter test xs)
Ascends-filter test low high [] asc = tt
Ascends-filter test low high (x ∷ xs) asc =
    elim (test x) as (λ v. Ascends low high (cond v (x ∷ filter test xs) (filter test xs))) [
      | true ↦ (asc.0, asc.1, Ascends-filter test (x + 1) high xs asc.2)
      | false ↦ Ascends-wider (x + 1) high low high (filter test xs) (omega (arith, asc.0))
          (omega arith) (Ascends-filter test (x + 1) high xs asc.2)
    ]
