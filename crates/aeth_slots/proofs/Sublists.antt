-- Laws of `sublists`: the sublists of an ascending list are the ascending lists of its numbers.
use Rattle.std.proofs.Common.{ℕ, ◌+◌, ◌<◌, ◌≤◌, ◌≡◌, ◌⊎◌, List, [], ◌∷◌, length, map, Contains, sym}
use Rattle.std.proofs.Common.{ap, subst, inl, inr, arith}
use Rattle.std.proofs.lemmas.List.Elements.{Contains-append_left, Contains-append_right}
use Rattle.std.proofs.lemmas.List.Elements.{Contains-append_cases}
use Rattle.aeth_slots.specs.{SlotSet.Ascends, Choice.sublists}
use Rattle.aeth_slots.proofs.Ascending.{Ascends-bounds, Ascends-wider}
use Rattle.aeth_base.proofs.Members.{Contains-nil, Contains-here, Contains-there, Contains-cases}
use Rattle.aeth_base.proofs.Members.{Contains-map, map-Contains}

-- A sublist has the head and a sublist of the rest, or is a sublist of the rest.
pub sublists-cases : (x : ℕ) (xs zs : List ℕ) → Contains (sublists (x ∷ xs)) zs
    → ((ys : List ℕ) × (x ∷ ys ≡ zs) × Contains (sublists xs) ys) ⊎ Contains (sublists xs) zs
sublists-cases x xs zs has =
    elim (Contains-append_cases (map (λ ys. x ∷ ys) (sublists xs)) (sublists xs) zs has) [
      | inl with_head ↦ inl (map-Contains (λ ys. x ∷ ys) (sublists xs) zs with_head)
      | inr without ↦ inr without
    ]

-- The head before a sublist of the rest is a sublist.
pub sublists-with : (x : ℕ) (xs ys : List ℕ) → Contains (sublists xs) ys
    → Contains (sublists (x ∷ xs)) (x ∷ ys)
sublists-with x xs ys has =
    Contains-append_left (map (λ zs. x ∷ zs) (sublists xs)) (sublists xs) (x ∷ ys)
    (Contains-map (λ zs. x ∷ zs) (sublists xs) ys has)

-- A sublist of the rest is a sublist.
pub sublists-without : (x : ℕ) (xs ys : List ℕ) → Contains (sublists xs) ys
    → Contains (sublists (x ∷ xs)) ys
sublists-without x xs ys has =
    Contains-append_right (map (λ zs. x ∷ zs) (sublists xs)) (sublists xs) ys has

-- A list is a sublist of itself.
pub sublists-itself : (xs : List ℕ) → Contains (sublists xs) xs
sublists-itself [] = Contains-here [] []
sublists-itself (x ∷ xs) = sublists-with x xs xs (sublists-itself xs)

only_nil : (zs : List ℕ) → Contains (sublists []) zs → [] ≡ zs
only_nil zs has =
    elim (Contains-cases [] [] zs has) [ inl same ↦ same | inr later ↦ Contains-nil later ]

-- The numbers of a sublist are in the list.
pub sublist-member : (xs zs : List ℕ) → Contains (sublists xs) zs → (z : ℕ) → Contains zs z
    → Contains xs z
sublist-member [] zs sub z has = subst (λ (k : List ℕ). Contains k z) (sym (only_nil zs sub)) has
sublist-member (x ∷ xs) zs sub z has = elim (sublists-cases x xs zs sub) [
  | inl (ys, same, rest) ↦
      elim (Contains-cases x ys z (subst (λ (k : List ℕ). Contains k z) (sym same) has)) [
        | inl here ↦ (0, omega arith, here)
        | inr later ↦ Contains-there x xs z (sublist-member xs ys rest z later)
      ]
  | inr rest ↦ Contains-there x xs z (sublist-member xs zs rest z has)
]

-- A sublist of an ascending list ascends.
pub sublist-ascends : (low high : ℕ) (xs zs : List ℕ) → Ascends low high xs
    → Contains (sublists xs) zs → Ascends low high zs
sublist-ascends low high [] zs asc sub = subst (Ascends low high) (only_nil zs sub) tt
sublist-ascends low high (x ∷ xs) zs asc sub = elim (sublists-cases x xs zs sub) [
  | inl (ys, same, rest) ↦ subst (Ascends low high) same
      (asc.0, asc.1, sublist-ascends (x + 1) high xs ys asc.2 rest)
  | inr rest ↦ Ascends-wider (x + 1) high low high zs (omega (arith, asc.0)) (omega arith)
      (sublist-ascends (x + 1) high xs zs asc.2 rest)
]

-- What is in the list above the head is in the rest.
pub above_head : (x : ℕ) (xs : List ℕ) (z : ℕ) → Contains (x ∷ xs) z → x < z → Contains xs z
above_head x xs z has above =
    elim (Contains-cases x xs z has) [ inl same ↦ absurd (omega (arith, same)) | inr later ↦ later ]

-- An ascending list of numbers of an ascending list is a sublist.
pub sublist-from_members : (low high : ℕ) (xs zs : List ℕ) → Ascends low high xs
    → Ascends low high zs
    → ((z : ℕ) → Contains zs z → Contains xs z) → Contains (sublists xs) zs
sublist-from_members low high [] [] asc asc' within = Contains-here [] []
sublist-from_members low high [] (z ∷ zs) asc asc' within =
    Contains-nil (within z (Contains-here z zs))
sublist-from_members low high (x ∷ xs) [] asc asc' within =
    sublists-without x xs []
    (sublist-from_members (x + 1) high xs [] asc.2 tt (λ z has. Contains-nil has))
sublist-from_members low high (x ∷ xs) (z ∷ zs) asc asc' within =
    let rest : (y : ℕ) → Contains zs y → Contains xs y × (z + 1 ≤ y) = λ y has.
    let above = (Ascends-bounds (z + 1) high zs asc'.2 y has).0 in
    let start : x ≤ z = elim (Contains-cases x xs z (within z (Contains-here z zs))) [
      | inl same ↦ omega arith
      | inr later ↦ (let above' = (Ascends-bounds (x + 1) high xs asc.2 z later).0 in omega arith)
    ] in
    (above_head x xs y (within y (Contains-there z zs y has)) (omega arith), above) in
    elim (Contains-cases x xs z (within z (Contains-here z zs))) [
      | inl same ↦ subst (λ (k : ℕ). Contains (sublists (x ∷ xs)) (k ∷ zs)) same
          (sublists-with x xs zs (sublist-from_members (x + 1) high xs zs asc.2
          (subst (λ (k : ℕ). Ascends (k + 1) high zs) (sym same) asc'.2) (λ y has. (rest y has).0)))
      | inr later ↦ sublists-without x xs (z ∷ zs)
          (sublist-from_members (x + 1) high xs (z ∷ zs) asc.2
          ((Ascends-bounds (x + 1) high xs asc.2 z later).0, asc'.1, asc'.2)
          (λ y has. elim (Contains-cases z zs y has)
          [ inl same ↦ subst (Contains xs) same later | inr after ↦ (rest y after).0 ]))
    ]

-- A sublist is no longer than the list.
pub sublist-length : (xs zs : List ℕ) → Contains (sublists xs) zs → length zs ≤ length xs
sublist-length [] zs sub = omega (arith, ap (λ (k : List ℕ). length k) (only_nil zs sub))
sublist-length (x ∷ xs) zs sub = elim (sublists-cases x xs zs sub) [
  | inl (ys, same, rest) ↦ let short = sublist-length xs ys rest in
      omega (arith, ap (λ (k : List ℕ). length k) same)
  | inr rest ↦ let short = sublist-length xs zs rest in omega arith
]

-- A sublist as long as the list is the list.
pub sublist-whole : (xs zs : List ℕ) → Contains (sublists xs) zs → length xs ≤ length zs → xs ≡ zs
sublist-whole [] zs sub long = only_nil zs sub
sublist-whole (x ∷ xs) zs sub long = elim (sublists-cases x xs zs sub) [
  | inl (ys, same, rest) ↦
      let rests : xs ≡ ys =
      sublist-whole xs ys rest (omega (arith, ap (λ (k : List ℕ). length k) same)) in cc
  | inr rest ↦ let short = sublist-length xs zs rest in absurd (omega arith)
]
