-- Lists whose elements are changed by their numbers.
use Rattle.std.proofs.Common.{◌≡◌, ◌≢◌, ◌≤◌, ◌<◌, ◌+◌, ◌++◌, ℕ, zero, suc, List, [], ◌∷◌, Some, ap}
use Rattle.std.proofs.Common.{arith, drop, get_or, length, map, refl, replicate, set, slice_get}
use Rattle.std.proofs.Common.{take}
use Rattle.aeth_network.specs.ByNumber.{each_by}

module _ {X : Type 0} (f : ℕ → X → X) where
  -- Each one is changed.
  get_at : (m : ℕ) (xs : List X) (i : ℕ) (default : X) → i < length xs
      → get_or (each_by f m xs) i default ≡ f (m + i) (get_or xs i default)
  get_at m [] i default within = absurd (omega arith)
  get_at m (x ∷ xs) zero default within =
      let same : m + 0 ≡ m = omega arith in
      rw same refl
  get_at m (x ∷ xs) (suc i) default within =
      let same : m + suc i ≡ suc m + i = omega arith in
      rw same (get_at (suc m) xs i default (omega arith))

  pub get-each : (xs : List X) (i : ℕ) (default : X) → i < length xs
      → get_or (each_by f 0 xs) i default ≡ f i (get_or xs i default)
  get-each xs i default within =
      let here : 0 + i ≡ i = omega arith in
      rw here at (get_at 0 xs i default within)

  -- None is, where the change of each is none.
  pub each-same : (m : ℕ) (xs : List X) → ((k : ℕ) (x : X) → f k x ≡ x) → each_by f m xs ≡ xs
  each-same m [] same = refl
  each-same m (x ∷ xs) same =
      rw (same m x) (ap (λ (rest : List X). x ∷ rest) (each-same (suc m) xs same))

  -- One more is changed.
  next_at : (m : ℕ) (xs : List X) (i : ℕ) (default : X) → i < length xs
      → set (each_by f m (take i xs) ++ drop i xs) i
      (f (m + i) (get_or (each_by f m (take i xs) ++ drop i xs) i default))
      ≡ each_by f m (take (suc i) xs) ++ drop (suc i) xs
  next_at m [] i default within = absurd (omega arith)
  next_at m (x ∷ xs) zero default within =
      let same : m + 0 ≡ m = omega arith in
      rw same refl
  next_at m (x ∷ xs) (suc i) default within =
      let same : m + suc i ≡ suc m + i = omega arith in
      rw same (ap (λ (rest : List X). f m x ∷ rest) (next_at (suc m) xs i default (omega arith)))

  pub each-next : (xs now : List X) (i : ℕ) (default next : X) → i < length xs
      → now ≡ each_by f 0 (take i xs) ++ drop i xs → next ≡ f i (get_or now i default)
      → set now i next ≡ each_by f 0 (take (i + 1) xs) ++ drop (i + 1) xs
  each-next xs now i default next within is to =
      let more : i + 1 ≡ suc i = omega arith in
      let here : 0 + i ≡ i = omega arith in
      rw (to, is, more) (rw here at (next_at 0 xs i default within))

module _ {X : Type 0} (f g : ℕ → X → X) where
  -- Two changes that are one for each number.
  pub each-alike : (m : ℕ) (xs : List X)
      → ((k : ℕ) → m ≤ k → k < m + length xs → (x : X) → f k x ≡ g k x)
      → each_by f m xs ≡ each_by g m xs
  each-alike m [] alike = refl
  each-alike m (x ∷ xs) alike =
      rw (alike m (omega arith) (omega arith) x)
      (ap (λ (rest : List X). g m x ∷ rest)
      (each-alike (suc m) xs (λ k least within. alike k (omega arith) (omega arith))))

  -- Changes that differ at one number only.
  set_at : (m : ℕ) (xs : List X) (i : ℕ) (default : X) → i < length xs
      → ((k : ℕ) → k ≢ m + i → (x : X) → f k x ≡ g k x)
      → set (each_by f m xs) i (g (m + i) (get_or xs i default)) ≡ each_by g m xs
  set_at m [] i default within alike = absurd (omega arith)
  set_at m (x ∷ xs) zero default within alike =
      let same : m + 0 ≡ m = omega arith in
      rw same (ap (λ (rest : List X). g m x ∷ rest)
      (each-alike (suc m) xs (λ k least most. alike k (omega arith))))
  set_at m (x ∷ xs) (suc i) default within alike =
      let same : m + suc i ≡ suc m + i = omega arith in
      rw (same, alike m (omega arith) x)
      (ap (λ (rest : List X). g m x ∷ rest)
      (set_at (suc m) xs i default (omega arith) (λ k apart. alike k (omega arith))))

  pub each-set : (xs now : List X) (i : ℕ) (default next : X) → i < length xs
      → now ≡ each_by f 0 xs
      → next ≡ g i (get_or xs i default)
      → ((k : ℕ) → k ≢ i → (x : X) → f k x ≡ g k x)
      → set now i next ≡ each_by g 0 xs
  each-set xs now i default next within is to alike =
      let here : 0 + i ≡ i = omega arith in
      rw (to, is) (rw here at (set_at 0 xs i default within (λ k apart. alike k (omega arith))))

  -- One change behind another.
  pub each-twice : (h : ℕ → X → X) (m : ℕ) (xs : List X)
      → ((k : ℕ) → k < m + length xs → (x : X) → g k (f k x) ≡ h k x)
      → each_by g m (each_by f m xs) ≡ each_by h m xs
  each-twice h m [] both = refl
  each-twice h m (x ∷ xs) both =
      rw (both m (omega arith) x)
      (ap (λ (rest : List X). h m x ∷ rest)
      (each-twice h (suc m) xs (λ k within. both k (omega arith))))

-- Elements that are made from others, which have these numbers.
pub each-map : {X Y : Type 0} (f : ℕ → X → X) (g h : Y → X) (m : ℕ) (ys : List Y)
    → ((k : ℕ) (y : Y) → slice_get ys k ≡ Some y → f (m + k) (g y) ≡ h y)
    → each_by f m (map g ys) ≡ map h ys
each-map f g h m [] each = refl
each-map {X} f g h m (y ∷ ys) each =
    let same : m + 0 ≡ m = omega arith in
    let first : f m (g y) ≡ h y = rw same at (each 0 y refl) in
    rw first (ap (λ (rest : List X). h y ∷ rest)
    (each-map f g h (suc m) ys (λ k z there.
    let next : m + suc k ≡ suc m + k = omega arith in
    rw next at (each (suc k) z there))))

-- Where each becomes the same.
pub replicate-each : {X : Type 0} (x : X) (m : ℕ) (xs : List X)
    → replicate (length xs) x ≡ each_by (λ k was. x) m xs
replicate-each x m [] = refl
replicate-each {X} x m (y ∷ ys) = ap (λ (rest : List X). x ∷ rest) (replicate-each x (suc m) ys)
