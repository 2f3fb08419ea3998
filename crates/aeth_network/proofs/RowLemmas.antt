-- The rows of a session before any word has landed, one by one.
use Rattle.std.proofs.Common.{◌≡◌, ◌<◌, ◌+◌, ◌∙◌, ◌++◌, ℕ, zero, suc, List, [], ◌∷◌, Some, ap}
use Rattle.std.proofs.Common.{arith, drop, map, refl, slice_get, sym, take, flat_map, slice_index}
use Rattle.std.proofs.lemmas.{List.flat_map_more, Option.same_Some}
use Rattle.std.specs.List.{range_with_len}
use Rattle.aeth_base.proofs.Ranges.{range_with_len-more}
use Rattle.aeth_report.specs.Channels.{channels_of, channels_with}
use Rattle.aeth_server.specs.Progress.{Progress, after_word, progress_of}

-- An element behind the first ones, among so many.
pub get-behind : {X : Type 0} (xs : List X) (before count place : ℕ) (x : X)
    → slice_get xs (before + place) ≡ Some x → place < count
    → slice_get (take count (drop before xs)) place ≡ Some x
get-behind [] before count place x at within = absurd (cc at)
get-behind (y ∷ ys) zero zero place x at within = absurd (omega arith)
get-behind (y ∷ ys) zero (suc count) zero x at within = at
get-behind (y ∷ ys) zero (suc count) (suc place) x at within =
    get-behind ys zero count place x
    (let same : zero + suc place ≡ suc (zero + place) = omega arith in rw same at at)
    (omega arith)
get-behind (y ∷ ys) (suc before) count place x at within =
    get-behind ys before count place x
    (let same : suc before + place ≡ suc (before + place) = omega arith in rw same at at) within

-- What a function makes of an element, in the list that it makes of all.
pub index-map : {X : Type 0} (f : X → ℕ) (xs : List X) (k : ℕ) (x : X) → slice_get xs k ≡ Some x
    → slice_index (map f xs) k ≡ f x
index-map f [] k x at = absurd (cc at)
index-map f (y ∷ ys) zero x at = ap f (same_Some y x at)
index-map f (y ∷ ys) (suc k) x at = index-map f ys k x at

-- One word more is due.
pub due-more : (size rate latency : ℕ) (arrivals : List ℕ) (i arrival : ℕ) (now new : Progress)
    → now ≡ progress_of size rate latency arrivals i → slice_index arrivals i ≡ arrival
    → new ≡ after_word now arrival → new ≡ progress_of size rate latency arrivals (i + 1)
due-more size rate latency arrivals i arrival now new is here to =
    let next : i + 1 ≡ suc i = omega arith in
    rw (to, is, next, ← here) refl

-- The channels of one connection more.
pub channels_of-more : (n : ℕ) → channels_of (n + 1) ≡ channels_of n ++ channels_with n
channels_of-more n =
    let more = range_with_len-more 0 n n (omega arith) in
    let next : n + 1 ≡ suc n = omega arith in
    let split = flat_map_more channels_with [] (range_with_len 0 n) n in
    rw next (ap (flat_map channels_with) more ∙ sym split)
