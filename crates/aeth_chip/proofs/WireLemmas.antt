-- Laws of wires: how many there are, and that those of different links differ.
use Rattle.std.proofs.Common.{◌≡◌, ◌≢◌, ◌≤◌, ◌<◌, ◌+◌, ◌-◌, ◌*◌, ℕ, zero, suc, List, [], ◌∷◌}
use Rattle.std.proofs.Common.{Option, Some, None, length, take, refl, arith, ap, inl, inr}
use Rattle.std.proofs.Common.{slice_get, sum_by}
use Rattle.std.proofs.lemmas.{Bool.cases_lt, List.Sums.sum_by-cons, Option.same_Some}
use Rattle.aeth_base.specs.{Limits.max_link_delay, declared.ids.LinkId.LinkId}
use Rattle.aeth_chip.specs.{Chip.ChipData, Chip.IsChip, Paths.delay_in, Paths.delay_of}
use Rattle.aeth_chip.specs.{Wires.HaveDelays, Wires.further_wires, Wires.wire_at, Wires.wires_of}
use Rattle.aeth_chip.specs.{declared.node.Link.Link}

-- The sum over one more element of a list.
pub sum_by-take_more : {X : Type 0} (f : X → ℕ) (xs : List X) (i : ℕ) (x : X)
    → slice_get xs i ≡ Some x → sum_by f (take (i + 1) xs) ≡ sum_by f (take i xs) + f x
sum_by-take_more f [] i x at = absurd (cc at)
sum_by-take_more f (first ∷ xs) zero x at =
    let same : first ≡ x = same_Some first x at in
    rw same refl
sum_by-take_more f (first ∷ xs) (suc i) x at =
    let rest = sum_by-take_more f xs i x at in
    let one = sum_by-cons f first (take i xs) in
    let more = sum_by-cons f first (take (i + 1) xs) in
    let next : suc i + 1 ≡ suc (i + 1) = omega arith in
    rw next (omega arith)

pub have_delays : (chip : ChipData) → IsChip chip → HaveDelays chip.links
have_delays chip is_chip l link at =
    ((is_chip.links l link at).takes_time, (is_chip.links l link at).within)

-- There is a wire for each link, and the further ones.
pub wires_of-split : (links : List Link) → HaveDelays links
    → wires_of links ≡ length links + further_wires links
wires_of-split [] delays = refl
wires_of-split (link ∷ links) delays =
    let rest = wires_of-split links (λ l other at. delays (suc l) other at) in
    let all = sum_by-cons (λ (k : Link). k.delay) link links in
    let further = sum_by-cons (λ (k : Link). k.delay - 1) link links in
    let takes_time = (delays 0 link refl).0 in
    omega arith

-- They are at most so many.
pub wires_of-few : (links : List Link) → HaveDelays links
    → wires_of links ≤ length links * max_link_delay
wires_of-few [] delays = omega arith
wires_of-few (link ∷ links) delays =
    let rest = wires_of-few links (λ l other at. delays (suc l) other at) in
    let all = sum_by-cons (λ (k : Link). k.delay) link links in
    let within = (delays 0 link refl).1 in
    omega arith

-- The further wires of the links up to one are among all.
pub further_wires-within : (links : List Link) (l : ℕ) (link : Link) → slice_get links l ≡ Some link
    → further_wires (take l links) + (link.delay - 1) ≤ further_wires links
further_wires-within [] l link at = absurd (cc at)
further_wires-within (first ∷ links) zero link at =
    let same : first ≡ link = same_Some first link at in
    let all = sum_by-cons (λ (k : Link). k.delay - 1) first links in
    rw (← same) (omega arith)
further_wires-within (first ∷ links) (suc l) link at =
    let rest = further_wires-within links l link at in
    let all = sum_by-cons (λ (k : Link). k.delay - 1) first links in
    let front = sum_by-cons (λ (k : Link). k.delay - 1) first (take l links) in
    omega arith

-- A wire behind a link, by its place.
pub wire_at-behind : (links : List Link) (l place : ℕ) → place ≢ 0
    → wire_at links l place ≡ length links + further_wires (take l links) + (place - 1)
wire_at-behind links l zero behind = absurd (behind refl)
wire_at-behind links l (suc place) behind =
    let same : suc place - 1 ≡ place = omega arith in
    rw same refl

-- The wires of a link are among those of the chip.
pub wire_at-below : (links : List Link) → HaveDelays links → (l place : ℕ) (link : Link)
    → slice_get links l ≡ Some link → l < length links → place < link.delay
    → wire_at links l place < wires_of links
wire_at-below links delays l zero link at within short =
    let split = wires_of-split links delays in
    omega arith
wire_at-below links delays l (suc place) link at within short =
    let split = wires_of-split links delays in
    let among = further_wires-within links l link at in
    omega arith

-- A link that is there, by its number.
wire_found : (chip : ChipData) → IsChip chip → (link : LinkId) (place : ℕ) (found : Option Link)
    → slice_get chip.links link.0 ≡ found → link.0 < length chip.links → place < delay_in found
    → wire_at chip.links link.0 place < wires_of chip.links
wire_found chip is_chip link place None at within short = absurd (omega arith)
wire_found chip is_chip link place (Some found) at within short =
    wire_at-below chip.links (have_delays chip is_chip) link.0 place found at within short

-- The wires of a link of a chip are among the chip's.
pub wire_in_chip : (chip : ChipData) → IsChip chip → (link : LinkId) (place : ℕ)
    → link.0 < length chip.links → place < delay_of chip.links link
    → wire_at chip.links link.0 place < wires_of chip.links
wire_in_chip chip is_chip link place within short =
    wire_found chip is_chip link place (slice_get chip.links link.0) refl within short

-- The further wires of a link come before those of each later one.
further_wires-before : (links : List Link) (l m : ℕ) (link : Link)
    → slice_get links l ≡ Some link → l < m
    → further_wires (take l links) + (link.delay - 1) ≤ further_wires (take m links)
further_wires-before [] l m link at less = absurd (cc at)
further_wires-before (first ∷ links) l zero link at less = absurd (omega arith)
further_wires-before (first ∷ links) zero (suc m) link at less =
    let same : first ≡ link = same_Some first link at in
    let all = sum_by-cons (λ (k : Link). k.delay - 1) first (take m links) in
    rw (← same) (omega arith)
further_wires-before (first ∷ links) (suc l) (suc m) link at less =
    let rest = further_wires-before links l m link at (omega arith) in
    let front = sum_by-cons (λ (k : Link). k.delay - 1) first (take l links) in
    let all = sum_by-cons (λ (k : Link). k.delay - 1) first (take m links) in
    omega arith

-- Wires of two links, by the links, are one only where the links and the places are.
wires_apart : (links : List Link) → (l m i j : ℕ) (link other : Link)
    → slice_get links l ≡ Some link → slice_get links m ≡ Some other
    → l < length links → m < length links → i < link.delay → j < other.delay
    → wire_at links l i ≡ wire_at links m j → (l ≡ m) × (i ≡ j)
wires_apart links l m zero zero link other here there first second short long same = (same, refl)
wires_apart links l m zero (suc j) link other here there first second short long same =
    absurd (omega arith)
wires_apart links l m (suc i) zero link other here there first second short long same =
    absurd (omega arith)
wires_apart links l m (suc i) (suc j) link other here there first second short long same =
    elim (cases_lt l m) [
      | inl less ↦
          let before = further_wires-before links l m link here less in
          absurd (omega arith)
      | inr not_less ↦ elim (cases_lt m l) [
        | inl less ↦
            let before = further_wires-before links m l other there less in
            absurd (omega arith)
        | inr no_less ↦
            let one : l ≡ m = omega arith in
            let furthers = ap (λ k. further_wires (take k links)) one in
            (one, omega arith)
      ]
    ]

found_apart : (links : List Link) (l m : LinkId) (i j : ℕ) (here there : Option Link)
    → slice_get links l.0 ≡ here → slice_get links m.0 ≡ there
    → l.0 < length links → m.0 < length links → i < delay_in here → j < delay_in there
    → wire_at links l.0 i ≡ wire_at links m.0 j → (l.0 ≡ m.0) × (i ≡ j)
found_apart links l m i j None there at also first second short long same = absurd (omega arith)
found_apart links l m i j (Some link) None at also first second short long same =
    absurd (omega arith)
found_apart links l m i j (Some link) (Some other) at also first second short long same =
    wires_apart links l.0 m.0 i j link other at also first second short long same

-- No two wires of links are one.
pub wire_at-apart : (links : List Link) (l m : LinkId) (i j : ℕ)
    → l.0 < length links → m.0 < length links → i < delay_of links l → j < delay_of links m
    → wire_at links l.0 i ≡ wire_at links m.0 j → (l.0 ≡ m.0) × (i ≡ j)
wire_at-apart links l m i j first second short long same =
    found_apart links l m i j (slice_get links l.0) (slice_get links m.0) refl refl first second
    short long same
