-- What may be known of offsets and delays: the offset of place 0 is 0, each further one adds a
-- link's delay, and a delay is at least 1 and at most the greatest.
use Rattle.std.proofs.Common.{◌≡◌, ◌≤◌, ◌<◌, ◌+◌, ◌*◌, ◌∙◌, ℕ, zero, suc, List, [], ◌∷◌, Option}
use Rattle.std.proofs.Common.{None, Some, length, take, refl, ap, arith, slice_get}
use Rattle.std.proofs.lemmas.{List.Sums.sum_by-cons, Option.same_Some, Option.slice_get-get_or}
use Rattle.std.proofs.Math.Seq.{take-length}
use Rattle.aeth_base.specs.{declared.ids.LinkId.LinkId, Limits.max_link_delay}
use Rattle.aeth_chip.specs.declared.node.{Link.Link, Node.TheVariants.Router}
use Rattle.aeth_chip.specs.Chip.{ChipData, IsChip}
use Rattle.aeth_chip.specs.Paths.{delay_in, delay_of, offset, path_delay}

-- A flit enters the first link at once.
pub offset-zero : (links : List Link) (path : List LinkId) → offset links path 0 ≡ 0
offset-zero links [] = refl
offset-zero links (l ∷ path) = refl

-- The delay of a path with a further link in front.
path_delay-cons : (links : List Link) (l : LinkId) (path : List LinkId)
    → path_delay links (l ∷ path) ≡ delay_of links l + path_delay links path
path_delay-cons links l path = sum_by-cons (delay_of links) l path

-- The offset of a place behind a first link.
pub offset-behind : (links : List Link) (after : ℕ) (first : LinkId) (path : List LinkId) (place : ℕ)
    → after + offset links (first ∷ path) (suc place)
    ≡ (after + delay_of links first) + offset links path place
offset-behind links after first path place =
    omega (arith, sum_by-cons (delay_of links) first (take place path))

-- Each further offset adds the delay of the link before.
pub offset-more : (links : List Link) (path : List LinkId) (i : ℕ) (l : LinkId)
    → slice_get path i ≡ Some l → offset links path (i + 1) ≡ offset links path i + delay_of links l
offset-more links [] i l at = absurd (cc at)
offset-more links (first ∷ path) zero l at =
    let same : first ≡ l = same_Some first l at in
    rw same refl
offset-more links (first ∷ path) (suc i) l at =
    let rest = offset-more links path i l at in
    let one = path_delay-cons links first (take i path) in
    let more = path_delay-cons links first (take (i + 1) path) in
    let next : suc i + 1 ≡ suc (i + 1) = omega arith in
    rw next (omega arith)

-- Each further offset adds the delay of this link.
pub offset_step : (links : List Link) (path : List LinkId) (i : ℕ) (l : LinkId) (link : Link)
    → slice_get path i ≡ Some l → slice_get links l.0 ≡ Some link
    → offset links path (i + 1) ≡ offset links path i + link.delay
offset_step links path i l link at is =
    let delay : delay_of links l ≡ link.delay = rw is refl in
    offset-more links path i l at ∙ ap (λ d. offset links path i + d) delay

-- At the end of a path the offset is the path's delay.
pub offset_all : (links : List Link) (path : List LinkId)
    → offset links path (length path) ≡ path_delay links path
offset_all links path = ap (path_delay links) (take-length path)

nowhere : Link
nowhere = record { from = Router (record { 0 = 0 }); to = Router (record { 0 = 0 }); delay = 0 }

-- A link that is there takes its delay.
delay_of-is : (chip : ChipData) (link : LinkId) (found : Option Link) → IsChip chip
    → slice_get chip.links link.0 ≡ found → link.0 < length chip.links
    → (1 ≤ delay_in found) × (delay_in found ≤ max_link_delay)
delay_of-is chip link None is_chip is within =
    absurd (cc (slice_get-get_or chip.links link.0 nowhere within, is))
delay_of-is chip link (Some l) is_chip is within =
    let of = is_chip.links link.0 l is in
    (of.takes_time, of.within)

-- A link of a chip takes at least a cycle, and at most the greatest delay.
pub delay_of-range : (chip : ChipData) (link : LinkId) → IsChip chip
    → link.0 < length chip.links
    → (1 ≤ delay_of chip.links link) × (delay_of chip.links link ≤ max_link_delay)
delay_of-range chip link is_chip within =
    delay_of-is chip link (slice_get chip.links link.0) is_chip refl within

-- A link that isn't there takes no time, and one that is at most the greatest delay.
delay_most : (chip : ChipData) (found : Option Link) (l : ℕ) → IsChip chip
    → slice_get chip.links l ≡ found → delay_in found ≤ max_link_delay
delay_most chip None l is_chip is = omega arith
delay_most chip (Some link) l is_chip is = (is_chip.links l link is).within

-- The offset of a place is at most the greatest delay for each link before it.
pub offset-most : (chip : ChipData) → IsChip chip → (path : List LinkId) (i : ℕ)
    → offset chip.links path i ≤ i * max_link_delay
offset-most chip is_chip [] zero = omega arith
offset-most chip is_chip [] (suc i) =
    let none : offset chip.links [] (suc i) ≡ 0 = refl in
    omega arith
offset-most chip is_chip (l ∷ path) zero = omega arith
offset-most chip is_chip (l ∷ path) (suc i) =
    let rest = offset-most chip is_chip path i in
    let one = path_delay-cons chip.links l (take i path) in
    let within = delay_most chip (slice_get chip.links l.0) l.0 is_chip refl in
    omega arith
