-- The sums that the index of the wires is made with, over one link more.
use Rattle.std.proofs.Common.{◌≡◌, ◌<◌, ◌≤◌, ◌+◌, ◌-◌, ◌*◌, ◌^◌, ℕ, List, Some, length, take}
use Rattle.std.proofs.Common.{slice_get, refl, ap, arith}
use Rattle.aeth_base.specs.Limits.{max_link_delay}
use Rattle.aeth_chip.specs.{Limits.max_links, Wires.HaveDelays, Wires.further_wires, Wires.wires_of}
use Rattle.aeth_chip.specs.{declared.node.Link.Link}
use Rattle.aeth_chip.proofs.WireLemmas.{sum_by-take_more}

-- The further wires and the wires of the first so many links.
pub record AreSums (links : List Link) (i further all : ℕ) : Type 0 where
  pub before : further ≡ further_wires (take i links)
  pub wires : all ≡ wires_of (take i links)
  pub few : further ≤ i * max_link_delay
  pub few_wires : all ≤ i * max_link_delay

-- Of no links both are 0.
pub sums-none : (links : List Link) → AreSums links 0 0 0
sums-none links =
    record { before = refl; wires = refl; few = omega arith; few_wires = omega arith }

more_few : (i sum delay : ℕ) → sum ≤ i * max_link_delay → delay ≤ max_link_delay
    → sum + delay ≤ (i + 1) * max_link_delay
more_few i sum delay few within = omega arith

less : (delay : ℕ) → delay ≤ max_link_delay → delay - 1 ≤ max_link_delay
less delay within = omega arith

-- They are so with one link more.
pub sums-more : (links : List Link) (i further all : ℕ) (link : Link) → HaveDelays links
    → slice_get links i ≡ Some link → AreSums links i further all
    → AreSums links (i + 1) (further + (link.delay - 1)) (all + link.delay)
sums-more links i further all link delays at sums =
    let within = (delays i link at).1 in
    record {
      before = rw (sum_by-take_more (λ (k : Link). k.delay - 1) links i link at)
          (ap (λ n. n + (link.delay - 1)) sums.before);
      wires = rw (sum_by-take_more (λ (k : Link). k.delay) links i link at)
          (ap (λ n. n + link.delay) sums.wires);
      few = more_few i further (link.delay - 1) sums.few (less link.delay within);
      few_wires = more_few i all link.delay sums.few_wires within;
    }

small : (i count sum delay : ℕ) → i < count → count ≤ max_links → sum ≤ i * max_link_delay
    → delay ≤ max_link_delay → sum + delay < 2 ^ 32
small i count sum delay within few fits most = omega arith

-- They stay small.
pub further-fits : (links : List Link) (i further all : ℕ) (link : Link) → HaveDelays links
    → length links ≤ max_links → i < length links → slice_get links i ≡ Some link
    → AreSums links i further all → further + (link.delay - 1) < 2 ^ 32
further-fits links i further all link delays few within at sums =
    small i (length links) further (link.delay - 1) within few sums.few
    (less link.delay (delays i link at).1)

pub wires-fit : (links : List Link) (i further all : ℕ) (link : Link) → HaveDelays links
    → length links ≤ max_links → i < length links → slice_get links i ≡ Some link
    → AreSums links i further all → all + link.delay < 2 ^ 32
wires-fit links i further all link delays few within at sums =
    small i (length links) all link.delay within few sums.few_wires (delays i link at).1
