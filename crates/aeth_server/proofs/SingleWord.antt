-- A single word: some slot comes within the gap of the slots, and the word goes in it.
use Rattle.std.proofs.Common.{◌&&◌, ℕ, ◌+◌, ◌-◌, ◌%◌, ◌<◌, ◌≤◌, ◌≡◌, ◌⊎◌, ◌∙◌, zero, suc, Bool}
use Rattle.std.proofs.Common.{true, cond, ltb, List, [], ◌∷◌, length, Contains, sym, refl, ap, inl}
use Rattle.std.proofs.Common.{inr, arith, lt-ltb}
use Rattle.std.proofs.Math.Nat.{mod-eq_of_lt, add-mod_right}
use Rattle.std.proofs.lemmas.Bool.{cases_lt}
use Rattle.std.specs.List.Sorted.{IsNonDecreasing}
use Rattle.aeth_slots.specs.SlotSet.{Ascends, distances, greatest, gap_of}
use Rattle.aeth_server.specs.{SlotCycles.is_slot, Shape.HasPaths, PrivateServer.PrivateServer}
use Rattle.aeth_server.specs.{PrivateServer.accepted, PrivateServer.arrived, PrivateServer.sent}
use Rattle.aeth_server.specs.{PrivateServer.landed, Landing.WaitsAlone}
use Rattle.aeth_server.proofs.SlotCycleLemmas.{is_slot-same, is_slot-member, same_slot-later}
use Rattle.aeth_server.proofs.FinishTimeLemmas.{arrivals_before-more, arrived-after}
use Rattle.aeth_server.proofs.PrivateServerLemmas.{words_ready, sent-next, sent-more, credited-more}
use Rattle.aeth_server.proofs.CreditLoop.{accepted-order}

-- ---- a slot within the gap
-- a member, or the end, comes within the gap from s on.
record IsNear (xs : List ℕ) (end gap s : ℕ) : Type 0 where
  place : ℕ
  member : Contains xs place ⊎ (place ≡ end)
  from : s ≤ place
  by : place < s + gap

near-ahead : (end gap x s : ℕ) (xs : List ℕ) → greatest (distances x xs end) ≤ gap → x < s → s ≤ end
    → IsNear xs end gap s
near-ahead end gap x s [] wide after before =
    record { place = end; member = inr refl; from = before; by = omega arith }
near-ahead end gap x s (y ∷ ys) wide after before = elim (cases_lt y s) [
  | inr here ↦
      record { place = y; member = inl (0, omega arith, refl); from = here; by = omega arith }
  | inl past ↦
      let rest = near-ahead end gap y s ys (omega arith) past before in
      record {
        place = rest.place;
        member = elim rest.member [
          | inl (k, low, is) ↦ inl (suc k, omega arith, is)
          | inr last ↦ inr last
        ];
        from = rest.from;
        by = rest.by;
      }
]

-- Some slot comes within the gap, from cycle a on.
pub record HasSlot (size : ℕ) (slots : List ℕ) (a gap : ℕ) : Type 0 where
  pub cycle : ℕ
  pub from : a ≤ cycle
  pub by : cycle < a + gap
  pub slot : is_slot size slots cycle ≡ true

-- A slot at a place of the table, or in the next turn, is one as many cycles after a cycle there.
slot-at : (size : ℕ) (slots : List ℕ) (a s place : ℕ) → s % size ≡ a % size → s ≤ place
    → is_slot size slots place ≡ true → is_slot size slots (a + (place - s)) ≡ true
slot-at size slots a s place same after is =
    let whole : s + (place - s) ≡ place = omega arith in
    let turned = sym (same_slot-later size s a (place - s) same) ∙ ap (λ n. n % size) whole in
    is_slot-same size slots (a + (place - s)) place turned ∙ is

-- The members of an ascending list are below its end.
below-high : (low high x : ℕ) (xs : List ℕ) → Ascends low high xs → Contains xs x → x < high
below-high low high x [] ascends (k, within, is) = absurd (omega arith)
below-high low high x (y ∷ ys) ascends (zero, within, is) = omega (arith, ascends.1, is)
below-high low high x (y ∷ ys) ascends (suc k, within, is) =
    below-high (y + 1) high x ys ascends.2 (k, omega arith, is)

-- A member is a slot.
member-slot : (size : ℕ) (slots : List ℕ) (x : ℕ) → Ascends 0 size slots → Contains slots x
    → is_slot size slots x ≡ true
member-slot size slots x ascends has =
    let low = mod-eq_of_lt (below-high 0 size x slots ascends has) in
    is_slot-member size slots x (rw low has)

module _ (size first : ℕ) (rest : List ℕ) (gap : ℕ) (ascends : Ascends 0 size (first ∷ rest))
    (wide : gap_of (record { size = size; slots = first ∷ rest }) ≤ gap) where
  abbrev slots : List ℕ
  slots = first ∷ rest

  -- from a place after the first slot, up to that slot in the next turn
  slot-from : (a s : ℕ) → s % size ≡ a % size → first < s → s ≤ first + size
      → HasSlot size slots a gap
  slot-from a s same after before =
      let near = near-ahead (first + size) gap first s rest wide after before in
      let is : is_slot size slots near.place ≡ true = elim near.member [
        | inl (k, low, at) ↦ member-slot size slots near.place ascends (suc k, omega arith, at)
        | inr last ↦
            let turned = ap (λ n. n % size) last ∙ add-mod_right first size in
            is_slot-same size slots near.place first turned
            ∙ member-slot size slots first ascends (0, omega arith, refl)
      ] in
      record {
        cycle = a + (near.place - s);
        from = omega arith;
        by = omega (arith, near.from, near.by);
        slot = slot-at size slots a s near.place same near.from is;
      }

  slot-within : (a : ℕ) → HasSlot size slots a gap
  slot-within a =
      let some : 0 < size = omega (arith, ascends.1) in
      let low : a % size < size = omega arith in
      let here = mod-eq_of_lt low in
      elim (cases_lt first (a % size)) [
        | inl after ↦ slot-from a (a % size) here after (omega arith)
        | inr before ↦
            slot-from a (a % size + size) (add-mod_right (a % size) size ∙ here)
            (omega (arith, ascends.1)) (omega arith)
      ]

-- Some slot comes within the gap.
pub has-slot : (size : ℕ) (slots : List ℕ) (a gap : ℕ) → Ascends 0 size slots → 1 ≤ length slots
    → gap_of (record { size = size; slots = slots }) ≤ gap → HasSlot size slots a gap
has-slot size [] a gap ascends some wide = absurd (omega arith)
has-slot size (first ∷ rest) a gap ascends some wide =
    slot-within size first rest gap ascends wide a

-- ---- the word
cond-open : (may slot : Bool) (n : ℕ) → may ≡ true → slot ≡ true → cond (may && slot) n 0 ≡ n
cond-open may slot n may_is slot_is = rw (may_is, slot_is) refl

-- A word that waits alone lands within the latency.
pub lands-alone : (server : PrivateServer) → HasPaths server.shape
    → Ascends 0 server.shape.size server.shape.slots → IsNonDecreasing server.offers
    → (need i a latency : ℕ) → WaitsAlone server need i a latency
    → i ≤ landed server (a + latency + 1)
lands-alone server paths ascends order need i a latency is =
    let near = has-slot server.shape.size server.shape.slots a
    (latency + 1 - server.shape.path_delay) ascends is.suitable.some is.suitable.near in
    let number : (i - 1) + 1 ≡ i = omega (arith, is.least) in
    let offered = ap (λ n. arrived server (n + 1)) is.offered in
    let within : i - 1 < length (accepted server) = omega (arith, is.least, is.most) in
    let came = arrived-after (accepted server) (i - 1) (accepted-order server order) within in
    let later : a + 1 ≤ suc near.cycle = omega (arith, near.from) in
    let still = arrivals_before-more (accepted server) (a + 1) (suc near.cycle) later in
    let credits = credited-more server paths (a + 1 - server.shape.back_path_delay)
    (suc near.cycle - server.shape.back_path_delay) (omega (arith, near.from)) in
    let before = sent-more server paths a near.cycle near.from in
    let may = lt-ltb near.cycle server.stop (omega (arith, near.by, is.in_time)) in
    let next = sent-next server paths near.cycle in
    let goes = cond-open (ltb near.cycle server.stop)
    (is_slot server.shape.size server.shape.slots near.cycle)
    (words_ready server paths near.cycle) may near.slot in
    let done : i ≤ sent server (suc near.cycle) =
    omega (arith, came, offered, still, credits, before, next, goes, is.alone, is.credit, number) in
    let after = sent-more server paths (suc near.cycle)
    (a + latency + 1 - server.shape.path_delay) (omega (arith, near.by)) in
    omega (arith, done, after)
