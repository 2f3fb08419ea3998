-- Laws of the marks of slots: one that comes in one slot, and one that goes.
use Rattle.std.proofs.Common.{ℕ, ◌≡◌, ◌≢◌, ◌<◌, ◌≤◌, ◌^◌, ◌∙◌, sym, ap, arith, inl, inr, List, []}
use Rattle.std.proofs.Common.{length, length-set, set, get_or, get_or-set_other, get_or-set_same}
use Rattle.std.proofs.lemmas.{Bool.cases_eq, List.get_or_default}
use Rattle.std.specs.List.{All}
use Rattle.aeth_base.specs.Marks.{bit_of, room_of}
use Rattle.aeth_components.specs.SlotMarks.{AreFilled, MarksLess, MarksMore, marks_at}

-- One has come in one slot.
pub MarksMore-set : (number slot : ℕ) (old : List (List ℕ)) (marks new : List ℕ) → slot < length old
    → marks ≡ get_or old slot marks → room_of new ≡ room_of marks → bit_of new number ≡ 1
    → ((other : ℕ) → other ≢ number → bit_of new other ≡ bit_of marks other)
    → MarksMore number old (set old slot new)
MarksMore-set number slot old marks new within read room here away =
    let before : marks ≡ marks_at old slot = read ∙ get_or_default old slot marks [] within in
    let now : marks_at (set old slot new) slot ≡ new = get_or-set_same old slot new [] within in
    let own : (other at : ℕ) → at ≡ slot
    → bit_of (marks_at (set old slot new) at) other ≡ bit_of new other =
    λ other at same.
    ap (λ n. bit_of (marks_at (set old slot new) n) other) same ∙ ap (λ (marks : List ℕ). bit_of marks other) now in
    let was : (other at : ℕ) → at ≡ slot → bit_of (marks_at old at) other ≡ bit_of marks other =
    λ other at same.
    ap (λ n. bit_of (marks_at old n) other) same ∙ ap (λ (marks : List ℕ). bit_of marks other) (sym before) in
    let apart : (other at : ℕ) → at ≢ slot
    → bit_of (marks_at (set old slot new) at) other ≡ bit_of (marks_at old at) other =
    λ other at away. ap (λ (marks : List ℕ). bit_of marks other) (get_or-set_other old slot at new [] away) in
    record {
      size = length-set old slot new;
      room = λ at. elim (cases_eq at slot) [
        | inl same ↦
            ap (λ n. room_of (marks_at (set old slot new) n)) same ∙ ap room_of now ∙ room
            ∙ ap room_of before ∙ ap (λ n. room_of (marks_at old n)) (sym same)
        | inr away ↦ ap room_of (get_or-set_other old slot at new [] away)
      ];
      kept = λ other at bit. elim (cases_eq at slot) [
        | inr away ↦ apart other at away ∙ bit
        | inl same ↦ elim (cases_eq other number) [
          | inl is ↦ own other at same ∙ ap (bit_of new) is ∙ here
          | inr isnt ↦ own other at same ∙ away other isnt ∙ sym (was other at same) ∙ bit
        ]
      ];
      below = λ other at bit. elim (cases_eq at slot) [
        | inr away ↦ inl (sym (apart other at away) ∙ bit)
        | inl same ↦ elim (cases_eq other number) [
          | inl is ↦ inr is
          | inr isnt ↦ inl (was other at same ∙ sym (away other isnt) ∙ sym (own other at same) ∙ bit)
        ]
      ];
    }

-- More have come.
pub MarksMore-more : {number : ℕ} {old now new : List (List ℕ)} → MarksMore number old now
    → MarksMore number now new → MarksMore number old new
MarksMore-more first second = record {
  size = second.size ∙ first.size;
  room = λ slot. second.room slot ∙ first.room slot;
  kept = λ other slot bit. second.kept other slot (first.kept other slot bit);
  below = λ other slot bit. elim (second.below other slot bit) [
    | inl was ↦ first.below other slot was
    | inr is ↦ inr is
  ];
}

-- As many numbers have room.
pub MarksMore-room : {number : ℕ} {old new : List (List ℕ)} → (count : ℕ) → MarksMore number old new
    → All (λ marks. count < room_of marks) old → All (λ marks. count < room_of marks) new
MarksMore-room {number} {old} {new} count more room = λ place default within.
    let was = room place [] (let size = more.size in omega (arith, within, size)) in
    let same = more.room place in
    let read = ap room_of (get_or_default new place default [] within) in
    omega (arith, was, same, read)

-- A mark has come in a slot, which is marked too.
pub AreFilled-marked : (number slot end high : ℕ) (old : List (List ℕ)) (marks filled now : List ℕ)
    → AreFilled old filled end → MarksMore number old (set old slot marks)
    → room_of now ≡ room_of filled → bit_of now slot ≡ 1
    → ((other : ℕ) → other ≢ slot → bit_of now other ≡ bit_of filled other)
    → All (λ marks. high < room_of marks) old → end ≤ high → number < high → high ≤ 2 ^ 32
    → AreFilled (set old slot marks) now high
AreFilled-marked number slot end high old marks filled now are more room here away ends least own low =
    let size = length-set old slot marks in
    record {
      room = (let before = are.room in omega (arith, before, room, size));
      few = (let few = are.few in omega (arith, few, size));
      ends = MarksMore-room high more ends;
      low = low;
      filled = λ at other bit. elim (cases_eq at slot) [
        | inl same ↦ ap (bit_of now) same ∙ here
        | inr apart ↦
            away at apart ∙ are.filled at other
            (ap (λ (marks : List ℕ). bit_of marks other) (sym (get_or-set_other old slot at marks [] apart)) ∙ bit)
      ];
      below = λ at other bit. elim (more.below other at bit) [
        | inl was ↦ (let below = are.below at other was in omega (arith, below, least))
        | inr is ↦ omega (arith, is, own)
      ];
    }

-- A mark has gone, and what is left of a slot is marked.
pub AreFilled-less : (number slot end : ℕ) (old new : List (List ℕ)) (filled now : List ℕ)
    → AreFilled old filled end → MarksLess number slot old new → room_of now ≡ room_of filled
    → ((at other : ℕ) → bit_of (marks_at new at) other ≡ 1 → bit_of filled at ≡ 1 → bit_of now at ≡ 1)
    → AreFilled new now end
AreFilled-less number slot end old new filled now are less room kept =
    let size = less.size in
    record {
      room = (let before = are.room in omega (arith, before, room, size));
      few = (let few = are.few in omega (arith, few, size));
      ends = λ place default within.
          let was = are.ends place [] (omega (arith, within, size)) in
          let same = less.room place in
          let read = ap room_of (get_or_default new place default [] within) in
          omega (arith, was, same, read);
      low = are.low;
      filled = λ at other bit. kept at other bit (are.filled at other (less.gone other at bit));
      below = λ at other bit. are.below at other (less.gone other at bit);
    }

-- One mark has gone in one slot.
pub MarksLess-set : (number slot : ℕ) (old : List (List ℕ)) (marks new : List ℕ) → slot < length old
    → marks ≡ get_or old slot marks → room_of new ≡ room_of marks → bit_of new number ≡ 0
    → ((other : ℕ) → other ≢ number → bit_of new other ≡ bit_of marks other)
    → MarksLess number slot old (set old slot new)
MarksLess-set number slot old marks new within read room here away =
    let before : marks ≡ marks_at old slot = read ∙ get_or_default old slot marks [] within in
    let now : marks_at (set old slot new) slot ≡ new = get_or-set_same old slot new [] within in
    let own : (other at : ℕ) → at ≡ slot
    → bit_of (marks_at (set old slot new) at) other ≡ bit_of new other =
    λ other at same.
    ap (λ n. bit_of (marks_at (set old slot new) n) other) same ∙ ap (λ (marks : List ℕ). bit_of marks other) now in
    let was : (other at : ℕ) → at ≡ slot → bit_of (marks_at old at) other ≡ bit_of marks other =
    λ other at same.
    ap (λ n. bit_of (marks_at old n) other) same ∙ ap (λ (marks : List ℕ). bit_of marks other) (sym before) in
    let apart : (other at : ℕ) → at ≢ slot
    → bit_of (marks_at (set old slot new) at) other ≡ bit_of (marks_at old at) other =
    λ other at away. ap (λ (marks : List ℕ). bit_of marks other) (get_or-set_other old slot at new [] away) in
    record {
      size = length-set old slot new;
      room = λ at. elim (cases_eq at slot) [
        | inl same ↦
            ap (λ n. room_of (marks_at (set old slot new) n)) same ∙ ap room_of now ∙ room
            ∙ ap room_of before ∙ ap (λ n. room_of (marks_at old n)) (sym same)
        | inr away ↦ ap room_of (get_or-set_other old slot at new [] away)
      ];
      away = λ other at is. elim (cases_eq at slot) [
        | inr isnt ↦ apart other at isnt
        | inl same ↦ elim is [
          | inl isnt ↦ own other at same ∙ away other isnt ∙ sym (was other at same)
          | inr isnt ↦ absurd (isnt same)
        ]
      ];
      gone = λ other at bit. elim (cases_eq at slot) [
        | inr isnt ↦ sym (apart other at isnt) ∙ bit
        | inl same ↦ elim (cases_eq other number) [
          | inr isnt ↦ was other at same ∙ sym (away other isnt) ∙ sym (own other at same) ∙ bit
          | inl is ↦
              let zero = here in
              let one = ap (bit_of new) (sym is) ∙ sym (own other at same) ∙ bit in
              absurd (omega (arith, zero, one))
        ]
      ];
    }
