-- Laws of the masks that mark channels.
use Rattle.std.proofs.Common.{ℕ, ◌≡◌, ◌∷◌, ◌+◌, ◌≢◌, ◌<◌, ◌≤◌, ◌/◌, ◌%◌, ◌∙◌, [], sym, ap, arith}
use Rattle.std.proofs.Common.{inl, inr, subst, List, get_or, length, length-set, set, Some}
use Rattle.std.proofs.Common.{slice_get, slice_index}
use Rattle.std.proofs.lemmas.{Bool.cases_Bool, Bool.cases_eq, Bool.cases_lt, List.get_or_past}
use Rattle.std.proofs.lemmas.{Nat.Bits.bit_at-zero, Option.same_Some, Option.slice_get-get_or}
use Rattle.std.proofs.lemmas.{Option.slice_get_within}
use Rattle.std.specs.Int.{bit_at}
use Rattle.aeth_base.proofs.Lists.{slice_get-slice_set_other, slice_get-slice_set_same}
use Rattle.aeth_base.proofs.MarkedLemmas.{is_marked-one, is_marked-zero, next-passing, none-passing}
use Rattle.aeth_base.specs.Marks.{bit_of, is_marked, marked_from, numbers_of_mask, room_of}
use Rattle.aeth_router.specs.declared.part.Part.{Part}
use Rattle.aeth_components.specs.{declared.channel_state.ChannelState.ChannelState, Busy.AreMarked}
use Rattle.aeth_components.specs.{Phases.Moment, Phases.turned_by}

-- A channel has changed: the masks mark as before, where it is idle if it was.
pub AreMarked-set : {IsStill : ChannelState → Type 0} (masks : List ℕ)
    (channel_states : List ChannelState) (number : ℕ)
    (channel_state new : ChannelState)
    → slice_get channel_states number ≡ Some channel_state → (IsStill channel_state → IsStill new)
    → AreMarked IsStill masks channel_states
    → AreMarked IsStill masks (set channel_states number new)
AreMarked-set {IsStill = IsStill} masks channel_states number channel_state new at still marked =
    let within = slice_get_within channel_states number channel_state at in
    let same = length-set channel_states number new in
    record {
      size = (let size = marked.size in omega arith);
      idle = λ other found there bit. elim (cases_eq other number) [
        | inl here ↦
            let is : new ≡ found =
            same_Some new found
            (sym (slice_get-slice_set_same channel_states number new within)
            ∙ ap (slice_get (set channel_states number new)) (sym here) ∙ there) in
            subst IsStill is
            (still (marked.idle number channel_state at (ap (bit_of masks) (sym here) ∙ bit)))
        | inr apart ↦
            marked.idle other found
            (sym (slice_get-slice_set_other channel_states number other new apart) ∙ there) bit
      ];
    }

-- A channel is marked no more, which is idle.
pub AreMarked-unmarked : {IsStill : ChannelState → Type 0} (old new : List ℕ)
    (channel_states : List ChannelState)
    (number : ℕ) (channel_state : ChannelState)
    → slice_get channel_states number ≡ Some channel_state → IsStill channel_state
    → room_of new ≡ room_of old
    → ((other : ℕ) → other ≢ number → bit_of new other ≡ bit_of old other)
    → AreMarked IsStill old channel_states → AreMarked IsStill new channel_states
AreMarked-unmarked {IsStill = IsStill} old new channel_states number channel_state at idle same away
    marked =
    record {
      size = (let size = marked.size in omega arith);
      idle = λ other found there bit. elim (cases_eq other number) [
        | inl here ↦
            subst IsStill
            (same_Some channel_state found
            (sym at ∙ ap (slice_get channel_states) (sym here) ∙ there)) idle
        | inr apart ↦ marked.idle other found there (sym (away other apart) ∙ bit)
      ];
    }

-- So where it is as it is read.
pub AreMarked-read : (IsStill : ChannelState → Type 0) (old new : List ℕ)
    (channel_states : List ChannelState) (number : ℕ)
    (default : ChannelState) → number < length channel_states
    → IsStill (get_or channel_states number default)
    → room_of new ≡ room_of old
    → ((other : ℕ) → other ≢ number → bit_of new other ≡ bit_of old other)
    → AreMarked IsStill old channel_states → AreMarked IsStill new channel_states
AreMarked-read IsStill old new channel_states number default within still =
    AreMarked-unmarked old new channel_states number (get_or channel_states number default)
    (slice_get-get_or channel_states number default within) still

-- A channel is marked, and may be another.
pub AreMarked-marked : {IsStill : ChannelState → Type 0} (old new : List ℕ)
    (channel_states : List ChannelState) (number : ℕ)
    (channel_state : ChannelState)
    → room_of new ≡ room_of old → bit_of new number ≡ 1
    → ((other : ℕ) → other ≢ number → bit_of new other ≡ bit_of old other)
    → AreMarked IsStill old channel_states
    → AreMarked IsStill new (set channel_states number channel_state)
AreMarked-marked old new channel_states number channel_state same here away marked =
    let sized = length-set channel_states number channel_state in
    record {
      size = (let size = marked.size in omega arith);
      idle = λ other found there bit. elim (cases_eq other number) [
        | inl is ↦ absurd (omega (arith, here, sym (ap (bit_of new) is) ∙ bit))
        | inr apart ↦
            marked.idle other found
            (sym (slice_get-slice_set_other channel_states number other channel_state apart)
            ∙ there)
            (sym (away other apart) ∙ bit)
      ];
    }

-- Where each is marked, none need be idle.
pub AreMarked-all : {IsStill : ChannelState → Type 0} (masks : List ℕ)
    (channel_states : List ChannelState)
    → length channel_states < room_of masks
    → ((number : ℕ) → number < room_of masks → bit_of masks number ≡ 1)
    → AreMarked IsStill masks channel_states
AreMarked-all masks channel_states size all =
    record {
      size = size;
      idle = λ number channel_state at bit.
          let within = slice_get_within channel_states number channel_state at in
          absurd (omega (arith, bit, all number (omega arith)));
    }

-- A marked number is one that there is room for.
marked-within : (masks : List ℕ) (number : ℕ) → bit_of masks number ≡ 1 → number < room_of masks
marked-within masks number bit = elim (cases_lt number (room_of masks)) [
  | inl within ↦ within
  | inr past ↦
      let mask : slice_index masks (number / numbers_of_mask) ≡ 0 =
      get_or_past masks (number / numbers_of_mask) 0 (omega (arith, past)) in
      let none : bit_of masks number ≡ 0 =
      ap (λ mask. bit_at mask (number % numbers_of_mask)) mask ∙ bit_at-zero (number % numbers_of_mask) in
      absurd (omega (arith, bit, none))
]

-- Where the walk over the marked numbers ends, none is marked from there on.
pub unmarked-behind : (masks : List ℕ) (from : ℕ) → marked_from masks from ≡ [] → (number : ℕ)
    → from ≤ number → bit_of masks number ≡ 0
unmarked-behind masks from none number over = elim (cases_Bool (is_marked masks number)) [
  | inl is ↦
      let within = marked-within masks number (is_marked-one masks number is) in
      absurd (cc (sym is ∙ none-passing (is_marked masks) from (room_of masks) none number over within))
  | inr isnt ↦ is_marked-zero masks number isnt
]

-- A turn keeps what it leaves alone.
pub kept-alone : (IsStill : ChannelState → Type 0)
    (turn : List Part → ChannelState → List Part × ChannelState)
    → ((parts : List Part) (channel_state : ChannelState) → IsStill channel_state
    → turn parts channel_state ≡ (parts, channel_state))
    → (parts : List Part) (channel_state : ChannelState) → IsStill channel_state
    → IsStill (turn parts channel_state).1
kept-alone IsStill turn still parts channel_state is =
    subst IsStill
    (sym (ap (λ (pair : List Part × ChannelState). pair.1) (still parts channel_state is))) is

-- The masks mark as before once a channel had its turn, where a turn keeps it so.
pub AreMarked-turned : {IsStill : ChannelState → Type 0}
    (turn : List Part → ChannelState → List Part × ChannelState)
    → ((parts : List Part) (channel_state : ChannelState) → IsStill channel_state
    → IsStill (turn parts channel_state).1)
    → (masks : List ℕ) (now : Moment) (number : ℕ) (channel_state : ChannelState)
    (done : List Part × ChannelState)
    → slice_get now.channel_states number ≡ Some channel_state
    → done ≡ turn now.parts channel_state → AreMarked IsStill masks now.channel_states
    → AreMarked IsStill masks (turned_by now number done).channel_states
AreMarked-turned {IsStill = IsStill} turn kept masks now number channel_state done at did marked =
    AreMarked-set masks now.channel_states number channel_state done.1 at
    (λ still. subst IsStill (sym (ap (λ (pair : List Part × ChannelState). pair.1) did))
    (kept now.parts channel_state still))
    marked

-- The next marked number, of those from one on, and the ones behind it.
pub record NextMarked (marks : List ℕ) (from next : ℕ) (rest : List ℕ) : Type 0 where
  pub after : from ≤ next
  pub is : bit_of marks next ≡ 1
  pub none : (number : ℕ) → from ≤ number → number < next → bit_of marks number ≡ 0
  pub behind : rest ≡ marked_from marks (next + 1)

-- It is the first of the list.
pub next-marked : {marks : List ℕ} {from next : ℕ} {rest : List ℕ}
    → marked_from marks from ≡ next ∷ rest → NextMarked marks from next rest
next-marked {marks} {from} {next} {rest} list =
    let passing = next-passing (is_marked marks) from (room_of marks) next rest list in
    record {
      after = passing.after;
      is = is_marked-one marks next passing.is;
      none = λ number over below. is_marked-zero marks number (passing.none number over below);
      behind = passing.behind;
    }
