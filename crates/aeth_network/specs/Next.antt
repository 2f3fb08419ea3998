-- The cycles in which a network does something, by what it is given and by how its channels stand.
--
-- Where a wire has a flit, the next is the one that comes. Else it is the first in which a word is offered, a switch's
-- window is open, an interface sends in its slot, or a receiver takes a word that waits. Events and later sessions fall
-- in windows. Of several rows of receivers for one cycle and channel the last counts. What receivers take is asked last,
-- below the least of the others. Asked first, each busy cycle of a burst would walk over the receivers' rows of a whole
-- run.
--
--   HasOffer, HasWindow      a word is offered in a cycle, and a switch does something
--   pull_behind      how many words a receiver takes in a cycle at most, behind rows
--   AsksIn, HasAsker      a channel has a word that its receiver takes
--   HasTaker, IsAskedBy, HasRowTaker      so of those whose receivers take some as they stand, or by rows
--   IsFirstKnown      a first cycle, as far as is known
-- This project's own.
use Rattle.std.proofs.Common.{◌≡◌, ◌<◌, ◌≤◌, ◌+◌, ◌==◌, ℕ, [], List, Some, filter, fold}
use Rattle.std.proofs.Common.{if◌then◌else◌, slice_get, slice_range, true}
use Rattle.aeth_components.specs.ChannelStates.{is_open}
use Rattle.aeth_components.specs.declared.channel_state.ChannelState.{ChannelState}
use Rattle.aeth_schedule.specs.{Windows.IsInWindow, declared.windows.Window.Window}
use Rattle.aeth_stimuli.specs.Stimuli.{Offer, Take}
use Rattle.aeth_network.specs.Behind.{passed}

-- A word is offered in a cycle.
abbrev pub HasOffer : List Offer → ℕ → Type 0
HasOffer offers t = filter (λ one. one.cycle == t) offers ≡ [] → ⊥

-- A switch does something in it.
pub record HasWindow (windows : List Window) (t : ℕ) : Type 0 where
  pub number : ℕ
  pub window : Window
  pub at : slice_get windows number ≡ Some window
  pub within : IsInWindow window t

-- How many words the receiver of a channel takes in a cycle at most, who took so many before these rows.
abbrev pub pull_behind : ℕ → ℕ → List Take → ℕ
pull_behind number pull rows =
    fold (λ now row. if row.number == number then row.pull else now) pull rows

-- The channel of a number has a word in a cycle that its receiver takes, by the rows from a place on.
pub record AsksIn (channel_state : ChannelState) (number : ℕ) (takes : List Take) (place t : ℕ) :
    Type 0 where
  pub waits : channel_state.taken < channel_state.landed
  pub opened : is_open channel_state t ≡ true
  pub pulls : 0 < pull_behind number channel_state.pull
      (slice_range takes place (passed (λ one. one.cycle) (t + 1) takes))

-- Some channel has.
pub record HasAsker (channel_states : List ChannelState) (takes : List Take) (place t : ℕ) : Type
    0 where
  pub number : ℕ
  pub channel_state : ChannelState
  pub at : slice_get channel_states number ≡ Some channel_state
  pub asks : AsksIn channel_state number takes place t

-- Some channel has whose receiver takes some as it stands.
pub record HasTaker (channel_states : List ChannelState) (takes : List Take) (place t : ℕ) : Type
    0 where
  pub number : ℕ
  pub channel_state : ChannelState
  pub at : slice_get channel_states number ≡ Some channel_state
  pub some : 0 < channel_state.pull
  pub asks : AsksIn channel_state number takes place t

-- The channel of a row has, by which its receiver takes some.
pub record IsAskedBy (channel_states : List ChannelState) (row : Take) (takes : List Take)
    (place t : ℕ) : Type 0 where
  pub channel_state : ChannelState
  pub at : slice_get channel_states row.number ≡ Some channel_state
  pub some : 0 < row.pull
  pub asks : AsksIn channel_state row.number takes place t

-- The channel of one of the rows from a place on has, up to whose cycle this is.
pub record HasRowTaker (channel_states : List ChannelState) (takes : List Take) (place t : ℕ) : Type
    0 where
  pub number : ℕ
  pub row : Take
  pub at : slice_get takes number ≡ Some row
  pub from : place ≤ number
  pub since : row.cycle ≤ t
  pub asked : IsAskedBy channel_states row takes place t

-- From one cycle on and below another, known things hold in none before this one, and something holds
-- in this one; the other where no known thing holds in any.
pub record IsFirstKnown (IsKnown Holds : ℕ → Type 0) (from to cycle : ℕ) : Type 0 where
  pub least : from ≤ cycle
  pub most : cycle ≤ to
  pub before : (other : ℕ) → from ≤ other → other < cycle → IsKnown other → ⊥
  pub holds : cycle < to → Holds cycle
