-- What an application is seen as, and what holds of every application.
--
--   AppData, UseData      an application, and one of its use cases
--   is_marked, has_in, has_connection      which connections run in a use case
--   names_smooth_in, is_smooth      between which use cases a switch is smooth
--   is_end, position_of      the connections of a core
--   wish_of      what a channel wishes
--   IsWish, IsConnection, IsUse, IsApp      what holds of every application
--   AreNames      the names of its parts
--   is_ni, is_fixed_to, IsAppOf      what holds of an application that was read with a chip
-- Connections and use cases: after Æthereal (2005) and UMARS (2005). The rest: this project's own.
use Rattle.std.proofs.Common.{◌≡◌, ◌≢◌, ◌≤◌, ◌<◌, ℕ, ◌*◌, ◌==◌, ◌||◌, Bool, true, false, List}
use Rattle.std.proofs.Common.{length, map, take, slice_get, count_by, Option, Some, None, All}
use Rattle.std.proofs.Common.{Contains, unwrap_or}
use Rattle.std.specs.{List.IsDistinct, Str.bytes_eq}
use Rattle.aeth_base.specs.declared.ids.{CoreId.CoreId, NiId.NiId, Side.Side, Side.TheVariants.Fwd}
use Rattle.aeth_base.specs.declared.ids.{Side.TheVariants.Back}
use Rattle.aeth_base.specs.Limits.{max_receiver_delay, max_slots, words_per_flit}
use Rattle.aeth_base.specs.Name.{is_name}
use Rattle.aeth_chip.specs.Chip.{ChipData}
use Rattle.aeth_app.specs.Limits.{max_connections, max_core_connections, max_cores, max_detour}
use Rattle.aeth_app.specs.Limits.{max_latency, max_per, max_uses, max_words, min_uses, seats_per_ni}
use Rattle.aeth_app.specs.declared.connection.{Connection.Connection, Core.Core, Price.Price}
use Rattle.aeth_app.specs.declared.connection.{Wish.Wish}

-- A use case: its name, for each connection whether it has it, and for each use case whether it
-- names that one as smooth.
pub record UseData : Type 0 where
  pub name : List ℕ
  pub has : List Bool
  pub smooth : List Bool

-- An application: the size of the slot tables that it is for, how many links more than the least
-- number a path may have, what links cost, and its cores, connections and use cases in file order.
pub record AppData : Type 0 where
  pub slots : ℕ
  pub detour : ℕ
  pub price : Price
  pub cores : List Core
  pub connections : List Connection
  pub uses : List UseData

-- Whether a place is marked; a place past the last isn't.
abbrev pub is_marked : List Bool → ℕ → Bool
is_marked marks place = unwrap_or (slice_get marks place) false

-- Whether a use case, which may be missing, has a connection.
abbrev pub has_in : Option UseData → ℕ → Bool
has_in None connection = false
has_in (Some one) connection = is_marked one.has connection

-- Whether a use case has a connection.
abbrev pub has_connection : List UseData → ℕ → ℕ → Bool
has_connection uses u connection = has_in (slice_get uses u) connection

-- Whether a use case, which may be missing, names another as smooth.
abbrev pub names_smooth_in : Option UseData → ℕ → Bool
names_smooth_in None v = false
names_smooth_in (Some one) v = is_marked one.smooth v

-- Whether a switch between two use cases is smooth: one of them names the other.
abbrev pub is_smooth : List UseData → ℕ → ℕ → Bool
is_smooth uses u v = names_smooth_in (slice_get uses u) v || names_smooth_in (slice_get uses v) u

-- Whether a core is an end of a connection.
abbrev pub is_end : CoreId → Connection → Bool
is_end core connection = connection.from.0 == core.0 || connection.to.0 == core.0

-- The position of a connection at a core: how many connections of the core stand before it.
abbrev pub position_of : List Connection → CoreId → ℕ → ℕ
position_of connections core connection = count_by (is_end core) (take connection connections)

-- What a connection wishes on a side.
abbrev pub wish_of : Connection → Side → Wish
wish_of connection Fwd = connection.fwd
wish_of connection Back = connection.back

-- What holds of every wish: it has at most two words a cycle, and is within the limits.
pub record IsWish (wish : Wish) : Type 0 where
  pub words : wish.words ≤ max_words
  pub rate : wish.words ≤ words_per_flit * wish.per
  pub some_per : 1 ≤ wish.per
  pub per : wish.per ≤ max_per
  pub some_latency : 1 ≤ wish.latency
  pub latency : wish.latency ≤ max_latency
  pub delay : wish.delay ≤ max_receiver_delay

-- What holds of every connection of an application with so many cores.
pub record IsConnection (cores : ℕ) (connection : Connection) : Type 0 where
  pub from : connection.from.0 < cores
  pub to : connection.to.0 < cores
  pub apart : connection.from.0 ≢ connection.to.0
  pub fwd : IsWish connection.fwd
  pub back : IsWish connection.back

-- What holds of every use case: it has a mark for each connection and for each use case.
pub record IsUse (connections uses : ℕ) (one : UseData) : Type 0 where
  pub has : length one.has ≡ connections
  pub smooth : length one.smooth ≡ uses

-- What holds of every application.
pub record IsApp (app : AppData) : Type 0 where
  pub some_slots : 1 ≤ app.slots
  pub slots : app.slots ≤ max_slots
  pub detour : app.detour ≤ max_detour
  pub cores : length app.cores ≤ max_cores
  pub connections : length app.connections ≤ max_connections
  pub some_uses : min_uses ≤ length app.uses
  pub uses : length app.uses ≤ max_uses
  pub joined : All (IsConnection (length app.cores)) app.connections
  pub busy : (core : CoreId) → count_by (is_end core) app.connections ≤ max_core_connections
  pub marked : All (IsUse (length app.connections) (length app.uses)) app.uses
  pub named_cores : All (λ core. is_name core.name ≡ true) app.cores
  pub named_connections : All (λ connection. is_name connection.name ≡ true) app.connections
  pub named_uses : All (λ one. is_name one.name ≡ true) app.uses
  pub core_names : IsDistinct bytes_eq (map (λ core. core.name) app.cores)
  pub connection_names : IsDistinct bytes_eq (map (λ connection. connection.name) app.connections)
  pub use_names : IsDistinct bytes_eq (map (λ one. one.name) app.uses)

-- The names are those of the cores, the connections and the use cases, in their order.
pub record AreNames (cores connections uses : List (List ℕ)) (of_cores : List Core)
    (of_connections : List Connection) (of_uses : List UseData) : Type 0 where
  pub core : cores ≡ map (λ core. core.name) of_cores
  pub connection : connections ≡ map (λ connection. connection.name) of_connections
  pub use_case : uses ≡ map (λ one. one.name) of_uses

-- Whether a network interface, which may be missing, is the one with this number.
abbrev pub is_ni : Option NiId → ℕ → Bool
is_ni None number = false
is_ni (Some ni) number = ni.0 == number

-- Whether a core is fixed to a network interface.
abbrev pub is_fixed_to : ℕ → Core → Bool
is_fixed_to ni core = is_ni core.fixed ni

-- What holds of an application that was read with a chip: it has the chip's table size, there are
-- seats for all its cores, and each core is fixed to no interface or to one with seats enough.
pub record IsAppOf (chip : ChipData) (app : AppData) : Type 0 where
  pub slots : app.slots ≡ chip.slots
  pub seats : length app.cores ≤ seats_per_ni * length chip.nis
  pub known : (core : Core) (ni : NiId) → Contains app.cores core → core.fixed ≡ Some ni
      → ni.0 < length chip.nis
  pub fixed : (ni : ℕ) → count_by (is_fixed_to ni) app.cores ≤ seats_per_ni
