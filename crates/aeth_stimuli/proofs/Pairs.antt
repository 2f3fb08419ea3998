-- What holds of each item of a list and each later one.
use Rattle.std.proofs.Common.{◌≡◌, ◌<◌, ◌++◌, ℕ, suc, Bool, List, [], ◌∷◌, Contains, filter, get_or}
use Rattle.std.proofs.Common.{inl, inr, map, arith, ap, refl, subst, sym, true, flat_map}
use Rattle.std.proofs.lemmas.{Bool.cases_Bool, List.Elements.Contains-append_cases}
use Rattle.std.proofs.lemmas.{List.Kept.AllPairs-cons, List.Kept.AllPairs-filter}
use Rattle.std.proofs.lemmas.{Option.slice_get-get_or}
use Rattle.std.specs.List.{All, AllPairs, range_with_len}
use Rattle.aeth_base.specs.declared.ids.Channel.{Channel}
use Rattle.aeth_base.specs.declared.ids.Side.TheVariants.{Back, Fwd}
use Rattle.aeth_base.proofs.Members.{Contains-here, Contains-there, filter-Contains, map-Contains}
use Rattle.aeth_group.specs.Members.{GroupsData}
use Rattle.aeth_report.specs.Channels.{channels_of, channels_with}
use Rattle.aeth_report.proofs.{ChannelLemmas.channels_of-known, FlowPlaces.channels_of-once}
use Rattle.aeth_reconf.specs.Rows.{channels_that}
use Rattle.aeth_tables.proofs.ListLaws.{all_has, has_place}

module _ {X : Type 0} (R : X → X → Type 0) where
  -- It holds of no items.
  pub pairs-none : AllPairs R []
  pairs-none = λ i j d less within. absurd (omega (arith, less, within))

  -- Of the first item and all others, and of those.
  pub pairs-head : (x : X) (xs : List X) → AllPairs R (x ∷ xs) → All (R x) xs
  pairs-head x xs pairs = λ k d within. pairs 0 (suc k) d (omega arith) (omega (arith, within))

  pub pairs-tail : (x : X) (xs : List X) → AllPairs R (x ∷ xs) → AllPairs R xs
  pairs-tail x xs pairs = λ i j d less within.
      pairs (suc i) (suc j) d (omega (arith, less)) (omega (arith, within))

  -- And so of one more, if it holds of that and each.
  pub pairs-cons : (x : X) (xs : List X) → ((y : X) → Contains xs y → R x y) → AllPairs R xs
      → AllPairs R (x ∷ xs)
  pairs-cons x xs each pairs = AllPairs-cons R x xs
      (λ k d within. each (get_or xs k d)
      (has_place xs k (get_or xs k d) (slice_get-get_or xs k d within))) pairs

  -- Of one list behind another.
  pub pairs-append : (xs ys : List X) → AllPairs R xs → AllPairs R ys
      → ((x y : X) → Contains xs x → Contains ys y → R x y) → AllPairs R (xs ++ ys)
  pairs-append [] ys one two across = two
  pairs-append (x ∷ xs) ys one two across =
      pairs-cons x (xs ++ ys) (λ y has. elim (Contains-append_cases xs ys y has) [
        | inl here ↦ all_has (R x) xs y (pairs-head x xs one) here
        | inr there ↦ across x y (Contains-here x xs) there
      ]) (pairs-append xs ys (pairs-tail x xs one) two
      (λ z y has_z has_y. across z y (Contains-there x xs z has_z) has_y))

-- Of images, where it follows from what holds of the items.
pub pairs-map : {X Y : Type 0} (f : X → Y) (R : X → X → Type 0) (S : Y → Y → Type 0) (xs : List X)
    → ((x y : X) → Contains xs x → Contains xs y → R x y → S (f x) (f y)) → AllPairs R xs
    → AllPairs S (map f xs)
pairs-map f R S [] step pairs = pairs-none S
pairs-map f R S (x ∷ xs) step pairs =
    pairs-cons S (f x) (map f xs) (λ y has.
    let (z, same, there) = map-Contains f xs y has in
    subst (S (f x)) same (step x z (Contains-here x xs) (Contains-there x xs z there)
    (all_has (R x) xs z (pairs-head R x xs pairs) there)))
    (pairs-map f R S xs (λ z y has_z has_y. step z y (Contains-there x xs z has_z)
    (Contains-there x xs y has_y)) (pairs-tail R x xs pairs))

-- Two channels are not one.
abbrev pub Differ : Channel → Channel → Type 0
Differ one other = one ≡ other → ⊥

-- A test on the connections of channels picks connections.
filter-channels : (test : ℕ → Bool) (cs : List ℕ)
    → filter (λ channel. test channel.conn.0) (flat_map channels_with cs)
    ≡ flat_map channels_with (filter test cs)
filter-channels test [] = refl
filter-channels test (c ∷ cs) =
    let rest = filter-channels test cs in
    elim (cases_Bool (test c)) [
      | inl passes ↦ rw passes
          (ap (λ (channels : List Channel). record { conn = record { 0 = c }; side = Fwd }
          ∷ record { conn = record { 0 = c }; side = Back } ∷ channels) rest)
      | inr fails ↦ rw fails rest
    ]

-- The channels of the connections that pass a test are of known connections that do.
pub channel-passes : (groups : GroupsData) (test : ℕ → Bool) (channel : Channel)
    → Contains (channels_that groups test) channel
    → (channel.conn.0 < groups.connections) × (test channel.conn.0 ≡ true)
channel-passes groups test channel has =
    let n = groups.connections in
    let (listed, passes) = filter-Contains (λ one. test one.conn.0) (channels_of n) channel
    (subst (λ (channels : List Channel). Contains channels channel)
    (sym (filter-channels test (range_with_len 0 n))) has) in
    (channels_of-known n channel listed, passes)

-- They differ.
pub channels-differ : (groups : GroupsData) (test : ℕ → Bool)
    → AllPairs Differ (channels_that groups test)
channels-differ groups test =
    let n = groups.connections in
    let all = channels_of n in
    subst (λ (channels : List Channel). AllPairs Differ channels)
    (filter-channels test (range_with_len 0 n))
    (AllPairs-filter Differ (λ channel. test channel.conn.0) all (λ i j d less within same.
    let once = channels_of-once n i j (get_or all i d) (get_or all j d)
    (slice_get-get_or all i d (omega (arith, less, within))) (slice_get-get_or all j d within) same in
    absurd (omega (arith, once, less))))
