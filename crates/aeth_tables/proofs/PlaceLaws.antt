-- Where the rows and shapes of a use case stand: two of each for each of its connections, which ascend.
use Rattle.std.proofs.Common.{◌≡◌, ◌+◌, ◌*◌, ◌++◌, ◌∙◌, ℕ, zero, suc, List, [], ◌∷◌, Option, Some}
use Rattle.std.proofs.Common.{All, Contains, slice_get, length, map, refl, sym, ap, arith, subst}
use Rattle.std.proofs.Common.{flat_map}
use Rattle.std.proofs.lemmas.List.{Concat.flat_map-cons, map-append}
use Rattle.std.proofs.lemmas.Option.{none-some, same_Some}
use Rattle.std.specs.List.{filter_map}
use Rattle.aeth_base.proofs.Members.{Contains-here, Contains-there}
use Rattle.aeth_base.specs.declared.ids.Side.{Side, TheVariants.Back, TheVariants.Fwd}
use Rattle.aeth_slots.{specs.SlotSet.Ascends, proofs.Ascending.Ascends-bounds}
use Rattle.aeth_chip.specs.Chip.{ChipData}
use Rattle.aeth_app.specs.App.{AppData}
use Rattle.aeth_ni.specs.declared.row.ChannelRow.{ChannelRow}
use Rattle.aeth_trace.specs.Channels.{side_number}
use Rattle.aeth_tables.specs.{Granted.channels_with, Tables.rows_on}
use Rattle.aeth_tables.specs.{declared.granted.GrantedConnection.GrantedConnection}
use Rattle.aeth_tables.proofs.ListLaws.{all_from_places, has_place}

-- ---- Lists of numbers, and what they give

-- A number stands once in an ascending list.
pub ascends_once : (low high : ℕ) (xs : List ℕ) → Ascends low high xs → (i j x : ℕ)
    → slice_get xs i ≡ Some x → slice_get xs j ≡ Some x → i ≡ j
ascends_once low high [] asc i j x here there = absurd (none-some x here)
ascends_once low high (y ∷ xs) asc zero zero x here there = refl
ascends_once low high (y ∷ xs) asc zero (suc j) x here there =
    let bounds = Ascends-bounds (y + 1) high xs asc.2 x (has_place xs j x there) in
    let same = same_Some y x here in
    absurd (omega (arith, bounds.0, same))
ascends_once low high (y ∷ xs) asc (suc i) zero x here there =
    let bounds = Ascends-bounds (y + 1) high xs asc.2 x (has_place xs i x here) in
    let same = same_Some y x there in
    absurd (omega (arith, bounds.0, same))
ascends_once low high (y ∷ xs) asc (suc i) (suc j) x here there =
    ap (λ (n : ℕ). suc n) (ascends_once (y + 1) high xs asc.2 i j x here there)

-- Where each number gives something that has it as its key, the keys are the numbers.
pub keys_of_given : {Y : Type 0} (give : ℕ → Option Y) (key : Y → ℕ) (xs : List ℕ)
    → ((x : ℕ) → Contains xs x → (y : Y) × (give x ≡ Some y) × (key y ≡ x))
    → map key (filter_map give xs) ≡ xs
keys_of_given give key [] each = refl
keys_of_given give key (x ∷ xs) each =
    let (y, gives, is) = each x (Contains-here x xs) in
    let rest = keys_of_given give key xs (λ z has. each z (Contains-there x xs z has)) in
    rw gives (rw (is, rest) refl)

-- ---- What connections give for each side

-- What connections give for each side, in the order of channels.
abbrev pub pairs : {X : Type 0} → (GrantedConnection → Side → X) → List GrantedConnection → List X
pairs give connections = flat_map (λ one. give one Fwd ∷ give one Back ∷ []) connections

-- What a side of the connection at a place gives.
pub record IsGivenAt {X : Type 0} (give : GrantedConnection → Side → X)
    (connections : List GrantedConnection) (i : ℕ) (x : X) : Type 0 where
  pub place : ℕ
  pub granted : GrantedConnection
  pub side : Side
  pub at : slice_get connections place ≡ Some granted
  pub is : give granted side ≡ x
  pub index : i ≡ 2 * place + side_number side

module _ {X : Type 0} (give : GrantedConnection → Side → X) where
  pairs-cons : (one : GrantedConnection) (rest : List GrantedConnection)
      → pairs give (one ∷ rest) ≡ give one Fwd ∷ give one Back ∷ pairs give rest
  pairs-cons one rest =
      flat_map-cons (λ (g : GrantedConnection). give g Fwd ∷ give g Back ∷ []) one rest

  -- Each item is what a side of some connection gives.
  pub given_at : (connections : List GrantedConnection) (i : ℕ) (x : X)
      → slice_get (pairs give connections) i ≡ Some x → IsGivenAt give connections i x
  given_at [] i x at = absurd (none-some x at)
  given_at (one ∷ rest) zero x at = record {
    place = 0;
    granted = one;
    side = Fwd;
    at = refl;
    is = same_Some (give one Fwd) x (ap (λ xs. slice_get xs 0) (sym (pairs-cons one rest)) ∙ at);
    index = refl;
  }
  given_at (one ∷ rest) (suc zero) x at = record {
    place = 0;
    granted = one;
    side = Back;
    at = refl;
    is = same_Some (give one Back) x (ap (λ xs. slice_get xs 1) (sym (pairs-cons one rest)) ∙ at);
    index = refl;
  }
  given_at (one ∷ rest) (suc (suc i)) x at =
      let found = given_at rest i x
      (ap (λ xs. slice_get xs (suc (suc i))) (sym (pairs-cons one rest)) ∙ at) in
      record {
        place = suc found.place;
        granted = found.granted;
        side = found.side;
        at = found.at;
        is = found.is;
        index = omega (arith, found.index);
      }

  -- What a side of a connection gives stands there.
  pub there_given : (connections : List GrantedConnection) (place : ℕ) (granted : GrantedConnection)
      (side : Side) → slice_get connections place ≡ Some granted
      → slice_get (pairs give connections) (2 * place + side_number side)
      ≡ Some (give granted side)
  there_given [] place granted side at = absurd (none-some granted at)
  there_given (one ∷ rest) zero granted Fwd at =
      ap (λ xs. slice_get xs 0) (pairs-cons one rest)
      ∙ ap (λ (g : GrantedConnection). Some (give g Fwd)) (same_Some one granted at)
  there_given (one ∷ rest) zero granted Back at =
      ap (λ xs. slice_get xs 1) (pairs-cons one rest)
      ∙ ap (λ (g : GrantedConnection). Some (give g Back)) (same_Some one granted at)
  there_given (one ∷ rest) (suc place) granted side at =
      let next : 2 * suc place + side_number side ≡ suc (suc (2 * place + side_number side)) =
      omega arith in
      ap (slice_get (pairs give (one ∷ rest))) next
      ∙ ap (λ xs. slice_get xs (suc (suc (2 * place + side_number side)))) (pairs-cons one rest)
      ∙ there_given rest place granted side at

  -- There are two items for each connection.
  pub length-pairs : (connections : List GrantedConnection)
      → length (pairs give connections) ≡ 2 * length connections
  length-pairs [] = refl
  length-pairs (one ∷ rest) =
      ap length (pairs-cons one rest) ∙ omega (arith, length-pairs rest)

  -- What holds of each side of each connection holds of all items.
  pub all_given : (P : X → Type 0) (connections : List GrantedConnection)
      → ((one : GrantedConnection) (side : Side) → Contains connections one → P (give one side))
      → All P (pairs give connections)
  all_given P connections each =
      all_from_places P (pairs give connections) (λ i x at.
      let found = given_at connections i x at in
      subst P found.is (each found.granted found.side
      (has_place connections found.place found.granted found.at)))

-- The channels of the rows are those of the connections.
pub channels_of_rows : (chip : ChipData) (app : AppData) (connections : List GrantedConnection)
    → map (λ (row : ChannelRow). row.channel) (flat_map (rows_on chip app) connections)
    ≡ flat_map channels_with (map (λ (one : GrantedConnection). one.conn.0) connections)
channels_of_rows chip app [] = refl
channels_of_rows chip app (one ∷ rest) =
    ap (map (λ (row : ChannelRow). row.channel)) (flat_map-cons (rows_on chip app) one rest)
    ∙ map-append (λ (row : ChannelRow). row.channel) (rows_on chip app one)
    (flat_map (rows_on chip app) rest)
    ∙ ap (λ xs. channels_with one.conn.0 ++ xs) (channels_of_rows chip app rest)
    ∙ sym (flat_map-cons channels_with one.conn.0
    (map (λ (g : GrantedConnection). g.conn.0) rest))
