-- What is written before the first cycle is of the sessions that are in use then.
use Rattle.std.proofs.Common.{◌≡◌, ◌∙◌, ◌+◌, ℕ, List, [], ◌∷◌, Contains, Some, ap, arith, inl, inr}
use Rattle.std.proofs.Common.{map, subst, sym}
use Rattle.std.proofs.lemmas.{List.Concat.flat_map-cons, Option.same_Some}
use Rattle.std.specs.List.{AllPairs, flat_map}
use Rattle.aeth_base.proofs.Members.{Contains-cases, Contains-here, Contains-there}
use Rattle.aeth_base.proofs.Members.{flat_map-Contains, map-Contains}
use Rattle.aeth_slots.specs.SlotSet.{Ascends}
use Rattle.aeth_ni.specs.{Program.opening_writes, declared.row.ChannelRow.ChannelRow}
use Rattle.aeth_ni.specs.{declared.write.Write.Write, declared.write.Write.TheVariants.SetSlot}
use Rattle.aeth_reconf.specs.{Rows.Meets, Windows.set_route}
use Rattle.aeth_components.specs.{Switching.SlotWrite, declared.event.Event.TheVariants.Change}
use Rattle.aeth_components.specs.{declared.channel_state.ChannelEnd.ChannelEnd}
use Rattle.aeth_tables.proofs.ListLaws.{all_has, place_in}
use Rattle.aeth_stimuli.proofs.Pairs.{pairs-append, pairs-cons, pairs-head, pairs-none, pairs-tail}
use Rattle.aeth_stimuli.proofs.SwitchOrder.{ArePlacedApart}
use Rattle.aeth_stimuli.proofs.SwitchSessions.{slot-between}

-- ---- writes that open

-- Writes are apart as events.
abbrev pub AreApartWrites : Write → Write → Type 0
AreApartWrites one other = ArePlacedApart (Change one) (Change other)

-- That of a route and that of a slot are.
route-slot : (row : ChannelRow) (slot : ℕ) (other : ChannelRow)
    → AreApartWrites (set_route row) (SetSlot other.ni slot other.queue)
route-slot row slot other = record {
  queues = λ n q a b. absurd (cc b.is);
  slots = λ n s a b. absurd (cc a.is);
}

slot-route : (row : ChannelRow) (slot : ℕ) (other : ChannelRow)
    → AreApartWrites (SetSlot row.ni slot row.queue) (set_route other)
slot-route row slot other = record {
  queues = λ n q a b. absurd (cc a.is);
  slots = λ n s a b. absurd (cc b.is);
}

-- Those of two routes are where their rows have no queue in common.
route-route : (row other : ChannelRow) → (Meets row other → ⊥)
    → AreApartWrites (set_route row) (set_route other)
route-route row other apart = record {
  queues = λ n q a b.
      let first = same_Some (record { ni = row.ni; queue = row.queue }) a.end a.is in
      let second = same_Some (record { ni = other.ni; queue = other.queue }) b.end b.is in
      let ni : row.ni.0 ≡ other.ni.0 = ap (λ (end : ChannelEnd). end.ni.0) first ∙ a.at_ni
      ∙ sym b.at_ni ∙ sym (ap (λ (end : ChannelEnd). end.ni.0) second) in
      let queue : row.queue ≡ other.queue = ap (λ (end : ChannelEnd). end.queue) first ∙ a.at_queue
      ∙ sym b.at_queue ∙ sym (ap (λ (end : ChannelEnd). end.queue) second) in
      apart (record { ni = λ i. record { 0 = ni i }; shares = inl queue });
  slots = λ n s a b. absurd (cc a.is);
}

-- Those of two slots are where these or their interfaces differ.
slot-slot : (row other : ChannelRow) (x y : ℕ) → (row.ni.0 ≡ other.ni.0 → x ≡ y → ⊥)
    → AreApartWrites (SetSlot row.ni x row.queue) (SetSlot other.ni y other.queue)
slot-slot row other x y apart = record {
  queues = λ n q a b. absurd (cc a.is);
  slots = λ n s a b.
      let first = same_Some (record { ni = row.ni; slot = x; entry = Some row.queue }) a.write a.is in
      let second = same_Some (record { ni = other.ni; slot = y; entry = Some other.queue }) b.write b.is
      in
      apart (ap (λ (w : SlotWrite). w.ni.0) first ∙ a.at_ni ∙ sym b.at_ni
      ∙ sym (ap (λ (w : SlotWrite). w.ni.0) second))
      (ap (λ (w : SlotWrite). w.slot) first ∙ a.at_slot ∙ sym b.at_slot
      ∙ sym (ap (λ (w : SlotWrite). w.slot) second));
}

-- A write that opens a row sets its route, or one of its slots.
pub data Opening (row : ChannelRow) (write : Write) : Type 0 where
  IsRoute : set_route row ≡ write → Opening row write
  IsSlot : (slot : ℕ) → Contains row.slots.slots slot → SetSlot row.ni slot row.queue ≡ write
      → Opening row write

pub opening-of : (row : ChannelRow) (write : Write) → Contains (opening_writes row) write
    → Opening row write
opening-of row write has =
    let set = λ (slot : ℕ). SetSlot row.ni slot row.queue in
    elim (Contains-cases (set_route row) (map set row.slots.slots) write has) [
      | inl same ↦ IsRoute same
      | inr later ↦
          let (slot, same, is_in) = map-Contains set row.slots.slots write later in
          IsSlot slot is_in same
    ]

-- Those of two rows that share nothing are apart.
rows-apart : (row other : ChannelRow) → (Meets row other → ⊥) → (one two : Write)
    → Opening row one → Opening other two → AreApartWrites one two
rows-apart row other apart one two (IsRoute a) (IsRoute b) =
    subst (λ (w : Write). AreApartWrites one w) b
    (subst (λ (w : Write). AreApartWrites w (set_route other)) a (route-route row other apart))
rows-apart row other apart one two (IsRoute a) (IsSlot y in_y b) =
    subst (λ (w : Write). AreApartWrites one w) b
    (subst (λ (w : Write). AreApartWrites w (SetSlot other.ni y other.queue)) a (route-slot row y other))
rows-apart row other apart one two (IsSlot x in_x a) (IsRoute b) =
    subst (λ (w : Write). AreApartWrites one w) b
    (subst (λ (w : Write). AreApartWrites w (set_route other)) a (slot-route row x other))
rows-apart row other apart one two (IsSlot x in_x a) (IsSlot y in_y b) =
    subst (λ (w : Write). AreApartWrites one w) b
    (subst (λ (w : Write). AreApartWrites w (SetSlot other.ni y other.queue)) a
    (slot-slot row other x y (λ ni same. apart (record {
      ni = λ i. record { 0 = ni i };
      shares = inr (x, in_x, subst (λ (z : ℕ). Contains other.slots.slots z) (sym same) in_y);
    }))))

-- Those of one row are, since its slots ascend.
slots-apart : (row : ChannelRow) (low high : ℕ) (xs : List ℕ) → Ascends low high xs
    → AllPairs AreApartWrites (map (λ slot. SetSlot row.ni slot row.queue) xs)
slots-apart row low high [] ascends = pairs-none AreApartWrites
slots-apart row low high (x ∷ xs) ascends =
    let set = λ (slot : ℕ). SetSlot row.ni slot row.queue in
    pairs-cons AreApartWrites (set x) (map set xs) (λ write has.
    let (y, same, is_in) = map-Contains set xs write has in
    let (k, at) = place_in xs y is_in in
    let above = (slot-between (x + 1) high xs k y ascends.2 at).0 in
    subst (λ (w : Write). AreApartWrites (set x) w) same
    (slot-slot row row x y (λ ni equal. absurd (omega (arith, above, equal)))))
    (slots-apart row (x + 1) high xs ascends.2)

row-apart : (row : ChannelRow) (high : ℕ) → Ascends 0 high row.slots.slots
    → AllPairs AreApartWrites (opening_writes row)
row-apart row high ascends =
    let set = λ (slot : ℕ). SetSlot row.ni slot row.queue in
    pairs-cons AreApartWrites (set_route row) (map set row.slots.slots) (λ write has.
    let (slot, same, is_in) = map-Contains set row.slots.slots write has in
    subst (λ (w : Write). AreApartWrites (set_route row) w) same (route-slot row slot row))
    (slots-apart row 0 high row.slots.slots ascends)

-- So are those of rows of which no two share anything.
pub openings-apart : (high : ℕ) (rows : List ChannelRow)
    → ((row : ChannelRow) → Contains rows row → Ascends 0 high row.slots.slots)
    → AllPairs (λ row other. Meets row other → ⊥) rows
    → AllPairs AreApartWrites (flat_map opening_writes rows)
openings-apart high [] ascend apart = pairs-none AreApartWrites
openings-apart high (row ∷ rows) ascend apart =
    let differ = λ (one other : ChannelRow). (Meets one other → ⊥) in
    subst (λ (writes : List Write). AllPairs AreApartWrites writes)
    (sym (flat_map-cons opening_writes row rows))
    (pairs-append AreApartWrites (opening_writes row) (flat_map opening_writes rows)
    (row-apart row high (ascend row (Contains-here row rows)))
    (openings-apart high rows (λ other has. ascend other (Contains-there row rows other has))
    (pairs-tail differ row rows apart))
    (λ one two has_one has_two.
    let (other, is_in, own) = flat_map-Contains opening_writes rows two has_two in
    let share_none = all_has (differ row) rows other (pairs-head differ row rows apart) is_in in
    rows-apart row other share_none one two (opening-of row one has_one) (opening-of other two own)))
