-- Two channels that are together in a group enter no link in one slot.
use Rattle.std.proofs.Common.{◌≡◌, ◌∙◌, ℕ, ◌+◌, ◌%◌, ◌&&◌, Bool, true, List, [], ◌∷◌, Contains}
use Rattle.std.proofs.Common.{Option, Some, None, slice_get, refl, sym, ap, inl, inr, eqb-true}
use Rattle.std.proofs.Common.{eq-eqb, ◌==◌, IfSome, find, unwrap_or}
use Rattle.std.proofs.lemmas.Bool.{cases_Bool, and_from, and_parts}
use Rattle.aeth_base.specs.declared.ids.{Channel.Channel, LinkId.LinkId}
use Rattle.aeth_base.specs.Sides.{same_side}
use Rattle.aeth_base.proofs.{Members.Contains-here, Members.Contains-there, SideLemmas.same_side-is}
use Rattle.aeth_chip.specs.Paths.{offset}
use Rattle.aeth_group.specs.{Members.group_at, Members.has_at, Occupation.Occupies}
use Rattle.aeth_group.specs.{Occupation.holds_in, Occupation.occupies, declared.grant.Grant.Grant}
use Rattle.aeth_group.proofs.{ConflictLemmas.conflict_from_held, OccupationLemmas.occupies-Decides}
use Rattle.aeth_report.specs.{Design.Design, Design.grant_at, Design.is_for, Design.no_grant}
use Rattle.aeth_report.specs.{Sessions.AreTogether, Sound.AreGranted}

-- What a search finds in a list is in it, and passes the test.
find-passes : {X : Type 0} (test : X → Bool) (xs : List X)
    → IfSome (find test xs) (λ x. Contains xs x × (test x ≡ true))
find-passes test [] = tt
find-passes {X} test (x ∷ xs) = elim (cases_Bool (test x)) [
  | inl is ↦ rw is (Contains-here x xs, is)
  | inr other ↦
      let more : (found : Option X) → IfSome found (λ y. Contains xs y × (test y ≡ true))
      → IfSome found (λ y. Contains (x ∷ xs) y × (test y ≡ true)) = elim [
        | None ↦ λ none. tt
        | Some y ↦ λ some. (Contains-there x xs y some.0, some.1)
      ] in
      rw other (more (find test xs) (find-passes test xs))
]

module _ (design : Design) where
  -- A grant of the plan for a channel in a group.
  pub record IsGrantFor (channel : Channel) (g : ℕ) (grant : Grant) : Type 0 where
    pub has : Contains design.grants grant
    pub conn : grant.unit.conn.0 ≡ channel.conn.0
    pub group : grant.unit.group.0 ≡ g
    pub side : grant.side ≡ channel.side

  -- A grant of the plan that passes the test is one.
  pub grant-for : (channel : Channel) (g : ℕ) (grant : Grant) → Contains design.grants grant
      → is_for channel g grant ≡ true → IsGrantFor channel g grant
  grant-for channel g grant has passes =
      let group = grant.unit.group.0 == g in
      let side = same_side grant.side channel.side in
      let outer = and_parts (grant.unit.conn.0 == channel.conn.0) (group && side) passes in
      let inner = and_parts group side outer.1 in
      record {
        has = has;
        conn = eqb-true grant.unit.conn.0 channel.conn.0 outer.0;
        group = eqb-true grant.unit.group.0 g inner.0;
        side = same_side-is grant.side channel.side inner.1;
      }

  -- A channel's grant in a group is one, where it has a link.
  pub grant_at-is : (channel : Channel) (g i : ℕ) (l : LinkId)
      → slice_get (grant_at design channel g).path i ≡ Some l
      → IsGrantFor channel g (grant_at design channel g)
  grant_at-is channel g i l at =
      let missing = no_grant design.chip.slots channel g in
      let cases : (found : Option Grant)
      → IfSome found (λ x. Contains design.grants x × (is_for channel g x ≡ true))
      → slice_get (unwrap_or found missing).path i ≡ Some l
      → IsGrantFor channel g (unwrap_or found missing) = elim [
        | None ↦ λ none there. absurd (cc there)
        | Some grant ↦ λ some there. grant-for channel g grant some.0 some.1
      ] in
      cases (find (is_for channel g) design.grants)
      (find-passes (is_for channel g) design.grants) at

  -- Channels of one grant are one.
  same_channel : (channel other : Channel) (g : ℕ) (a b : Grant) → IsGrantFor channel g a
      → IsGrantFor other g b → a ≡ b → channel ≡ other
  same_channel channel other g a b one two same =
      let conn : channel.conn.0 ≡ other.conn.0 =
      sym one.conn ∙ ap (λ (x : Grant). x.unit.conn.0) same ∙ two.conn in
      let side : channel.side ≡ other.side =
      sym one.side ∙ ap (λ (x : Grant). x.side) same ∙ two.side in
      λ k. record { conn = record { 0 = conn k }; side = side k }

  module _ (granted : AreGranted design) where
    -- A flit of a channel in a group enters a link in a slot.
    pub record EntersIn (channel : Channel) (g l i s : ℕ) : Type 0 where
      pub start : ℕ
      pub place : slice_get (grant_at design channel g).path i ≡ Some (record { 0 = l })
      pub starts : Contains (grant_at design channel g).slots.slots start
      pub slot : (start + offset design.chip.links (grant_at design channel g).path i)
          % design.chip.slots ≡ s

    -- So its grant occupies it.
    occupied : (channel : Channel) (g l i s : ℕ) → EntersIn channel g l i s
        → Occupies design.chip.links (grant_at design channel g) l s
    occupied channel g l i s enters =
        let link : LinkId = record { 0 = l } in
        let is = grant_at-is channel g i link enters.place in
        let size = granted.sizes (grant_at design channel g) is.has in
        record {
          place = i;
          link = link;
          start = enters.start;
          on_path = enters.place;
          is_link = refl;
          starts = enters.starts;
          slot = rw size enters.slot;
        }

    -- In a use case of the group that has the connection it is held there.
    held : (channel : Channel) (g l i s u : ℕ) → group_at design.groups u ≡ g
        → has_at design.groups u channel.conn.0 ≡ true → EntersIn channel g l i s
        → holds_in design.groups design.chip.links u l s (grant_at design channel g) ≡ true
    held channel g l i s u in_group has enters =
        let grant = grant_at design channel g in
        let is = grant_at-is channel g i (record { 0 = l }) enters.place in
        let group = in_group ∙ sym is.group in
        and_from
        (has_at design.groups u grant.unit.conn.0
        && (group_at design.groups u == grant.unit.group.0))
        (occupies design.chip.links grant l s)
        (and_from (has_at design.groups u grant.unit.conn.0)
        (group_at design.groups u == grant.unit.group.0) (rw is.conn has)
        (eq-eqb (group_at design.groups u) grant.unit.group.0 group))
        ((occupies-Decides design.chip.links grant l s).1 (occupied channel g l i s enters))

    -- Two channels that are together in a group and enter a link in one slot are one, at one place.
    pub entered_once : (channel other : Channel) (g l i j s : ℕ)
        → AreTogether design.groups g channel.conn.0 other.conn.0 → EntersIn channel g l i s
        → EntersIn other g l j s → (channel ≡ other) × (i ≡ j)
    entered_once channel other g l i j s together enters too =
        let u = together.use_case in
        let a = grant_at design channel g in
        let b = grant_at design other g in
        let one = grant_at-is channel g i (record { 0 = l }) enters.place in
        let two = grant_at-is other g j (record { 0 = l }) too.place in
        let conflict = conflict_from_held design.groups design.chip.links a b (record {
          use_case = u;
          link = l;
          slot = s;
          first = held channel g l i s u together.in_group together.first enters;
          second = held other g l j s u together.in_group together.second too;
        }) in
        let same = granted.clear a b one.has two.has conflict in
        let again : slice_get a.path j ≡ Some (record { 0 = l }) =
        ap (λ (x : Grant). slice_get x.path j) same ∙ too.place in (
          same_channel channel other g a b one two same,
          granted.once a i j (record { 0 = l }) one.has enters.place again,
        )
