-- Channels by their numbers.
use Rattle.std.proofs.Common.{◌≡◌, ◌+◌, ◌*◌, ◌&&◌, refl, inl, inr, arith, ◌==◌, eq-eqb, ne_eqb}
use Rattle.std.proofs.lemmas.Bool.{cases_eq}
use Rattle.aeth_base.specs.declared.ids.Channel.{Channel}
use Rattle.aeth_base.specs.declared.ids.Side.{Side, TheVariants.Back, TheVariants.Fwd}
use Rattle.aeth_base.specs.Sides.{same_side}
use Rattle.aeth_trace.specs.Channels.{channel_number, is_channel, side_number}

-- Channels of one number are of one connection.
pub same-connection : (one other : Channel) → channel_number one ≡ channel_number other
    → one.conn.0 ≡ other.conn.0
same-connection one other same =
    let cases : (a b : Side) → 2 * one.conn.0 + side_number a ≡ 2 * other.conn.0 + side_number b
    → one.conn.0 ≡ other.conn.0 = elim [
      | Fwd ↦ elim [ Fwd ↦ λ is. omega arith | Back ↦ λ is. omega arith ]
      | Back ↦ elim [ Fwd ↦ λ is. omega arith | Back ↦ λ is. omega arith ]
    ] in
    cases one.side other.side same

-- A channel is another exactly where the other has its number.
pub number-test : (one other : Channel)
    → is_channel one other ≡ (channel_number other == channel_number one)
number-test one other =
    let a = one.conn.0 in
    let b = other.conn.0 in
    let cases : (s r : Side) → ((a == b) && same_side s r)
    ≡ (2 * b + side_number r == 2 * a + side_number s) = elim [
      | Fwd ↦ elim [
        | Fwd ↦ elim (cases_eq a b) [
          | inl same ↦
              rw (eq-eqb a b same, eq-eqb (2 * b + 0) (2 * a + 0) (omega arith)) refl
          | inr differs ↦
              rw (
                ne_eqb a b differs,
                ne_eqb (2 * b + 0) (2 * a + 0) (λ e. differs (omega arith)),
              ) refl
        ]
        | Back ↦ elim (cases_eq a b) [
          | inl same ↦
              rw (eq-eqb a b same, ne_eqb (2 * b + 1) (2 * a + 0) (λ e. absurd (omega arith))) refl
          | inr differs ↦
              rw (
                ne_eqb a b differs,
                ne_eqb (2 * b + 1) (2 * a + 0) (λ e. absurd (omega arith)),
              ) refl
        ]
      ]
      | Back ↦ elim [
        | Fwd ↦ elim (cases_eq a b) [
          | inl same ↦
              rw (eq-eqb a b same, ne_eqb (2 * b + 0) (2 * a + 1) (λ e. absurd (omega arith))) refl
          | inr differs ↦
              rw (
                ne_eqb a b differs,
                ne_eqb (2 * b + 0) (2 * a + 1) (λ e. absurd (omega arith)),
              ) refl
        ]
        | Back ↦ elim (cases_eq a b) [
          | inl same ↦
              rw (eq-eqb a b same, eq-eqb (2 * b + 1) (2 * a + 1) (omega arith)) refl
          | inr differs ↦
              rw (
                ne_eqb a b differs,
                ne_eqb (2 * b + 1) (2 * a + 1) (λ e. differs (omega arith)),
              ) refl
        ]
      ]
    ] in
    cases one.side other.side
