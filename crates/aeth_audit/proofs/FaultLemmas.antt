-- The rule that a row breaks, and the first row that breaks one.
use Rattle.std.proofs.Common.{◌≡◌, ◌∙◌, ◌<◌, ◌+◌, ℕ, zero, suc, Bool, true, false, cond, List, []}
use Rattle.std.proofs.Common.{◌∷◌, Contains, Option, Some, None, slice_get, refl, sym, ap, subst}
use Rattle.std.proofs.Common.{inl, inr, arith, true≢false, not}
use Rattle.std.proofs.lemmas.Option.{same_Some}
use Rattle.aeth_base.proofs.Members.{Contains-here, Contains-nil, slice_get-Contains}
use Rattle.aeth_report.specs.{Flows.Run, Sound.IsSound, declared.session.Session.Session}
use Rattle.aeth_audit.specs.{Audit.broken_by, Audit.fault_before, Audit.first_fault}
use Rattle.aeth_audit.specs.{Audit.is_joined, Audit.is_of_channel, Audit.rule_at, Breaks.Breaks}
use Rattle.aeth_audit.specs.{Breaks.IsAuditOf, Breaks.IsClean, Limits.broken_off, Limits.foreign}
use Rattle.aeth_audit.specs.{Limits.unreserved, Reservations.Reservation, Reservations.reserved}
use Rattle.aeth_audit.specs.{Reserved.IsReserved, declared.verdict.Audit.Audit}
use Rattle.aeth_audit.specs.{declared.verdict.Audit.TheVariants.Clean}
use Rattle.aeth_audit.specs.{declared.verdict.Audit.TheVariants.Fault, declared.row.LinkRow.LinkRow}
use Rattle.aeth_audit.proofs.OneReservation.{AreSessionsOf, reserved-one}
use Rattle.aeth_audit.proofs.ReservationLemmas.{reserved-all, reserved-only}

module _ (run : Run) (sound : IsSound run) (timeline : List (List Session))
    (sessions : AreSessionsOf run timeline) where
  -- What a link is reserved for is the first of the list.
  pub reserved-first : (l t : ℕ) (at : Reservation) → IsReserved run.design timeline l t at
      → slice_get (reserved run.design timeline l t) 0 ≡ Some at
  reserved-first l t at is =
      let cases : (all : List Reservation) → reserved run.design timeline l t ≡ all
      → Contains all at → slice_get all 0 ≡ Some at = elim [
        | [] ↦ λ same has. Contains-nil has
        | one ∷ more ↦ λ same has.
            let listed : Contains (reserved run.design timeline l t) one =
            subst (λ (xs : List Reservation). Contains xs one) (sym same)
            (Contains-here one more) in
            ap Some (reserved-one run sound timeline sessions l t one at
            (reserved-only run.design timeline l t one listed) is)
      ] in
      cases (reserved run.design timeline l t) refl
      (reserved-all run.design timeline l t at is)

  -- Where it isn't reserved there is none.
  pub reserved-none : (l t : ℕ) → ((at : Reservation) → IsReserved run.design timeline l t at → ⊥)
      → slice_get (reserved run.design timeline l t) 0 ≡ None
  reserved-none l t never =
      let cases : (all : List Reservation) → reserved run.design timeline l t ≡ all
      → slice_get all 0 ≡ None = elim [
        | [] ↦ λ same. refl
        | one ∷ more ↦ λ same.
            let listed : Contains (reserved run.design timeline l t) one =
            subst (λ (xs : List Reservation). Contains xs one) (sym same)
            (Contains-here one more) in
            absurd (never one (reserved-only run.design timeline l t one listed))
      ] in
      cases (reserved run.design timeline l t) refl

  module _ (cycles : ℕ) (rows : List LinkRow) (row : LinkRow) where
    -- The row breaks this rule and no lesser one; or it breaks none.
    abbrev IsRuleOf : Option ℕ → Type 0
    IsRuleOf None = IsClean run.design timeline cycles rows row
    IsRuleOf (Some rule) = Breaks run.design timeline cycles rows row rule
        × ((lesser : ℕ) → lesser < rule → Breaks run.design timeline cycles rows row lesser → ⊥)

    -- Where it isn't reserved, it breaks rule 1, of which there is no lesser one.
    at-none : ((at : Reservation) → IsReserved run.design timeline row.link.0 row.cycle at → ⊥)
        → IsRuleOf (Some unreserved)
    at-none never = (
      inl (refl, never),
      λ lesser below. elim [
        | inl first ↦ let is = first.0 in absurd (omega arith)
        | inr later ↦ elim later [
          | inl second ↦ let is = second.0 in absurd (omega arith)
          | inr third ↦ let is = third.0 in absurd (omega arith)
        ]
      ],
    )

    module _ (at : Reservation)
        (is : IsReserved run.design timeline row.link.0 row.cycle at) where
      -- What breaks rules 2 and 3 does so at this place.
      once : (other : Reservation) → IsReserved run.design timeline row.link.0 row.cycle other
          → other ≡ at
      once other too =
          reserved-one run sound timeline sessions row.link.0 row.cycle other at too is

      not-first : (rule : ℕ) → Breaks run.design timeline cycles rows row rule → rule < foreign → ⊥
      not-first rule breaks below = elim breaks [
        | inl first ↦ first.1 at is
        | inr later ↦ elim later [
          | inl second ↦ let same = second.0 in absurd (omega arith)
          | inr third ↦ let same = third.0 in absurd (omega arith)
        ]
      ]

      not-second : is_of_channel run.design at row.flit ≡ true → (rule : ℕ)
          → Breaks run.design timeline cycles rows row rule → rule < broken_off → ⊥
      not-second of rule breaks below = elim breaks [
        | inl first ↦ first.1 at is
        | inr later ↦ elim later [
          | inl second ↦
              let own = once second.1.at second.1.reserved in
              true≢false (sym of
              ∙ ap (λ (x : Reservation). is_of_channel run.design x row.flit) (sym own)
              ∙ second.1.other)
          | inr third ↦ let same = third.0 in absurd (omega arith)
        ]
      ]

      never : is_of_channel run.design at row.flit ≡ true
          → is_joined run.design cycles rows at row ≡ true
          → IsClean run.design timeline cycles rows row
      never of joined rule breaks = elim breaks [
        | inl first ↦ first.1 at is
        | inr later ↦ elim later [
          | inl second ↦
              let own = once second.1.at second.1.reserved in
              true≢false (sym of
              ∙ ap (λ (x : Reservation). is_of_channel run.design x row.flit) (sym own)
              ∙ second.1.other)
          | inr third ↦
              let own = once third.1.at third.1.reserved in
              true≢false (sym joined
              ∙ ap (λ (x : Reservation). is_joined run.design cycles rows x row) (sym own)
              ∙ third.1.apart)
        ]
      ]

      -- Where it is reserved, the tests decide.
      at-some : IsRuleOf (rule_at run.design cycles rows row (Some at))
      at-some =
          let joins : (b : Bool) → is_joined run.design cycles rows at row ≡ b
          → is_of_channel run.design at row.flit ≡ true
          → IsRuleOf (cond (not b) (Some broken_off) None) = elim [
            | true ↦ λ joined of. never of joined
            | false ↦ λ apart of. (
              inr (inr (refl, record { at = at; reserved = is; apart = apart })),
              λ lesser below breaks. not-second of lesser breaks below,
            )
          ] in
          let cases : (b : Bool) → is_of_channel run.design at row.flit ≡ b
          → IsRuleOf (cond (not b) (Some foreign)
          (cond (not (is_joined run.design cycles rows at row)) (Some broken_off) None)) = elim [
            | true ↦ λ of. joins (is_joined run.design cycles rows at row) refl of
            | false ↦ λ other. (
              inr (inl (refl, record { at = at; reserved = is; other = other })),
              λ lesser below breaks. not-first lesser breaks below,
            )
          ] in
          cases (is_of_channel run.design at row.flit) refl

    -- The rule that a row breaks is the least that it breaks.
    pub rule-is : IsRuleOf (broken_by run.design timeline cycles rows row)
    rule-is =
        let all = reserved run.design timeline row.link.0 row.cycle in
        let cases : (xs : List Reservation) → all ≡ xs
        → IsRuleOf (rule_at run.design cycles rows row (slice_get xs 0)) = elim [
          | [] ↦ λ same. at-none (λ at is. Contains-nil
              (subst (λ (xs : List Reservation). Contains xs at) same
              (reserved-all run.design timeline row.link.0 row.cycle at is)))
          | one ∷ more ↦ λ same. at-some one
              (reserved-only run.design timeline row.link.0 row.cycle one
              (subst (λ (xs : List Reservation). Contains xs one) (sym same)
              (Contains-here one more)))
        ] in
        cases all refl

  module _ (cycles : ℕ) (rows : List LinkRow) where
    -- What an audit of rows says, of which the first has this number.
    record IsFound (number : ℕ) (later : List LinkRow) (rule n : ℕ) : Type 0 where
      place : ℕ
      row : LinkRow
      numbered : n ≡ number + place
      at : slice_get later place ≡ Some row
      breaks : broken_by run.design timeline cycles rows row ≡ Some rule
      first : (k : ℕ) (before : LinkRow) → k < place → slice_get later k ≡ Some before
          → broken_by run.design timeline cycles rows before ≡ None

    abbrev Says : ℕ → List LinkRow → Audit → Type 0
    Says number later Clean = (k : ℕ) (row : LinkRow) → slice_get later k ≡ Some row
        → broken_by run.design timeline cycles rows row ≡ None
    Says number later (Fault rule n) = IsFound number later rule n

    one-more : (number : ℕ) (row : LinkRow) (later : List LinkRow) (audit : Audit)
        → broken_by run.design timeline cycles rows row ≡ None → Says (number + 1) later audit
        → Says number (row ∷ later) audit
    one-more number row later Clean none says = elim [
      | zero ↦ λ other at.
          ap (broken_by run.design timeline cycles rows) (sym (same_Some row other at)) ∙ none
      | suc k ↦ λ other at. says k other at
    ]
    one-more number row later (Fault rule n) none says =
        let place = says.numbered in
        record {
          place = suc says.place;
          row = says.row;
          numbered = omega arith;
          at = says.at;
          breaks = says.breaks;
          first = elim [
            | zero ↦ λ before less at.
                ap (broken_by run.design timeline cycles rows) (sym (same_Some row before at))
                ∙ none
            | suc k ↦ λ before less at. says.first k before (omega arith) at
          ];
        }

    says-all : (number : ℕ) (later : List LinkRow)
        → Says number later (first_fault run.design timeline cycles rows number later)
    says-all number [] = λ k row at. absurd (cc at)
    says-all number (row ∷ later) =
        let rest = says-all (number + 1) later in
        let behind = first_fault run.design timeline cycles rows (number + 1) later in
        let cases : (o : Option ℕ) → broken_by run.design timeline cycles rows row ≡ o
        → Says number (row ∷ later) (fault_before number o behind) = elim [
          | None ↦ λ none. one-more number row later behind none rest
          | Some rule ↦ λ breaks. record {
            place = 0;
            row = row;
            numbered = omega arith;
            at = refl;
            breaks = breaks;
            first = λ k before less at. absurd (omega arith);
          }
        ] in
        cases (broken_by run.design timeline cycles rows row) refl

    rule-of : (row : LinkRow) (o : Option ℕ) → broken_by run.design timeline cycles rows row ≡ o
        → IsRuleOf cycles rows row o
    rule-of row o is = subst (IsRuleOf cycles rows row) is (rule-is cycles rows row)

    told : (audit : Audit) → Says 1 rows audit → IsAuditOf run.design timeline cycles rows audit
    told Clean says = λ row has.
        let (k, at) = slice_get-Contains rows row has in
        rule-of row None (says k row at)
    told (Fault rule n) says =
        let broken = rule-of says.row (Some rule) says.breaks in
        let numbered = says.numbered in
        record {
          place = says.place;
          row = says.row;
          numbered = omega arith;
          at = says.at;
          breaks = broken.0;
          least = broken.1;
          first = λ k before less at. rule-of before None (says.first k before less at);
        }

    -- The audit says which row is the first that breaks a rule, and the least rule that it breaks.
    pub audit-is : IsAuditOf run.design timeline cycles rows
        (first_fault run.design timeline cycles rows 1 rows)
    audit-is = told (first_fault run.design timeline cycles rows 1 rows) (says-all 1 rows)
