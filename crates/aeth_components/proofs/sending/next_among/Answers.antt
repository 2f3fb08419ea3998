use Rattle.std.proofs.Common.{◌∙◌, arith, inl, inr, sym}
use Rattle.std.proofs.lemmas.Bool.{cases_eq, cases_lt}
use Rattle.aeth_components.proofs.NextLemmas.{none-marked, none-round}
use Rattle.aeth_components.proofs.sending.next_among.Goals as goal

-- In the slots of those that are passed over no component is marked.
pub cycles-init : goal.cycles-init
cycles-init c =
    let next = c.next_marked-cycle.ensures in
    record {
      least = next.from;
      most = next.end;
      none = λ other over below.
          none-marked c.args.parts.now c.args.injecting.now c.requires.injecting other
          (λ number. next.none other number over below);
    }

pub cycles-preserved : goal.cycles-preserved
cycles-preserved c =
    let next = c.next_marked-cycle-in-cycles.ensures in
    let done = c.cycles.invariant in
    let cycle = c.cycles.cycle in
    record {
      least = (let least = done.least in omega (arith, least, next.from));
      most = next.end;
      none = λ other over below sender. elim (cases_lt other cycle) [
        | inl before ↦ done.none other over before sender
        | inr since ↦ elim (cases_eq other cycle) [
          | inl same ↦
              absurd (cc (sym c.if-does_send.false
              ∙ c.does_send.ensures.1 (rw (sym same) sender)))
          | inr apart ↦
              none-marked c.args.parts.now c.args.injecting.now c.requires.injecting other
              (λ number. next.none other number (omega (arith, since, apart)) below) sender
        ]
      ];
    }

-- This one sends.
pub returns-then-does_send : goal.returns-then-does_send
returns-then-does_send c =
    let done = c.cycles.invariant in
    record {
      least = done.least;
      most = (let below = c.cycles-test.true in omega arith);
      before = done.none;
      holds = λ less. c.does_send.ensures.0 c.if-does_send.true;
    }

-- All slots were looked at, or all cycles.
pub returns : goal.returns
returns c =
    let most = c.requires.injecting.tables.places.most in
    record {
      least = c.requires.order;
      most = omega arith;
      before = λ other over below.
          none-round c.args.parts.now c.args.injecting.now c.requires.injecting c.args.from other
          (λ near after within behind. c.cycles.invariant.none near after
          (omega (
            arith,
            within,
            behind,
            below,
            most,
            c.len.ensures,
            c.min-span.ensures,
            c.cycles-test.false,
          ))) over;
      holds = λ less. absurd (omega (arith, less));
    }
