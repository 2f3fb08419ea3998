use Rattle.std.proofs.Common.{◌≡◌, ◌∙◌, Some, length, ap, subst, sym, option_map}
use Rattle.aeth_app.specs.App.{IsConnection}
use Rattle.aeth_alloc.specs.Channels.{Design, Reserved, tried, with_found}
use Rattle.aeth_alloc.specs.Holds.{IsCandidateFor, IsReservedOf}
use Rattle.aeth_alloc.proofs.GrantLemmas.{candidate-free, candidate-links, candidate-size}
use Rattle.aeth_alloc.proofs.StepLemmas.{MaySit, found-candidate, granted-steps, may-sit, tried-of}
use Rattle.aeth_alloc.proofs.channels.Reserved.try_channel.Goals.{In-Some, In_ok-found}
use Rattle.aeth_alloc.proofs.channels.Reserved.try_channel.Given as given
use Rattle.aeth_alloc.proofs.channels.Reserved.try_channel.Goals as goal

-- What was found is a candidate.
candidate : (g : given.Over) (c : goal.In-Some g) → IsCandidateFor c.args.design.now
    (record { book = c.self.inside.book; seats = c.self.inside.seats })
    c.connection-connection.result c.args.unit c.args.side c.in-Some.found
candidate g c =
    found-candidate c.args.design.now _ _ c.connection-connection.result c.args.unit c.args.side
    c.in-Some.found _ c.self.view_is c.in-Some.is c.in_ok-found.ensures.is

-- The book takes its grant.
pub add-requires : goal.add-requires
add-requires g c =
    let at = (goal.at.add-requires g c).In-Some in
    record {
      links = candidate-links at.self.inside.book _ _ _ _ at.in-Some.found (candidate g at);
      size = candidate-size at.self.inside.book _ _ _ _ at.in-Some.found (candidate g at);
      free = candidate-free at.self.inside.book _ _ _ _ at.in-Some.found (candidate g at);
    }

-- The cores may sit at its ends.
may : (g : given.Over) (c : goal.In-Some g) → MaySit c.self.inside.seats c.sender-from.result
    c.receiver-to.result c.in-Some.found.from c.in-Some.found.to
may g c =
    may-sit c.args.design.now _ c.connection-connection.result c.args.unit c.args.side
    c.in-Some.found c.sender-from.result c.receiver-to.result
    (subst (IsReservedOf c.args.design.now) (sym c.self.view_is) c.requires.reserved)
    (subst (λ (d : Design). IsConnection (length d.app.cores) c.connection-connection.result)
    c.design.view_is c.connection-connection.ensures.joined) (candidate g c)
    c.sender-from.ensures c.receiver-to.ensures

pub seat-requires-clause-free : goal.seat-requires-clause-free
seat-requires-clause-free g c =
    (may g (goal.at.seat-requires-clause-free g c).In-Some).sender

pub seat-requires-2-clause-free : goal.seat-requires-2-clause-free
seat-requires-2-clause-free g c =
    (may g (goal.at.seat-requires-2-clause-free g c).In-Some).receiver c.seat.new.self.seats
    (ap (λ (r : Reserved). r.seats) c.seat.ensures)

-- What the try comes to, by what was found.
comes : (g : given.Over) (c : goal.In_ok-found g)
    → tried c.args.design.now c.args.self.now c.args.unit c.args.side
    ≡ option_map (with_found c.args.self.now c.connection-connection.result c.args.unit c.args.side)
    c.in_ok-found.field-0
comes g c =
    tried-of _ c.args.design.now c.args.self.now c.args.unit c.args.side _ _ c.design.view_is
    c.connection-connection.ensures.connection c.in_ok-found.ensures.first

pub returns-in_default-clause-tried : goal.returns-in_default-clause-tried
returns-in_default-clause-tried g c =
    rw c.in_default.is at (comes g (goal.at.returns-in_default-clause-tried g c).In_ok-found)

pub returns-clause-tried : goal.returns-clause-tried
returns-clause-tried g c =
    (rw c.in-Some.is at (comes g (goal.at.returns-clause-tried g c).In_ok-found))
    ∙ ap Some (granted-steps _ _ c.connection-connection.result c.args.unit c.args.side
    c.in-Some.found _ _ _ _ _ c.self.view_is
    c.sender-from.ensures c.receiver-to.ensures c.in_ok-add.ensures.ok c.seat.ensures
    c.seat-2.ensures)
