-- What the `fwd` channel of a unit took is given back: all is as it was before.
use Rattle.std.proofs.Common.{◌≡◌, ◌≢◌, ◌∙◌, ◌<◌, ◌≤◌, ◌++◌, ℕ, List, [], ◌∷◌, Option, Some, None}
use Rattle.std.proofs.Common.{cond, get_or, length, take, slice_get, refl, sym, ap, subst, arith}
use Rattle.std.proofs.Common.{IfSome, IsSome, IsSomeAnd, is_none}
use Rattle.std.proofs.Math.Seq.{take-append_seam}
use Rattle.std.proofs.lemmas.{List.length_push, Option.same_Some, Option.slice_get-get_or}
use Rattle.aeth_base.specs.declared.ids.{CoreId.CoreId, NiId.NiId, Side.TheVariants.Fwd}
use Rattle.aeth_base.specs.declared.ids.{Unit.Unit as GroupUnit}
use Rattle.aeth_chip.specs.declared.node.Link.{Link}
use Rattle.aeth_app.specs.{App.IsConnection, declared.connection.Connection.Connection}
use Rattle.aeth_group.specs.declared.grant.Grant.{Grant}
use Rattle.aeth_book.specs.Book.{BookData, IsBook, with_grant}
use Rattle.aeth_seats.specs.{Places.Place, Places.seat_of, Seats.IsSeats, Seats.SeatsData}
use Rattle.aeth_seats.proofs.SeatLemmas.{seats-undone}
use Rattle.aeth_paths.specs.declared.request.Found.{Found}
use Rattle.aeth_alloc.specs.Channels.{Design, Reserved, grant_of, tried, with_found, with_seat}
use Rattle.aeth_alloc.specs.Channels.{with_seat_by}
use Rattle.aeth_alloc.specs.Holds.{IsCandidateFor, IsDesign, IsReservedOf, IsWithoutLast}
use Rattle.aeth_alloc.specs.Holds.{MayGiveBack, given_back, unseated_of}
use Rattle.aeth_alloc.proofs.{SeatedLemmas.AreSeated, SeatedLemmas.both-seated}
use Rattle.aeth_alloc.proofs.{SeatedLemmas.other-with_seat, SeatLineLemmas.SitsOn}
use Rattle.aeth_alloc.proofs.{TriedLemmas.tried-some, TurnLemmas.alike-seat}

-- ---- seats

back-by : (seats : SeatsData) (core : CoreId) (ni : NiId) (place : Option Place)
    → core.0 < length seats.places → seat_of seats.places core.0 ≡ place
    → given_back (with_seat_by seats core.0 ni place) (cond (is_none place) (Some core) None)
    ≡ seats
back-by seats core ni (Some place) there at = refl
back-by seats core ni None there at = seats-undone seats core.0 ni there at

-- A core that took a seat, where it had none, and gave it back, leaves all as it was.
back-one : (seats : SeatsData) (core : CoreId) (ni : NiId) → core.0 < length seats.places
    → given_back (with_seat seats core.0 ni) (unseated_of seats core) ≡ seats
back-one seats core ni there =
    back-by seats core ni (seat_of seats.places core.0) there refl

-- The same of two cores, one after the other.
pub seats-back : (seats : SeatsData) (a b : CoreId) (from to : NiId) → b.0 ≢ a.0
    → a.0 < length seats.places → b.0 < length seats.places
    → given_back (given_back (with_seat (with_seat seats a.0 from) b.0 to) (unseated_of seats b))
    (unseated_of seats a) ≡ seats
seats-back seats a b from to apart a_is b_is =
    let one : SeatsData = with_seat seats a.0 from in
    let there : b.0 < length one.places =
    subst (λ n. b.0 < n) (sym (alike-seat seats a.0 from).cores) b_is in
    let same : unseated_of one b ≡ unseated_of seats b =
    ap (λ place. cond (is_none place) (Some b) None) (other-with_seat seats a.0 from b.0 apart) in
    ap (λ core. given_back (given_back (with_seat one b.0 to) core) (unseated_of seats a)) (sym same)
    ∙ ap (λ before. given_back before (unseated_of seats a)) (back-one one b to there)
    ∙ back-one seats a from a_is

-- ---- the book

front-same : {X : Type 0} (xs ys : List X) (x y : X) → xs ++ x ∷ [] ≡ ys ++ y ∷ [] → xs ≡ ys
front-same xs ys x y same =
    let sizes : length xs ≡ length ys =
    omega (arith, length_push xs x, length_push ys y, ap length same) in
    sym (take-append_seam xs (x ∷ []))
    ∙ ap (λ zs. take (length xs) zs) same
    ∙ ap (λ n. take n (ys ++ y ∷ [])) sizes
    ∙ take-append_seam ys (y ∷ [])

-- Without its last grant a book is what it was before this grant.
book-back : (old new : BookData) (a b : Grant) → with_grant old a ≡ with_grant new b → new ≡ old
book-back old new a b same =
    let sizes = ap (λ (book : BookData). book.size) (sym same) in
    let links = ap (λ (book : BookData). book.links) (sym same) in
    let groups = ap (λ (book : BookData). book.groups) (sym same) in
    let grants = front-same new.grants old.grants b a
    (ap (λ (book : BookData). book.grants) (sym same)) in
    λ i. record { size = sizes i; links = links i; groups = groups i; grants = grants i }

-- ---- all that is reserved

-- A core without a seat isn't fixed.
not-fixed : (seats : SeatsData) (core : ℕ) (to : Option NiId) → IsSeats seats
    → slice_get seats.fixed core ≡ Some to → seat_of seats.places core ≡ None → to ≡ None
not-fixed seats core None are at none = refl
not-fixed seats core (Some ni) are at none =
    absurd (subst (λ (place : Option Place). IsSomeAnd place (λ p. p.0 ≡ ni)) none
    (are.stay core ni at))

some-sits : (place : Option Place) (ni : NiId) → IsSomeAnd place (λ p. p.0 ≡ ni) → IsSome place
some-sits None ni sits = absurd sits
some-sits (Some place) ni sits = refl

may-by : (seats new : SeatsData) (core : CoreId) (ni : NiId) (place : Option Place)
    → IsSeats seats → core.0 < length seats.places → new.fixed ≡ seats.fixed
    → SitsOn new.places core.0 ni → seat_of seats.places core.0 ≡ place
    → IfSome (cond (is_none place) (Some core) None) (MayGiveBack new)
may-by seats new core ni (Some place) are there fixed sits at = tt
may-by seats new core ni None are there fixed sits at =
    let low : core.0 < length seats.fixed = omega (arith, there, are.cores) in
    let its = slice_get-get_or seats.fixed core.0 None low in
    record {
      seated = some-sits (seat_of new.places core.0) ni sits;
      free = ap (λ (f : List (Option NiId)). slice_get f core.0) fixed ∙ its
          ∙ ap Some (not-fixed seats core.0 (get_or seats.fixed core.0 None) are its at);
    }

-- A core that had no seat, and has one then, may give it back.
may-give-back : (seats new : SeatsData) (core : CoreId) (ni : NiId) → IsSeats seats
    → core.0 < length seats.places → new.fixed ≡ seats.fixed → SitsOn new.places core.0 ni
    → IfSome (unseated_of seats core) (MayGiveBack new)
may-give-back seats new core ni are there fixed sits =
    may-by seats new core ni (seat_of seats.places core.0) are there fixed sits refl

-- What the `fwd` channel of a unit took, where it was granted.
pub record IsTaken (before both : Reserved) (connection : Connection) : Type 0 where
  pub some : 1 ≤ length both.book.grants
  pub from : IfSome (unseated_of before.seats connection.from) (MayGiveBack both.seats)
  pub to : IfSome (unseated_of before.seats connection.to) (MayGiveBack both.seats)
  pub back : (new : Reserved) → IsWithoutLast both.book new.book
      → new.seats ≡ given_back (given_back both.seats (unseated_of before.seats connection.to))
      (unseated_of before.seats connection.from) → new ≡ before

module _ (design : Design) (before : Reserved) (are : IsSeats before.seats)
    (of : IsReservedOf design before) (unit : GroupUnit) (connection : Connection)
    (joined : IsConnection (length design.app.cores) connection) (found : Found)
    (candidate : IsCandidateFor design before connection unit Fwd found) where
  both : Reserved
  both = with_found before connection unit Fwd found

  from-there : connection.from.0 < length before.seats.places
  from-there = subst (λ n. connection.from.0 < n) (sym of.cores) joined.from

  to-there : connection.to.0 < length before.seats.places
  to-there = subst (λ n. connection.to.0 < n) (sym of.cores) joined.to

  other : connection.to.0 ≢ connection.from.0
  other same = joined.apart (sym same)

  sits : AreSeated before.seats both.seats connection.from.0 connection.to.0 found.from found.to
  unfolding both
  sits = both-seated before.seats connection.from.0 connection.to.0 found.from found.to are other
      from-there to-there candidate.allowed

  fixed : both.seats.fixed ≡ before.seats.fixed
  unfolding both
  fixed = (alike-seat (with_seat before.seats connection.from.0 found.from) connection.to.0
      found.to).fixed ∙ (alike-seat before.seats connection.from.0 found.from).fixed

  taken-by : IsTaken before (with_found before connection unit Fwd found) connection
  unfolding both
  taken-by = record {
    some = omega (arith, length_push before.book.grants (grant_of unit Fwd found));
    from = may-give-back before.seats both.seats connection.from found.from are from-there fixed
        sits.sends;
    to = may-give-back before.seats both.seats connection.to found.to are to-there fixed
        sits.receives;
    back = λ new (last, without) seats.
        let books : new.book ≡ before.book =
        book-back before.book new.book (grant_of unit Fwd found) last without in
        let again : new.seats ≡ before.seats =
        seats ∙ seats-back before.seats connection.from connection.to found.from found.to other
        from-there to-there in
        λ i. record { book = books i; seats = again i };
  }

-- What a granted `fwd` channel took can be given back, and then all is as it was before. The design is
-- told by its parts, and what was reserved too.
pub taken : (inside design : Design) (start before both : Reserved) (unit : GroupUnit)
    (connection : Connection) (links : List Link) → inside ≡ design → start ≡ before
    → IsDesign inside links → IsBook start.book → IsSeats start.seats → IsReservedOf design before
    → slice_get inside.app.connections unit.conn.0 ≡ Some connection
    → IsConnection (length inside.app.cores) connection → tried design before unit Fwd ≡ Some both
    → IsTaken start both connection
taken inside design start before both unit connection links view viewed of_chip book are of is joined
    granted =
    let here : IsReservedOf inside start =
    subst (λ (d : Design). IsReservedOf d start) (sym view)
    (subst (IsReservedOf design) (sym viewed) of) in
    let try : tried inside start unit Fwd ≡ Some both =
    (λ i. tried (view i) (viewed i) unit Fwd) ∙ granted in
    let its = tried-some inside start of_chip.chip book here.links unit Fwd both try in
    let same : its.connection ≡ connection = same_Some _ _ (sym its.is ∙ is) in
    subst (IsTaken start both) same
    (subst (λ (r : Reserved). IsTaken start r its.connection) its.new_is
    (taken-by inside start are here unit its.connection
    (subst (IsConnection (length inside.app.cores)) (sym same) joined) its.found its.candidate))
