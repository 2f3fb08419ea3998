use Rattle.std.proofs.Common.{◌≡◌, ◌∙◌, get_or, slice_get, ap, sym, subst, inl, inr, arith}
use Rattle.std.proofs.lemmas.Bool.{cases_lt, false≢true}
use Rattle.std.proofs.lemmas.Option.{same_Some, slice_get-get_or, slice_get_within}
use Rattle.aeth_audit.specs.{Judging.IsOpenAt, declared.places.Place.Place}
use Rattle.aeth_audit.proofs.FoundLemmas.{found-at, never-found, of-grants}
use Rattle.aeth_audit.proofs.judge.Judge.find.Goals as goal

-- No place.
abbrev none : Place
none = record { grant = 0; place = 0; ahead = 0 }

-- The places are those of grants.
pub grant_of-requires : goal.grant_of-requires
grant_of-requires c =
    let at = c.at-at.result.now in
    let k = c.loop-place.place-index in
    (of-grants c.args.self.now c.requires.judge c.args.row.now.link.0 c.args.row.now.cycle at
    c.at-at.ensures k (get_or at k none) (slice_get-get_or at k none c.loop-place-test.true)).below

-- One that is open is found.
pub returns-then-is_open_at-clause-some : goal.returns-then-is_open_at-clause-some
returns-then-is_open_at-clause-some c =
    let at = c.at-at.result.now in
    let k = c.loop-place.place-index in
    found-at c.args.self.now c.requires.judge c.args.row.now.link.0 c.args.row.now.cycle at
    c.at-at.ensures k (get_or at k none) c.grant_of.result.now
    (slice_get-get_or at k none c.loop-place-test.true) c.grant_of.ensures
    (c.is_open_at.ensures.0 c.if-is_open_at.true)

-- Another is passed over.
pub loop-place-preserved : goal.loop-place-preserved
loop-place-preserved c = λ k place grant less at is_grant opened.
    let judge = c.args.self.now in
    let t = c.args.row.now.cycle in
    let all = c.at-at.result.now in
    let i = c.loop-place.place-index in
    let item = get_or all i none in
    let own = c.grant_of.result.now in
    elim (cases_lt k i) [
      | inl before ↦ c.loop-place.invariant k place grant before at is_grant opened
      | inr past ↦
          let here : k ≡ i = omega arith in
          let same : place ≡ item = same_Some place item
          (sym at ∙ ap (slice_get all) here ∙ slice_get-get_or all i none c.loop-place-test.true) in
          let grants : grant ≡ own = same_Some grant own (sym is_grant
          ∙ ap (λ (p : Place). slice_get judge.plan.now.grants p.grant) same ∙ c.grant_of.ensures) in
          absurd (false≢true (sym c.if-is_open_at.false ∙ c.is_open_at.ensures.1
          (subst (λ (p : Place). IsOpenAt judge t p own) same
          (subst (IsOpenAt judge t place) grants opened))))
    ]

-- Where none is open, none is found.
pub returns-clause-none : goal.returns-clause-none
returns-clause-none c =
    let all = c.at-at.result.now in
    never-found c.args.self.now c.requires.judge c.args.row.now.link.0 c.args.row.now.cycle all
    c.at-at.ensures (λ k place grant at is_grant opened.
    let within = slice_get_within all k place at in
    c.loop-place.invariant k place grant (omega arith) at is_grant opened)
