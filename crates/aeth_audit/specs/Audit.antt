-- The audit of a log: whether each row is a flit that the network may carry there.
--
--   are_blank, is_addressed      rule 2
--   goes_on, row_on, has_before, has_after      rule 3
--   path_at, is_of_channel, is_joined      rules 2 and 3 at a reserved place
--   rule_at, broken_by      the rule that a row breaks
--   fault_before, first_fault, audit_of      the audit of a log
-- A header that names route and queue, and brings credits back: after Æthereal (2005). The rest:
-- this project's own.
use Rattle.std.proofs.Common.{ℕ, ◌+◌, ◌-◌, ◌*◌, ◌/◌, ◌^◌, ◌==◌, ◌&&◌, ◌||◌, not, nat_le, nat_lt}
use Rattle.std.proofs.Common.{Bool, true, false, List, [], ◌∷◌, filter, find, Option, Some, None}
use Rattle.std.proofs.Common.{slice_get, if◌then◌else◌}
use Rattle.std.specs.Option.{option_map_or}
use Rattle.aeth_base.specs.{declared.ids.LinkId.LinkId, Limits.words_per_flit}
use Rattle.aeth_chip.specs.{Paths.delay_of, declared.node.Link.Link}
use Rattle.aeth_clocked.specs.declared.flit.Flit.{Flit}
use Rattle.aeth_header.specs.{Header.fields_of, Header.next_word, Layout.port_bits}
use Rattle.aeth_report.specs.{Design.Design, Design.grant_at, Design.remote_at, Routes.route_along}
use Rattle.aeth_report.specs.{declared.session.Session.Session}
use Rattle.aeth_audit.specs.Limits.{broken_off, foreign, unreserved}
use Rattle.aeth_audit.specs.Reservations.{Reservation, reserved}
use Rattle.aeth_audit.specs.declared.verdict.Audit.{Audit, TheVariants.Clean, TheVariants.Fault}
use Rattle.aeth_audit.specs.declared.row.LinkRow.{LinkRow}

-- ---- Rule 2

-- Whether the words beyond the count are 0.
abbrev pub are_blank : ℕ → Flit → Bool
are_blank count flit =
    (nat_le 2 count || flit.second == 0) && (nat_le 1 count || flit.first == 0)

-- Whether a flit has this route and this queue, a word or a credit, at most two words, and none
-- beyond its count.
abbrev pub is_addressed : ℕ → ℕ → Flit → Bool
is_addressed route queue flit =
    let header = fields_of flit.header in
    header.route == route && header.queue == queue && nat_le header.count words_per_flit
    && not (header.count == 0 && header.credits == 0) && are_blank header.count flit

-- ---- Rule 3

-- Whether the first flit goes on as the second: behind a hop, with the same words.
abbrev pub goes_on : Flit → Flit → Bool
goes_on before after = after.header == next_word before.header
    && after.first == before.first && after.second == before.second

-- The row of a link in a cycle.
abbrev pub row_on : List LinkRow → ℕ → ℕ → Option LinkRow
row_on rows t l = find (λ row. row.cycle == t && row.link.0 == l) rows

module _ (links : List Link) (rows : List LinkRow) where
  -- Whether a flit was on a link a delay before, from which this one goes on.
  abbrev pub comes_from : LinkRow → LinkId → Bool
  comes_from row link = option_map_or (λ before. goes_on before.flit row.flit)
      (row_on rows (row.cycle - delay_of links link) link.0) false

  -- Whether a row at a place of a path has a row before it, unless the place is the first.
  abbrev pub has_before : List LinkId → ℕ → LinkRow → Bool
  has_before path place row =
      place == 0 || option_map_or (comes_from row) (slice_get path (place - 1)) false

  -- Whether a flit is on a link a delay after, unless that is the end or later, which goes on from
  -- this one.
  abbrev pub goes_to : ℕ → LinkRow → LinkId → Bool
  goes_to cycles row link =
      let after = row.cycle + delay_of links row.link in
      nat_le cycles after
      || option_map_or (λ next. goes_on row.flit next.flit) (row_on rows after link.0) false

  -- Whether it has a row after it, unless the place is the last.
  abbrev pub has_after : ℕ → List LinkId → ℕ → LinkRow → Bool
  has_after cycles path place row =
      option_map_or (goes_to cycles row) (slice_get path (place + 1)) true

-- ---- The rules of a row

-- The path of a reservation.
abbrev pub path_at : Design → Reservation → List LinkId
path_at design at = (grant_at design at.channel at.group).path

-- Rule 2: whether the flit is one of the channel for which the place is reserved.
abbrev pub is_of_channel : Design → Reservation → Flit → Bool
is_of_channel design at flit = is_addressed
    (route_along design.chip.links (path_at design at) / 2 ^ (port_bits * at.place))
    (remote_at design at.channel) flit

-- Rule 3: whether a row at a reserved place has one before it and one after it.
abbrev pub is_joined : Design → ℕ → List LinkRow → Reservation → LinkRow → Bool
is_joined design cycles rows at row =
    has_before design.chip.links rows (path_at design at) at.place row
    && has_after design.chip.links rows cycles (path_at design at) at.place row

-- The least rule that a row breaks, if it breaks one, where this place is reserved.
abbrev pub rule_at : Design → ℕ → List LinkRow → LinkRow → Option Reservation → Option ℕ
rule_at design cycles rows row None = Some unreserved
rule_at design cycles rows row (Some at) =
    if not (is_of_channel design at row.flit) then Some foreign
    else if not (is_joined design cycles rows at row) then Some broken_off else None

-- The fault of the row of this number, where it breaks a rule, before those of later rows.
abbrev pub fault_before : ℕ → Option ℕ → Audit → Audit
fault_before number None later = later
fault_before number (Some rule) later = Fault rule number

module _ (design : Design) (timeline : List (List Session)) (cycles : ℕ)
    (rows : List LinkRow) where
  -- The least rule that a row breaks, if it breaks one.
  abbrev pub broken_by : LinkRow → Option ℕ
  broken_by row = rule_at design cycles rows row
      (slice_get (reserved design timeline row.link.0 row.cycle) 0)

  -- The first row that breaks a rule, of which the first has this number.
  abbrev pub first_fault : ℕ → List LinkRow → Audit
  first_fault number [] = Clean
  first_fault number (row ∷ later) =
      fault_before number (broken_by row) (first_fault (number + 1) later)

-- The audit of a log: rows at the end or later take no part.
abbrev pub audit_of : Design → List (List Session) → List LinkRow → ℕ → Audit
audit_of design timeline log cycles =
    let rows = filter (λ row. nat_lt row.cycle cycles) log in
    first_fault design timeline cycles rows 1 rows
