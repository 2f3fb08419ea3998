-- What a wire carries in a cycle: the flits of all sessions that are on it then, as a list, so
-- that two flits on one wire in one cycle would be seen. This project's own.
use Rattle.std.proofs.Common.{ℕ, ◌-◌, ◌==◌, ◌&&◌, nat_le, if◌then◌else◌, Bool, List, [], ◌∷◌}
use Rattle.std.specs.List.{enumerate_from, flat_map, range_with_len}
use Rattle.aeth_clocked.specs.declared.flit.Flit.{Flit}
use Rattle.aeth_report.specs.Carries.{injects}
use Rattle.aeth_invariant.specs.RoutedSessions.{RoutedSessions, flow_at}
use Rattle.aeth_invariant.specs.Carried.{flit_of}

module _ (sessions : RoutedSessions) (l t : ℕ) where
  -- Whether a flit of a session is on the wire in the cycle, at a place of its path.
  abbrev pub is_on_wire : ℕ → ℕ × ℕ → Bool
  is_on_wire c place =
      place.1 == l && nat_le place.0 t && injects (flow_at sessions c) (t - place.0)

  -- That flit, if there is one.
  abbrev pub flits_at_place : ℕ → ℕ × ℕ → List Flit
  flits_at_place c place =
      if is_on_wire c place then flit_of sessions c place.0 (t - place.0) ∷ [] else []

  -- Those at all places of its path.
  abbrev pub flits_of_session : ℕ → List Flit
  flits_of_session c =
      flat_map (flits_at_place c) (enumerate_from 0 (sessions.routed_session c).wires)

  -- The flits that the wire carries in the cycle, in the order of sessions.
  abbrev pub carries : List Flit
  carries = flat_map flits_of_session (range_with_len 0 sessions.count)
