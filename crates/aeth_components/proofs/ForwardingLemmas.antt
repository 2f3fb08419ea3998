-- What is noted of components: how each sends flits on in every cycle alike.
use Rattle.std.proofs.Common.{ℕ, ◌≡◌, ◌<◌, ◌+◌, ◌++◌, ◌∷◌, ◌∙◌, [], ap, arith, inl, inr, sym, List}
use Rattle.std.proofs.Common.{Some, length, length-set, map, slice_get, take, length-append}
use Rattle.std.proofs.lemmas.{Bool.cases_eq, List.map-append, Option.same_Some}
use Rattle.std.proofs.lemmas.{Option.slice_get_within}
use Rattle.std.specs.List.{slice_set}
use Rattle.aeth_base.proofs.Lists.{slice_get-push, slice_get-slice_set_other}
use Rattle.aeth_base.proofs.Lists.{slice_get-slice_set_same, take-slice_get}
use Rattle.aeth_clocked.specs.declared.flit.Flit.{Flit}
use Rattle.aeth_router.specs.Forwarding.{sent_by}
use Rattle.aeth_router.specs.declared.{forwarding.Forwarding.Forwarding, part.Part.Part}
use Rattle.aeth_components.specs.Passing.{AreForwarded, Way, way_of}

-- A forwarding tells how a component sends flits on.
abbrev pub Tells : Way → Forwarding → Type 0
Tells way forwarding = (out : ℕ) (flit : Flit) → sent_by forwarding out flit ≡ way.sent out (Some flit)

Tells-same : (way other : Way) (forwarding there : Forwarding) → way ≡ other → forwarding ≡ there
    → Tells way forwarding → Tells other there
Tells-same way other forwarding there same is tells out flit =
    ap (λ (forwarding : Forwarding). sent_by forwarding out flit) (sym is) ∙ tells out flit
    ∙ ap (λ (way : Way). way.sent out (Some flit)) same

-- It is noted of one component more.
AreForwarded-push : (ways : List Way) (noted : List Forwarding) (way : Way) (forwarding : Forwarding)
    → Tells way forwarding → AreForwarded ways noted
    → AreForwarded (ways ++ way ∷ []) (noted ++ forwarding ∷ [])
AreForwarded-push ways noted way forwarding tells before =
    let sized = before.size in
    record {
      size = length-append noted (forwarding ∷ []) ∙ ap (λ n. n + 1) sized
          ∙ sym (length-append ways (way ∷ []));
      at = λ number other there at noted_at.
          elim (slice_get-push ways way other number at) [
            | inl early ↦
                elim (slice_get-push noted forwarding there number noted_at) [
                  | inl noted_early ↦ before.at number other there early noted_early
                  | inr last ↦
                      let within = slice_get_within ways number other early in
                      let place = last.0 in
                      absurd (omega (arith, within, place, sized))
                ]
            | inr last ↦
                elim (slice_get-push noted forwarding there number noted_at) [
                  | inl noted_early ↦
                      let within = slice_get_within noted number there noted_early in
                      let place = last.0 in
                      absurd (omega (arith, within, place, sized))
                  | inr noted_last ↦
                      Tells-same way other forwarding there last.1 noted_last.1 tells
                ]
          ];
    }

pub AreForwarded-more : (parts : List Part) (noted : List Forwarding) (number : ℕ) (part : Part)
    (forwarding : Forwarding) → slice_get parts number ≡ Some part → Tells (way_of part) forwarding
    → AreForwarded (map way_of (take number parts)) noted
    → AreForwarded (map way_of (take (number + 1) parts)) (noted ++ forwarding ∷ [])
AreForwarded-more parts noted number part forwarding at tells before =
    rw (take-slice_get parts number part at, map-append way_of (take number parts) (part ∷ []))
    (AreForwarded-push (map way_of (take number parts)) noted (way_of part) forwarding tells before)

-- It is noted of the component that is at a place from now on.
pub AreForwarded-set : (ways : List Way) (noted : List Forwarding) (place : ℕ) (way : Way)
    (forwarding : Forwarding) → place < length noted → Tells way forwarding
    → AreForwarded ways noted
    → AreForwarded (slice_set ways place way) (slice_set noted place forwarding)
AreForwarded-set ways noted place way forwarding within tells before =
    let sized = before.size in
    record {
      size = length-set noted place forwarding ∙ sized ∙ sym (length-set ways place way);
      at = λ number other there at noted_at.
          elim (cases_eq number place) [
            | inl same ↦
                Tells-same way other forwarding there
                (same_Some way other
                (sym (slice_get-slice_set_same ways place way (omega (arith, within, sized)))
                ∙ ap (slice_get (slice_set ways place way)) (sym same) ∙ at))
                (same_Some forwarding there
                (sym (slice_get-slice_set_same noted place forwarding within)
                ∙ ap (slice_get (slice_set noted place forwarding)) (sym same) ∙ noted_at))
                tells
            | inr apart ↦
                before.at number other there
                (sym (slice_get-slice_set_other ways place number way apart) ∙ at)
                (sym (slice_get-slice_set_other noted place number forwarding apart) ∙ noted_at)
          ];
    }
