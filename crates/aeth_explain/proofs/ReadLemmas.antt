-- What is known of lists that were read: their links are the chip's, and each try has some.
use Rattle.std.proofs.Common.{◌≡◌, ◌<◌, ℕ, suc, Bool, true, false, List, [], ◌∷◌, All, Result, Ok}
use Rattle.std.proofs.Common.{Err, Option, length, ap, cond, refl, subst, IfOk, nat_lt}
use Rattle.std.proofs.lemmas.List.Elements.{All-from_recursion}
use Rattle.std.specs.List.{AllByRecursion, list_all}
use Rattle.aeth_app.specs.{App.AppData, Connections.connection_names}
use Rattle.aeth_base.specs.{Faults.BrokenRule, Faults.Reads, declared.ids.LinkId.LinkId}
use Rattle.aeth_chip.specs.Chip.{ChipData}
use Rattle.aeth_group.specs.Members.{GroupsData}
use Rattle.aeth_plan.specs.Rules.{each, found, holds, place_among}
use Rattle.aeth_plan.proofs.{Chains.ok_is, Places.all_below, Places.holds_ok}
use Rattle.aeth_document.proofs.ChainLemmas.{bind_ok}
use Rattle.aeth_text.specs.Order.{line_after}
use Rattle.aeth_explain.specs.CutsFaults.{wrong_try}
use Rattle.aeth_explain.specs.CutsText.{AreLinksOf, blocks_of, cuts_behind, cuts_of_text}
use Rattle.aeth_explain.specs.CutsText.{known_line, matched, same_try}
use Rattle.aeth_explain.specs.Texts.{text_of}
use Rattle.aeth_explain.specs.declared.text_lines.LineText.{LineText}
use Rattle.aeth_explain.specs.declared.text_lines.LineText.TheVariants.{Cut, Try}
use Rattle.aeth_explain.specs.declared.try_line.{KnownLine.KnownLine, KnownLine.TheVariants.Listed}
use Rattle.aeth_explain.specs.declared.try_line.{KnownLine.TheVariants.Tried, TryLine.TryLine}

-- What holds of the value that a text has holds of what was read.
pub if-read : {X Y E : Type 0} (P : Y → Type 0) (rule_of : E → Option BrokenRule) (view : X → Y) (result : Result X E)
    (defined : Result Y BrokenRule) → Reads rule_of view result defined
    → ((y : Y) → defined ≡ Ok y → P y) → IfOk result (λ x. P (view x))
if-read P rule_of view (Ok x) defined reads holds = holds (view x) reads
if-read P rule_of view (Err fault) defined reads holds = tt

module _ (chip : ChipData) (app : AppData) (groups : GroupsData) where
  -- What a line lists is links of the chip.
  abbrev HasLinks : KnownLine → Type 0
  HasLinks (Tried line) = Unit {0}
  HasLinks (Listed path) = All (λ (link : LinkId). link.0 < length chip.links) path

  known-links : (line : ℕ) (text : LineText) (known : KnownLine)
      → known_line chip app groups line text ≡ Ok known → HasLinks known
  unfolding known_line
  known-links line (Try words) known e =
      let (conn, e1, r1) =
      bind_ok (found line 2 (place_among (connection_names app) words.conn)) _ known e in
      let (u, e2, r2) = bind_ok (holds line 3 (nat_lt words.group groups.count)) _ known r1 in
      let made : TryLine = record {
        unit = record { conn = record { 0 = conn }; group = record { 0 = words.group } };
        side = words.side;
        turn = words.turn;
      } in
      subst HasLinks (ok_is (Tried made) known r2) tt
  known-links line (Cut links) known e =
      let (u, e1, r1) =
      bind_ok (holds line 2 (list_all (λ link. nat_lt link.0 (length chip.links)) links)) _ known e
      in
      subst HasLinks (ok_is (Listed links) known r1)
      (All-from_recursion (λ (link : LinkId). link.0 < length chip.links) links
      (all_below (λ (link : LinkId). link.0) (length chip.links) links (holds_ok line 2 _ u e1)))

  each-links : (line : ℕ) (texts : List LineText) (known : List KnownLine)
      → each (known_line chip app groups) line texts ≡ Ok known → AllByRecursion HasLinks known
  each-links line [] known e = subst (AllByRecursion HasLinks) (ok_is [] known e) tt
  each-links line (text ∷ texts) known e =
      let (one, e1, r1) = bind_ok (known_line chip app groups line text) _ known e in
      let (others, e2, r2) =
      bind_ok (each (known_line chip app groups) (line_after line 1) texts) _ known r1 in
      subst (AllByRecursion HasLinks) (ok_is (one ∷ others) known r2)
      (known-links line text one e1, each-links (line_after line 1) texts others e2)

  cuts-links : (known : List KnownLine) → AllByRecursion HasLinks known
      → AllByRecursion (All (λ (link : LinkId). link.0 < length chip.links)) (cuts_behind known)
  cuts-links [] has = tt
  cuts-links (Tried line ∷ known) has = tt
  cuts-links (Listed path ∷ known) has = (has.0, cuts-links known has.1)

  blocks-links : (known : List KnownLine) → AllByRecursion HasLinks known
      → AllByRecursion (AreLinksOf chip) (blocks_of known)
  blocks-links [] has = tt
  blocks-links (Tried line ∷ known) has = (
    All-from_recursion (All (λ (link : LinkId). link.0 < length chip.links)) (cuts_behind known)
        (cuts-links known has.1),
    blocks-links known has.1,
  )
  blocks-links (Listed path ∷ known) has = blocks-links known has.1

  matched-count : (line : ℕ) (known : List KnownLine) (tries : List TryLine) (u : Unit {0})
      → matched line known tries ≡ Ok u → length (blocks_of known) ≡ length tries
  matched-count line [] [] u e = refl
  matched-count line [] (own ∷ tries) u e = absurd (cc e)
  matched-count line (Listed path ∷ known) tries u e =
      matched-count (line_after line 1) known tries u e
  matched-count line (Tried other ∷ known) [] u e = absurd (cc e)
  matched-count line (Tried other ∷ known) (own ∷ tries) u e =
      let go : (b : Bool) → cond b (matched (line_after line 1) known tries) (Err (wrong_try line))
      ≡ Ok u → length (blocks_of (Tried other ∷ known)) ≡ length (own ∷ tries) = elim [
        | true ↦ λ more. ap suc (matched-count (line_after line 1) known tries u more)
        | false ↦ λ none. absurd (cc none)
      ]
      in go (same_try own other) e

  -- The lists of a text have links of the chip, and each try has some lists.
  pub read-links : (tries : List TryLine) (bytes : List ℕ) (blocks : List (List (List LinkId)))
      → cuts_of_text chip app groups tries bytes ≡ Ok blocks → All (AreLinksOf chip) blocks
  unfolding cuts_of_text
  read-links tries bytes blocks e =
      let (lines, e1, r1) = bind_ok (text_of bytes) _ blocks e in
      let (known, e2, r2) = bind_ok (each (known_line chip app groups) 2 lines) _ blocks r1 in
      let (u, e3, r3) = bind_ok (matched 2 known tries) _ blocks r2 in
      subst (All (AreLinksOf chip)) (ok_is (blocks_of known) blocks r3)
      (All-from_recursion (AreLinksOf chip) (blocks_of known)
      (blocks-links known (each-links 2 lines known e2)))

  pub read-count : (tries : List TryLine) (bytes : List ℕ) (blocks : List (List (List LinkId)))
      → cuts_of_text chip app groups tries bytes ≡ Ok blocks → length blocks ≡ length tries
  unfolding cuts_of_text
  read-count tries bytes blocks e =
      let (lines, e1, r1) = bind_ok (text_of bytes) _ blocks e in
      let (known, e2, r2) = bind_ok (each (known_line chip app groups) 2 lines) _ blocks r1 in
      let (u, e3, r3) = bind_ok (matched 2 known tries) _ blocks r2 in
      subst (λ (all : List (List (List LinkId))). length all ≡ length tries)
      (ok_is (blocks_of known) blocks r3) (matched-count 2 known tries u e3)
