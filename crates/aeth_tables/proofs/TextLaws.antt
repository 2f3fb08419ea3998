-- Lines that are printed one after the other.
use Rattle.std.proofs.Common.{◌≡◌, ◌∙◌, ◌+◌, ◌++◌, ℕ, List, [], ◌∷◌, All, append_assoc, sym, ap}
use Rattle.std.proofs.Common.{arith, ◌<◌, Bool, true, false, cond, add-one, drop, filter, get_or}
use Rattle.std.proofs.Common.{length, map, zero-add, refl, flat_map, ◌||◌, append-nil}
use Rattle.std.proofs.lemmas.{Bool.false≢true, Grind.flat_map-append, List.drop_more}
use Rattle.std.proofs.lemmas.{List.Elements.All-cons, List.Elements.All-head}
use Rattle.std.proofs.lemmas.{List.Elements.All-tail, List.Concat.flat_map-cons}
use Rattle.std.specs.List.{list_any, range_with_len}
use Rattle.aeth_base.proofs.Ranges.{range_with_len-more}
use Rattle.aeth_server.specs.declared.shape.ChannelShape.{ChannelShape}
use Rattle.aeth_text.specs.Spelling.{ended_line, text_of_lines}
use Rattle.aeth_ni.specs.declared.row.ChannelRow.{ChannelRow}
use Rattle.aeth_tables.specs.TableText.{promised, promised_of}
use Rattle.aeth_tables.specs.declared.promised.PromisedRow.{PromisedRow}

-- What is given of one number more.
pub flat_map-more : {X : Type 0} (f : ℕ → List X) (i : ℕ)
    → flat_map f (range_with_len 0 (i + 1)) ≡ flat_map f (range_with_len 0 i) ++ f i
flat_map-more f i =
    ap (λ (n : ℕ). flat_map f (range_with_len 0 n)) (add-one i)
    ∙ ap (flat_map f) (range_with_len-more 0 i i (zero-add i))
    ∙ flat_map-append f (range_with_len 0 i) (i ∷ [])
    ∙ ap (λ xs. flat_map f (range_with_len 0 i) ++ xs) (flat_map-cons f i [] ∙ append-nil (f i))

-- The text of some lines and others is the text of both.
pub text-append : (lines others : List (List ℕ))
    → text_of_lines (lines ++ others) ≡ text_of_lines lines ++ text_of_lines others
text-append lines others = flat_map-append ended_line lines others

-- Before the first number nothing is printed.
pub lines_none : (f : ℕ → List (List ℕ)) (start : List ℕ)
    → start ≡ start ++ text_of_lines (flat_map f (range_with_len 0 0))
lines_none f start = sym (append-nil start)

-- The lines of one number more are printed.
pub lines_more : (f : ℕ → List (List ℕ)) (i : ℕ) (start out new : List ℕ)
    → out ≡ start ++ text_of_lines (flat_map f (range_with_len 0 i))
    → new ≡ out ++ text_of_lines (f i)
    → new ≡ start ++ text_of_lines (flat_map f (range_with_len 0 (i + 1)))
lines_more f i start out new so_far more =
    let before = flat_map f (range_with_len 0 i) in
    more ∙ ap (λ text. text ++ text_of_lines (f i)) so_far
    ∙ append_assoc start (text_of_lines before) (text_of_lines (f i))
    ∙ ap (λ text. start ++ text) (sym (text-append before (f i))
    ∙ ap text_of_lines (sym (flat_map-more f i)))

-- The same, where the lines are of a name and of rows that are told otherwise.
pub lines_more_of : {X : Type 0} (f : List ℕ → List X → ℕ → List (List ℕ)) (name told : List ℕ)
    (rows own : List X) (i : ℕ) (start out new : List ℕ) → told ≡ name → own ≡ rows
    → out ≡ start ++ text_of_lines (flat_map (f name rows) (range_with_len 0 i))
    → new ≡ out ++ text_of_lines (f told own i)
    → new ≡ start ++ text_of_lines (flat_map (f name rows) (range_with_len 0 (i + 1)))
lines_more_of f name told rows own i start out new named same so_far more =
    lines_more (f name rows) i start out new so_far
    (more ∙ ap (λ n. out ++ text_of_lines (f n own i)) named
    ∙ ap (λ rs. out ++ text_of_lines (f name rs i)) same)

-- ---- Rows that pass a test

or_fails : (a b : Bool) → (a || b) ≡ false → (a ≡ false) × (b ≡ false)
or_fails true b none = absurd (false≢true (sym none))
or_fails false b none = (refl, none)

module _ {X : Type 0} (test : X → Bool) (line : X → List ℕ) where
  -- The lines of those that pass.
  abbrev pub printed : List X → List ℕ
  printed rows = text_of_lines (map line (filter test rows))

  -- A row that passes is printed.
  pub printed-passes : (rows : List X) (i : ℕ) (one : X) (out new total : List ℕ)
      → i < length rows → one ≡ get_or rows i one → test one ≡ true
      → new ≡ out ++ ended_line (line one) → out ++ printed (drop i rows) ≡ total
      → new ++ printed (drop (i + 1) rows) ≡ total
  printed-passes rows i one out new total within at passes is left =
      let rest = drop (i + 1) rows in
      let next : drop i rows ≡ one ∷ rest =
      drop_more rows i one within ∙ ap (λ x. x ∷ rest) (sym at) in
      let more : printed (one ∷ rest) ≡ ended_line (line one) ++ printed rest =
      ap (λ (b : Bool). text_of_lines (map line (cond b (one ∷ filter test rest) (filter test rest))))
      passes ∙ flat_map-cons ended_line (line one) (map line (filter test rest)) in
      ap (λ text. text ++ printed rest) is
      ∙ append_assoc out (ended_line (line one)) (printed rest)
      ∙ ap (λ text. out ++ text) (sym more)
      ∙ ap (λ rs. out ++ printed rs) (sym next) ∙ left

  -- One that doesn't pass isn't.
  pub printed-fails : (rows : List X) (i : ℕ) (one : X) (out new total : List ℕ)
      → i < length rows → one ≡ get_or rows i one → test one ≡ false → new ≡ out
      → out ++ printed (drop i rows) ≡ total → new ++ printed (drop (i + 1) rows) ≡ total
  printed-fails rows i one out new total within at fails is left =
      let rest = drop (i + 1) rows in
      let next : drop i rows ≡ one ∷ rest =
      drop_more rows i one within ∙ ap (λ x. x ∷ rest) (sym at) in
      let none : printed (one ∷ rest) ≡ printed rest =
      ap (λ (b : Bool). text_of_lines (map line (cond b (one ∷ filter test rest) (filter test rest))))
      fails in
      ap (λ text. text ++ printed rest) is
      ∙ ap (λ text. out ++ text) (sym none)
      ∙ ap (λ rs. out ++ printed rs) (sym next) ∙ left

-- ---- Rows with what their channels are promised

-- What holds of all rows holds of all with what their channels are promised.
pub all_promised : (P : ChannelRow → Type 0) (rows : List ChannelRow) (shapes : List ChannelShape)
    → All P rows → All (λ (one : PromisedRow). P one.row) (promised_of rows shapes)
all_promised P [] shapes all = λ place default within. absurd (omega arith)
all_promised P (row ∷ rows) [] all = λ place default within. absurd (omega arith)
all_promised P (row ∷ rows) (shape ∷ shapes) all =
    All-cons (λ (one : PromisedRow). P one.row) (promised (row, shape)) (promised_of rows shapes)
    (All-head P row rows all) (all_promised P rows shapes (All-tail P row rows all))

-- Where no row passes, none is printed.
pub printed-none : {X : Type 0} (test : X → Bool) (line : X → List ℕ) (rows : List X)
    → list_any test rows ≡ false → text_of_lines (map line (filter test rows)) ≡ []
printed-none test line [] none = refl
printed-none {X} test line (row ∷ rows) none =
    let (here, later) = or_fails (test row) (list_any test rows) none in
    ap (λ (b : Bool). text_of_lines (map line (cond b (row ∷ filter test rows) (filter test rows))))
    here ∙ printed-none test line rows later

-- A line, others, and a last one, as they are printed.
pub text-all : (head last : List ℕ) (entries queues : List (List ℕ))
    → text_of_lines (head ∷ (entries ++ (queues ++ last ∷ [])))
    ≡ ((ended_line head ++ text_of_lines entries) ++ text_of_lines queues) ++ ended_line last
text-all head last entries queues =
    flat_map-cons ended_line head (entries ++ (queues ++ last ∷ []))
    ∙ ap (λ text. ended_line head ++ text) (text-append entries (queues ++ last ∷ [])
    ∙ ap (λ text. text_of_lines entries ++ text) (text-append queues (last ∷ [])
    ∙ ap (λ text. text_of_lines queues ++ text) (flat_map-cons ended_line last []
    ∙ append-nil (ended_line last))))
    ∙ sym (append_assoc (ended_line head ++ text_of_lines entries) (text_of_lines queues)
    (ended_line last)
    ∙ append_assoc (ended_line head) (text_of_lines entries)
    (text_of_lines queues ++ ended_line last))
