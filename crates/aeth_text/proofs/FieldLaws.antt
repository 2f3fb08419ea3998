-- The fields of a line, each with its reader and its writer.
use Rattle.std.proofs.Common.{◌≡◌, ◌<◌, ◌≤◌, ◌^◌, ◌∙◌, ℕ, Bool, true, false, cond, List, [], ◌∷◌}
use Rattle.std.proofs.Common.{length, map, Option, Some, None, refl, sym, ap, arith, codes, decimal}
use Rattle.std.proofs.Common.{nat_le, nat_lt, le-leb, leb-true, ltb-true}
use Rattle.std.proofs.lemmas.{Fmt.decimal_is_IsNumeral, Str.Parse.digit_from_value}
use Rattle.std.proofs.lemmas.{Bool.Decides.nat_tests, Bool.and_parts, Bool.cond-true}
use Rattle.std.proofs.lemmas.{List.length-map, Option.none-some, Option.same_Some}
use Rattle.std.proofs.lemmas.{Slice.Eq.bytes_eq-Decides}
use Rattle.std.specs.List.{AllByRecursion, join_with_byte, list_all}
use Rattle.std.specs.Str.{bytes_eq, Parse.AllDigits}
use Rattle.aeth_base.specs.{Limits.min_path_links, Name.is_name, Name.is_name_byte, Name.name_of}
use Rattle.aeth_base.specs.{Number.number_of, declared.ids.LinkId.LinkId, declared.ids.Side.Side}
use Rattle.aeth_base.specs.{declared.ids.Side.TheVariants.Fwd, declared.ids.Side.TheVariants.Back}
use Rattle.aeth_base.proofs.NameLemmas.{name_only}
use Rattle.aeth_base.proofs.Numbers.{number_of-decimal, number_of-some}
use Rattle.aeth_text.specs.Fields.{are_ascending, ascending_in, is_path, link_in, links_in}
use Rattle.aeth_text.specs.Fields.{number_in, side_in}
use Rattle.aeth_text.specs.Grammar.{headed, parts}
use Rattle.aeth_text.specs.Limits.{comma, line_feed, max_number, space}
use Rattle.aeth_text.specs.Spelling.{link_word, links_word, numbers_word, side_word}
use Rattle.aeth_text.proofs.Readers.{ReadsBack, reads_all, reads_as, reads_headed, reads_kept}
use Rattle.aeth_text.proofs.PartLaws.{Above, Above-less, reads_parts}

-- ---- Names

name_again : (name : List ℕ) → is_name name ≡ true → name_of name ≡ Some name
name_again name is = cond-true (is_name name) (Some name) None is

name_byte : (byte : ℕ) → is_name_byte byte ≡ true → comma < byte
name_byte byte is = grind (arith, nat_tests)

name_bytes : (name : List ℕ) → list_all is_name_byte name ≡ true → Above comma name
name_bytes [] is = tt
name_bytes (byte ∷ name) is =
    let (first, rest) = and_parts (is_name_byte byte) (list_all is_name_byte name) is in
    (name_byte byte first, name_bytes name rest)

name_good : (name : List ℕ) → is_name name ≡ true → Above comma name
name_good name is =
    let (sizes, bytes) = and_parts _ (list_all is_name_byte name) is in name_bytes name bytes

pub reads_name : ReadsBack (Above comma) name_of (λ name. name) (λ name. is_name name ≡ true)
reads_name = record { again = name_again; only = name_only; good = name_good }

-- ---- Numbers

Above-digits : (ds : List ℕ) → AllDigits 10 ds → Above comma ds
Above-digits [] are = tt
Above-digits (d ∷ ds) are =
    (omega (arith, (digit_from_value d are.0).0), Above-digits ds are.1)

pub Above-decimal : (n : ℕ) → n < 2 ^ 64 → Above comma (decimal n)
Above-decimal n small = Above-digits (decimal n) (decimal_is_IsNumeral n small).0.1

number_of-reads : ReadsBack (Above comma) number_of decimal (λ n. n < 2 ^ 64)
number_of-reads = record {
  again = λ n small. number_of-decimal n (decimal n) small refl;
  only = λ word n e. let (small, is) = number_of-some word n e in (sym is, small);
  good = Above-decimal;
}

-- A number that a text may have.
abbrev pub IsNumber : ℕ → Type 0
IsNumber n = n ≤ max_number

pub reads_number : ReadsBack (Above comma) number_in decimal IsNumber
unfolding number_in
reads_number =
    let reads = reads_kept (λ n. nat_le n max_number) number_of-reads in record {
      again = λ n small. reads.again n (omega (arith, small), le-leb n max_number small);
      only = λ word n e. let (same, has) = reads.only word n e in
          (same, leb-true n max_number has.1);
      good = λ n small. Above-decimal n (omega (arith, small));
    }

-- A link.
reads_link : ReadsBack (Above comma) link_in link_word (λ link. IsNumber link.0)
reads_link = reads_as (λ n. record { 0 = n }) (λ link. link.0) (λ n. refl) (λ link. refl)
    reads_number

-- ---- Sides

side_again : (side : Side) → side_in (side_word side) ≡ Some side
unfolding side_in side_word
side_again Fwd = refl
side_again Back = refl

side_only : (word : List ℕ) (side : Side) → side_in word ≡ Some side → side_word side ≡ word
unfolding side_in side_word
side_only word side e =
    let back : (b : Bool) → bytes_eq word (codes "back") ≡ b → cond b (Some Back) None ≡ Some side
    → side_word side ≡ word =
    elim [
      | true ↦ λ is same. ap side_word (sym (same_Some Back side same))
          ∙ sym ((bytes_eq-Decides word (codes "back")).0 is)
      | false ↦ λ is same. absurd (none-some side same)
    ] in
    let fwd : (b : Bool) → bytes_eq word (codes "fwd") ≡ b
    → cond b (Some Fwd) (cond (bytes_eq word (codes "back")) (Some Back) None) ≡ Some side
    → side_word side ≡ word =
    elim [
      | true ↦ λ is same. ap side_word (sym (same_Some Fwd side same))
          ∙ sym ((bytes_eq-Decides word (codes "fwd")).0 is)
      | false ↦ λ is same. back (bytes_eq word (codes "back")) refl same
    ]
    in fwd (bytes_eq word (codes "fwd")) refl e

side_good : (side : Side) → Above comma (side_word side)
unfolding side_word
side_good Fwd = (omega arith, (omega arith, (omega arith, tt)))
side_good Back = (omega arith, (omega arith, (omega arith, (omega arith, tt))))

pub reads_side : ReadsBack (Above comma) side_in side_word (λ side. Unit {0})
reads_side = record {
  again = λ side has. side_again side;
  only = λ word side e. (side_only word side e, tt);
  good = λ side has. side_good side;
}

-- ---- Lists

some_links : (links : List LinkId) → is_path links ≡ true → 0 < length (map link_word links)
some_links links is =
    let (least, most) = and_parts (nat_le min_path_links (length links)) _ is in
    let two : 2 ≤ length links = grind (arith, nat_tests) in
    omega (arith, length-map links link_word)

pub reads_links : ReadsBack (Above space) links_in links_word
    (λ links. AllByRecursion (λ link. IsNumber link.0) links × (is_path links ≡ true))
unfolding links_in links_word
reads_links =
    reads_parts space comma (omega arith) (λ links has. some_links links has.1)
    (reads_kept is_path (reads_all reads_link))

some_numbers : (numbers : List ℕ) → are_ascending numbers ≡ true → 0 < length (map decimal numbers)
some_numbers numbers is =
    let (least, rising) = and_parts (nat_le 1 (length numbers)) _ is in
    let one : 1 ≤ length numbers = grind (arith, nat_tests) in
    omega (arith, length-map numbers decimal)

pub reads_ascending : ReadsBack (Above space) ascending_in numbers_word
    (λ numbers. AllByRecursion IsNumber numbers × (are_ascending numbers ≡ true))
unfolding ascending_in numbers_word
reads_ascending =
    reads_parts space comma (omega arith) (λ numbers has. some_numbers numbers has.1)
    (reads_kept are_ascending (reads_all reads_number))

-- ---- Lines

-- A field's word is a word of a line.
pub word : {X : Type 0} {read : List ℕ → Option X} {write : X → List ℕ} {P : X → Type 0}
    → ReadsBack (Above comma) read write P → ReadsBack (Above space) read write P
word {write} reads = record {
  again = reads.again;
  only = reads.only;
  good = λ x has. Above-less space comma (write x) (omega arith) (reads.good x has);
}

-- Letters are above the space.
pub letters : (text : List ℕ) → list_all (nat_lt space) text ≡ true → Above space text
letters [] is = tt
letters (byte ∷ text) is =
    let (first, rest) = and_parts (nat_lt space byte) (list_all (nat_lt space) text) is in
    (ltb-true space byte first, letters text rest)

-- A line that begins with a word.
pub line_of : {X : Type 0} {more : List (List ℕ) → Option X} {write : X → List (List ℕ)}
    {P : X → Type 0} (first : List ℕ) → list_all (nat_lt space) first ≡ true
    → ReadsBack (AllByRecursion (Above space)) more write P
    → ReadsBack (Above line_feed) (λ line. headed first more (parts space line))
    (λ x. join_with_byte space (first ∷ write x)) P
line_of first fits reads =
    reads_parts line_feed space (omega arith) (λ x has. omega arith)
    (reads_headed first (letters first fits) reads)
