-- The lines of a plan text, each with its reader and its writer.
use Rattle.std.proofs.Common.{◌≡◌, true, refl, codes}
use Rattle.std.specs.List.{AllByRecursion}
use Rattle.aeth_base.specs.Name.{is_name}
use Rattle.aeth_text.specs.{Fields.are_ascending, Fields.is_path, Limits.line_feed}
use Rattle.aeth_text.proofs.FieldLaws.{IsNumber, letters, line_of, reads_ascending, reads_links}
use Rattle.aeth_text.proofs.FieldLaws.{reads_name, reads_number, reads_side, word}
use Rattle.aeth_text.proofs.Readers.{ReadsBack, reads_as, reads_field, reads_headed, reads_last}
use Rattle.aeth_text.proofs.PartLaws.{Above}
use Rattle.aeth_plan.specs.Lines.{GrantWords, grant_in, grant_text, head_in, seat_in, seat_text}
use Rattle.aeth_plan.specs.Spelling.{IsGrantText, IsSeatText, grant_line, head_line, seat_line}

pub reads_head : ReadsBack (Above line_feed) head_in head_line IsNumber
unfolding head_in head_line
reads_head =
    line_of (codes "plan") refl
    (reads_headed (codes "1") (letters (codes "1") refl) (reads_last (word reads_number)))

pub reads_seat : ReadsBack (Above line_feed) seat_in seat_line IsSeatText
unfolding seat_in seat_line
reads_seat =
    let reads =
    reads_as seat_text (λ s. (s.core, (s.ni, s.seat))) (λ f. refl) (λ s. refl)
    (line_of (codes "seat") refl
    (reads_field (word reads_name) (reads_field (word reads_name)
    (reads_last (word reads_number))))) in record {
      again = λ s has. reads.again s (has.core, (has.ni, has.seat));
      only = λ line s e. let (same, has) = reads.only line s e in
          (same, record { core = has.0; ni = has.1.0; seat = has.1.1 });
      good = λ s has. reads.good s (has.core, (has.ni, has.seat));
    }

-- What holds of a grant's text, field by field.
grant_fields : (g : GrantWords) → IsGrantText g
    → (is_name g.conn ≡ true) × (IsNumber g.group × (Unit {0}
    × ((AllByRecursion (λ link. IsNumber link.0) g.links × (is_path g.links ≡ true))
    × (AllByRecursion IsNumber g.starts × (are_ascending g.starts ≡ true)))))
grant_fields g has =
    (has.conn, (has.group, (tt, ((has.links, has.is_path), (has.starts, has.ascending)))))

pub reads_grant : ReadsBack (Above line_feed) grant_in grant_line IsGrantText
unfolding grant_in grant_line
reads_grant =
    let reads =
    reads_as grant_text (λ g. (g.conn, (g.group, (g.side, (g.links, g.starts))))) (λ f. refl)
    (λ g. refl)
    (line_of (codes "grant") refl
    (reads_field (word reads_name) (reads_field (word reads_number)
    (reads_field (word reads_side) (reads_field reads_links (reads_last reads_ascending)))))) in
    record {
      again = λ g has. reads.again g (grant_fields g has);
      only = λ line g e. let (same, has) = reads.only line g e in (
        same,
        record {
          conn = has.0;
          group = has.1.0;
          links = has.1.1.1.0.0;
          is_path = has.1.1.1.0.1;
          starts = has.1.1.1.1.0;
          ascending = has.1.1.1.1.1;
        },
      );
      good = λ g has. reads.good g (grant_fields g has);
    }
