-- What a read takes of the records that are left.
use Rattle.std.proofs.Common.{◌≡◌, ◌∙◌, ◌+◌, ◌∷◌, ℕ, List, [], Bool, true, false, length, Some}
use Rattle.std.proofs.Common.{refl, sym, ap, arith, inl, ◌<◌, MatchBool, unwrap_or}
use Rattle.csv.specs.{Machine.Read, Machine.next_record, Machine.ends_at_end, Reading.Reached}
use Rattle.csv.specs.{Reading.ReadRecord, Reading.default_config, Reading.records_from}
use Rattle.csv.specs.{Reading.records_next, Reading.source_of, declared.parser.State.State}
use Rattle.csv.proofs.ReadFacts.{rows-end, rows-more}
use Rattle.aeth_records.specs.Left.{SliceReader, IsReading, bytes_left, known, left}
use Rattle.aeth_records.proofs.Steps.{next_leaves, next_shorter, records_from_enough}
use Rattle.aeth_records.proofs.Steps.{records_from-one}

pub left_at : (r : SliceReader) (ys : List ℕ) (s : State) → source_of known r ≡ Some ys
    → r.state ≡ s → left r ≡ records_from default_config (length ys + 1) s ys
unfolding left
left_at r ys s e t = rw (e, t)

-- a read that finds nothing
pub left-none : (a b : SliceReader) (f : List (List ℕ)) → IsReading a
    → ReadRecord known a b false f → left a ≡ []
left-none a b f h r =
    let y = bytes_left a in
    let none = rows-end known a b f default_config y h.settings h.source r in
    left_at a y a.state h.source refl ∙ records_from-one (length y) a.state y
    ∙ ap (records_next (records_from default_config (length y))) none

-- what a read found, and where it leads
pub record Took (a b : SliceReader) (f : List (List ℕ)) : Type 0 where
  pub rest : List ℕ
  pub read : Read
  pub source : source_of known b ≡ Some rest
  pub next : next_record default_config a.state [] [] (bytes_left a) ≡ Some read
  pub fields : f ≡ read.0
  pub state : read.1 ≡ b.state
  pub bytes : read.2 ≡ rest

took : (a b : SliceReader) (f : List (List ℕ)) → IsReading a → ReadRecord known a b true f
    → Took a b f
unfolding Reached
took a b f h r =
    let y = bytes_left a in
    let g = rows-more known a b f default_config a.state y y [] h.settings h.source
    (refl, refl) r in
    record {
      rest = g.0;
      read = g.2.0;
      source = g.1;
      next = g.2.1;
      fields = g.2.2;
      state =
          g.2.3.0;
      bytes = g.2.3.1;
    }

pub left-some : (a b : SliceReader) (f : List (List ℕ)) → IsReading a
    → ReadRecord known a b true f → left a ≡ f ∷ left b
left-some a b f h r =
    let t = took a b f h r in
    let y = bytes_left a in
    let p = t.read in
    let less : length p.2 < length y = next_shorter a.state y p h.between t.next in
    let between = (next_leaves a.state [] [] y p t.next).between in
    let rest : left b ≡ records_from default_config (length p.2 + 1) p.1 p.2 =
    left_at b p.2 p.1 (t.source ∙ ap Some (sym t.bytes)) (sym t.state) in
    left_at a y a.state h.source refl ∙ records_from-one (length y) a.state y
    ∙ ap (records_next (records_from default_config (length y))) t.next
    ∙ ap (λ rs. p.0 ∷ rs) (records_from_enough (length y) (length p.2 + 1) p.1 p.2 between less
    (omega arith) ∙ sym rest) ∙ ap (λ g. g ∷ left b) (sym t.fields)

pub reading_on : (a b : SliceReader) (f : List (List ℕ)) → IsReading a
    → ReadRecord known a b true f → b.first ≡ true → b.flexible ≡ a.flexible → IsReading b
reading_on a b f h r first flexible =
    let t = took a b f h r in
    let between = (next_leaves a.state [] [] (bytes_left a) t.read t.next).between in
    record {
      plain = r.3 ∙ h.plain;
      ready = inl first;
      settings = r.2 ∙ h.settings;
      flexible = flexible ∙ h.flexible;
      source = t.source ∙ ap (λ o. Some (unwrap_or o [])) (sym t.source);
      between = ap ends_at_end (sym t.state) ∙ between;
    }

pub left_by : (found : Bool) (a b : SliceReader) (f : List (List ℕ)) → IsReading a
    → ReadRecord known a b found f → MatchBool found (left a ≡ f ∷ left b) (left a ≡ [])
left_by true a b f h r = left-some a b f h r
left_by false a b f h r = left-none a b f h r
