-- Laws of header words, so that no other crate looks at bits.
use Rattle.std.proofs.Common.{◌≡◌, ◌/◌, ◌%◌, ◌^◌, Ok, arith}
use Rattle.std.proofs.lemmas.Bool.Decides.{nat_tests}
use Rattle.aeth_header.specs.Layout.{port_bits}
use Rattle.aeth_header.specs.declared.header.Header.{Header}
use Rattle.aeth_header.specs.Header.{IsPackable, word_of, fields_of, header_of, port_of, next_word}

-- The fields of a header's word are the header's.
pub fields_of-word_of : (header : Header) → IsPackable header
    → fields_of (word_of header) ≡ header
unfolding fields_of word_of
fields_of-word_of header packable = grind arith

-- What is packed is unpacked.
pub header_of-word_of : (header : Header) → IsPackable header
    → header_of (word_of header) ≡ Ok header
header_of-word_of header packable =
    rw (fields_of-word_of header packable) (grind (arith, nat_tests))

-- The output port of a header's word.
pub port_of-word_of : (header : Header) → IsPackable header
    → port_of (word_of header) ≡ header.route % 2 ^ port_bits
port_of-word_of header packable = rw (fields_of-word_of header packable)

-- A hop moves a header's route on by one port.
pub next_word-word_of : (header : Header) → IsPackable header
    → next_word (word_of header) ≡ word_of (record header { route = header.route / 2 ^ port_bits })
next_word-word_of header packable = rw (fields_of-word_of header packable)
