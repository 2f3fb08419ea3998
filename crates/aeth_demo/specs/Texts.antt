-- The files that are made from a number.
-- This project's own.
use Rattle.std.proofs.Common.{ℕ, List}
use Rattle.aeth_demo.specs.{Mesh.mesh_text, Streams.streams_text, Traces.receivers_text}
use Rattle.aeth_demo.specs.{Traces.switches_text, Traces.words_text}

-- Five files: a chip, an application, and three traces.
pub record TextsData : Type 0 where
  pub chip : List ℕ
  pub app : List ℕ
  pub words : List ℕ
  pub receivers : List ℕ
  pub switches : List ℕ

-- Those of a number.
abbrev pub texts_of : ℕ → TextsData
texts_of n = record {
  chip = mesh_text;
  app = streams_text n;
  words = words_text n;
  receivers = receivers_text;
  switches = switches_text;
}
