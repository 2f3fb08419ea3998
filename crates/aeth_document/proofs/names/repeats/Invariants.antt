use Rattle.std.proofs.Common.{◌≡◌, ◌≤◌, ◌++◌, length, map, take}
use Rattle.aeth_document.specs.{Arrays.texts_in, Walks.repeats, Walks.walked}
use Rattle.aeth_document.proofs.names.repeats.Given as goal

abbrev pub invariant-loop-text : goal.invariant-loop-text
invariant-loop-text l = record {
  walk : walked l.walk (repeats (map (λ t. t.now) l.seen.keys) (texts_in l.text-iterator))
      ≡ walked l.fn.walk (repeats (map (λ t. t.now) l.initial.seen.keys) (texts_in l.fn.texts));
  seen : map (λ t. t.now) l.seen.keys ++ (texts_in l.text-iterator)
      ≡ map (λ t. t.now) l.initial.seen.keys ++ (texts_in l.fn.texts);
  within : length l.initial.seen.keys ≤ length (map (λ t. t.now) l.seen.keys);
  front : take (length l.initial.seen.keys) (map (λ t. t.now) l.seen.keys)
      ≡ map (λ t. t.now) l.initial.seen.keys;
}
