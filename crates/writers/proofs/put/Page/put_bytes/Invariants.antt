-- Bytes put into a buffer: the first k bytes are put. Assumes nothing.
use Rattle.std.proofs.Common.{◌≡◌, take}
use Rattle.std.proofs.lemmas.List.Edits.{sets}
use Rattle.writers.proofs.put.Page.put_bytes.Given as goal

abbrev pub invariant-loop-k : goal.invariant-loop-k
invariant-loop-k l = record {
  same : l.self.out.ghost_name ≡ l.fn.self.out.ghost_name;
  stays : l.self.at ≡ l.fn.self.at;
  written : l.self.out.now ≡ sets l.fn.self.out.now l.at (take l.k l.w);
}
