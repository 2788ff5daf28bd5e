-- `==` says whether two slices are the same bytes. Assumes nothing.
use Rattle.std.proofs.Common.{◌∙◌}
use Rattle.lines.proofs.PartLaws.{same_bytes}
use Rattle.reader.specs.Kinds.{word_of}
use Rattle.reader.proofs.kind.Kind.is.Goals as goal

pub returns : goal.returns
returns c = rw c.word.ensures at c.eq.ensures ∙ same_bytes c.args.word.now (word_of c.args.self)
