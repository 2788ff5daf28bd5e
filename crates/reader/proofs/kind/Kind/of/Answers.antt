-- The kind of a word is the first whose word it is. Assumes nothing.
use Rattle.std.proofs.Common.{◌≡◌, ◌∙◌, ap, true, false, rules, tests}
use Rattle.std.proofs.lemmas.Iterator.{YieldsList-from_slice, first_from_find}
use Rattle.std.proofs.lemmas.Iterator.Consumers.{YieldsList-from_copied}
use Rattle.lines.specs.Base.{same}
use Rattle.reader.specs.Kinds.{word_of, kinds}
use Rattle.std.specs.Slice.Iter.{iter_rest}
use Rattle.reader.proofs.ReadLaws.{kind_found}
use Rattle.reader.proofs.kind.Kind.of.Goals as goal

pub returns : goal.returns
returns c =
    let w = c.args.word.now in
    kind_found w c.find.result (first_from_find _ _ _ (λ k. same w (word_of k) ≡ true) (λ k. same w (word_of k) ≡ false) c.find.ensures.ran (YieldsList-from_copied (YieldsList-from_slice kinds (ap (λ s. iter_rest s) c.copied.ensures.source ∙ c.iter.ensures.rest))) (λ k q e. search (rules, tests)) (λ k q e. search (rules, tests)))
