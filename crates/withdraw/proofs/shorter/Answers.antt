-- Some table's count is below what it was: the counts go in pairs. Assumes nothing.
use Rattle.std.proofs.Common.{rules, tests, ltb, ◌∙◌}
use Rattle.std.proofs.lemmas.Iterator.{YieldsList-from_slice, YieldsList-from_zip}
use Rattle.std.proofs.lemmas.Iterator.Consumers.{YieldsList-at}
use Rattle.std.proofs.lemmas.Iterator.Search.{any_from_yields_List}
use Rattle.std.specs.List.{list_any, zip}
use Rattle.definition.specs.Base.{any_of}
use Rattle.withdraw.specs.Answers.{shorter_of}
use Rattle.withdraw.proofs.shorter.Goals as goal

pub returns : goal.returns
unfolding shorter_of any_of
returns c =
    any_from_yields_List (λ p. ltb p.1 p.0) c.any.new.self _ c.any.result c.any.ensures.ran
    (YieldsList-from_zip (YieldsList-at c.zip.ensures.first (YieldsList-from_slice c.counts-before.result c.iter.ensures.rest)) (YieldsList-at c.zip.ensures.second (YieldsList-from_slice c.counts-after.result c.iter-2.ensures.rest)))
    (λ x b q k. search (rules, tests))
    ∙ (λ i. list_any (λ p. ltb p.1 p.0) (zip (c.counts-before.ensures i) (c.counts-after.ensures i)))
