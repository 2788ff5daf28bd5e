-- The test of each word in turn. Assumes nothing.
use Rattle.std.proofs.Common.{◌∙◌, nat_le, rules, tests}
use Rattle.std.proofs.lemmas.Iterator.{YieldsList-from_slice}
use Rattle.std.proofs.lemmas.Iterator.Search.{all_from_yields_List}
use Rattle.definition.specs.Tables.{top}
use Rattle.registers.proofs.WordsLaws.{all_as}
use Rattle.registers.proofs.words_fit.Goals as goal

pub returns : goal.returns
returns c =
    all_from_yields_List (λ w. nat_le w (top 32)) _ _ _ c.all.ensures.ran (YieldsList-from_slice c.args.words.now c.iter.ensures.rest) (λ x b q k. search (rules, tests))
    ∙ all_as (λ w. nat_le w (top 32)) c.args.words.now
