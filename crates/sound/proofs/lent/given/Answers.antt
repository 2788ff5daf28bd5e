-- Each kind is asked. Assumes nothing.
use Rattle.std.proofs.Common.{rules, ◌∙◌}
use Rattle.std.proofs.lemmas.Iterator.{YieldsList-from_slice}
use Rattle.std.proofs.lemmas.Iterator.Search.{all_from_yields_List}
use Rattle.tables.specs.Views.{kind_of}
use Rattle.sound.specs.Tests.{given_of}
use Rattle.sound.proofs.StateLaws.{given_is}
use Rattle.sound.proofs.lent.given.Goals as goal

pub returns : goal.returns
returns c =
    all_from_yields_List (λ k. given_of c.args.s.now (kind_of k)) _ _ _ c.all.ensures.ran (YieldsList-from_slice _ c.iter.ensures.rest) (λ x b p h. search rules)
    ∙ given_is c.args.s.now
