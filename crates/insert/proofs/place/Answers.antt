-- Each row is asked up to the first that passes. Assumes nothing.
use Rattle.std.proofs.Common.{rules, ap, ◌∙◌}
use Rattle.tables.proofs.ChainLaws.{find_first}
use Rattle.insert.specs.Places.{place_of}
use Rattle.insert.proofs.place.Goals as goal

pub returns : goal.returns
returns c = c.unwrap_or.ensures ∙ ap (λ h. place_of h c.args.t.now.n) (find_first _ _ _ _ _ c.find.ensures.ran (λ x b p h. search rules))
