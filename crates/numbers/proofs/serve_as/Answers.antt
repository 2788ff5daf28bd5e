-- A list too short: what is judged before. Assumes nothing.
use Rattle.numbers.proofs.CallLaws.{short_says}
use Rattle.numbers.proofs.serve_as.Goals as goal

pub returns-in-Err : goal.returns-in-Err
returns-in-Err c = short_says _ _ _ _ _ _ c.in-Err.is c.judged-judged.ensures c.too_short.ensures c.say.ensures
