-- What is allowed ends within its kind's width. Assumes nothing.
use Rattle.std.proofs.Common.{arith, sym, ◌∙◌}
use Rattle.search.proofs.AllowedLaws.{allowed_high}
use Rattle.choose.proofs.HitLaws.{top_fits}
use Rattle.choose.proofs.allowed.Goals as goal

pub overflow_add-result : goal.overflow_add-result
overflow_add-result c = omega (arith, allowed_high _ _ _ (sym c.range_allowed.ensures ∙ c.if-range_allowed.true), top_fits c.args.need.kind)
