-- The next multiple is the least, and the way to it wraps nowhere. Assumes nothing.
use Rattle.std.proofs.Common.{arith}
use Rattle.bases.proofs.AlignLaws.{next_aligned, next_least}
use Rattle.bases.proofs.align_up.Goals as goal

pub returns-then-step-stop : goal.returns-then-step-stop
returns-then-step-stop c = record {
  within = omega arith;
  reached = omega arith;
  aligned = λ h. next_aligned c.args.value c.args.alignment c.requires;
  none_before = λ x h l e. omega (arith, next_least c.args.value c.args.alignment c.requires (omega arith) x h e);
}
