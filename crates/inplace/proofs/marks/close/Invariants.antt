-- After k turns the rows from m on, k - m of them, are taken out or at their places. Assumes nothing.
use Rattle.inplace.proofs.CutLaws.{Turned}
use Rattle.inplace.proofs.marks.close.Given as goal

abbrev pub invariant-loop-k : goal.invariant-loop-k
invariant-loop-k g l = Turned g.T.Rows.layout l.whose l.m l.initial.t l.end l.at l.k l.t
