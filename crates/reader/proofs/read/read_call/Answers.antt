-- A line's first three fields are cut off, or it says no call. Assumes nothing.
use Rattle.std.proofs.Common.{sym, ◌∙◌, arith}
use Rattle.reader.proofs.LineLaws.{line_long, one_field, two_fields, three_fields, more_fields}
use Rattle.reader.proofs.read.read_call.Goals as goal

pub returns-then-line-gt-LINE : goal.returns-then-line-gt-LINE
returns-then-line-gt-LINE c = sym (line_long c.args.line.now (omega arith))

pub returns-in_err-w : goal.returns-in_err-w
returns-in_err-w c = rw c.from_residual.ensures (sym (one_field c.args.line.now (omega arith) c.in_err-w.ensures))

pub returns-in_err-x : goal.returns-in_err-x
returns-in_err-x c = rw c.from_residual-in_err-x.ensures (sym (two_fields c.args.line.now (omega arith) _ _ c.in_ok-w.ensures c.in_err-x.ensures))

pub returns-in_err-y : goal.returns-in_err-y
returns-in_err-y c = rw c.from_residual-in_err-y.ensures (sym (three_fields c.args.line.now (omega arith) _ _ c.in_ok-w.ensures _ _ c.in_ok-x.ensures c.in_err-y.ensures))

pub returns : goal.returns
returns c = c.read_words.ensures ∙ sym (more_fields c.args.line.now (omega arith) _ _ c.in_ok-w.ensures _ _ c.in_ok-x.ensures _ _ c.in_ok-y.ensures)
