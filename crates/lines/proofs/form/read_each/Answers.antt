-- The list that the fields are put into is the form's own size. Assumes nothing.
use Rattle.std.proofs.Common.{◌∙◌}
use Rattle.lines.proofs.form.read_each.Goals as goal

pub returns-in_err-read_each_into : goal.returns-in_err-read_each_into
returns-in_err-read_each_into g c = λ says h. c.from_residual.ensures ∙ (rw c.in_err-read_each_into.was at (c.read_each_into.ensures says h))

pub returns : goal.returns
returns g c = λ says h. rw c.in_ok-read_each_into.was at (c.read_each_into.ensures says h)
