-- Each field is read as the form says. Assumes nothing.
use Rattle.lines.specs.Code.{field_says}
use Rattle.lines.proofs.FormLaws.{row_kept}
use Rattle.lines.proofs.form.read_numbers_into.Goals as goal

pub returns : goal.returns
returns c =
    let e = c.read_each_into.ensures field_says (λ f x r k. k) in
    record { says = e; within = row_kept c.args.form.now _ _ e }
