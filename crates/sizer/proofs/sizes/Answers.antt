-- What is read and answered decides which lines are put. Assumes nothing.
use Rattle.std.proofs.Common.{◌≡◌, ℕ, List, ◌*◌, length-take, arith, ap, sym, ◌∙◌}
use Rattle.definition.specs.Base.{says}
use Rattle.lines.specs.Output.{no_line}
use Rattle.writers.specs.Refuses.{refused_line}
use Rattle.registers.specs.Told.{fault_of}
use Rattle.writers.specs.declared.output.Refused.{Refused}
use Rattle.sizer.proofs.SizeLaws.{no_line_said, few_wants, put_lines_is, refusal_line, fits_in, puts_it}
use Rattle.sizer.proofs.sizes.Goals as goal

pub put_no-requires : goal.put_no-requires
put_no-requires c = fits_in c.args.text.now _ (no_line_said c.args.text.now c.in_default.ensures ∙ ap refused_line (sym c.bare.ensures)) c.args.page.now c.requires

pub returns-in_default : goal.returns-in_default
returns-in_default c = puts_it c.args.text.now _ (no_line_said c.args.text.now c.in_default.ensures ∙ ap refused_line (sym c.bare.ensures)) c.args.page.now _ c.put_no.ensures

pub overflow_mul-list : goal.overflow_mul-list
overflow_mul-list c = omega (arith, few_wants c.args.text.now c.in-Some.row c.in-Some.ensures c.in-Ok.count _ c.in-Ok.ensures)

pub slice_bounds-list-end : goal.slice_bounds-list-end
slice_bounds-list-end c = omega (arith, few_wants c.args.text.now c.in-Some.row c.in-Some.ensures c.in-Ok.count _ c.in-Ok.ensures, c.registers.auto.list)

pub slice_bounds-put_wants-end : goal.slice_bounds-put_wants-end
slice_bounds-put_wants-end c =
    omega (
      arith,
      few_wants c.args.text.now c.in-Some.row c.in-Some.ensures c.in-Ok.count _ c.in-Ok.ensures,
      c.registers.auto.list,
      length-take (12 * c.in-Ok.count) c.registers.new.list,
    )

pub put_wants-requires : goal.put_wants-requires
put_wants-requires c = fits_in c.args.text.now _ (put_lines_is c.args.text.now c.in-Some.row c.in-Some.ensures c.in-Ok.count _ c.in-Ok.ensures) c.args.page.now c.requires

pub returns-in-Ok : goal.returns-in-Ok
returns-in-Ok c = puts_it c.args.text.now _ (put_lines_is c.args.text.now c.in-Some.row c.in-Some.ensures c.in-Ok.count _ c.in-Ok.ensures) c.args.page.now _ c.put_wants.ensures

-- the line of a fault's number
refuses : {n m : ℕ} {r : Refused} {b : List ℕ} → m ≡ n → r ≡ record { line = 0; number = m; namespace = 0; owner = 0; detail = 0 } → b ≡ no_line 0 (says 0 n 0 0 0) → b ≡ refused_line r
refuses e f g = g ∙ ap (λ k. no_line 0 (says 0 k 0 0 0)) (sym e) ∙ ap refused_line (sym f)

pub put_no-requires-in-Err : goal.put_no-requires-in-Err
put_no-requires-in-Err c =
    let t = c.args.text.now in
    fits_in t _ (refuses c.number.ensures c.bare-in-Err.ensures (refusal_line t c.in-Some.row c.in-Some.ensures (fault_of c.in-Err.fault) _ c.in-Err.ensures)) c.args.page.now c.requires

pub returns-in-Err : goal.returns-in-Err
returns-in-Err c =
    let t = c.args.text.now in
    puts_it t _ (refuses c.number.ensures c.bare-in-Err.ensures (refusal_line t c.in-Some.row c.in-Some.ensures (fault_of c.in-Err.fault) _ c.in-Err.ensures)) c.args.page.now _ c.put_no-in-Err.ensures
