-- A line's fields, each read as its place in the form says: one field more, and the three ways in which the fields end. Assumes nothing.
use Rattle.std.proofs.Common.{◌≡◌, ◌≤◌, ◌<◌, ◌-◌, ◌∙◌, sym, ap, length, take, drop, get_or, length-set, arith, rules}
use Rattle.std.proofs.Math.Option.{none, some}
use Rattle.lines.specs.Base.{tab}
use Rattle.lines.specs.Code.{number_says}
use Rattle.lines.proofs.PartLaws.{first_inside}
use Rattle.lines.proofs.FormLaws.{read_stop, read_next, read_end, read_short, read_over}
use Rattle.lines.proofs.form.read_each_into.Goals as goal

pub slice_bounds-read-end : goal.slice_bounds-read-end
slice_bounds-read-end g c =
    let h : c.find-e.result ≤ length c.args.rest.now = omega (arith, c.find-e.ensures, first_inside tab c.args.rest.now c.loop-i.at (omega arith)) in
    search rules

pub returns-in_err-into : goal.returns-in_err-into
returns-in_err-into g c = λ says h.
    let a = c.args in
    let l = c.loop-i in
    let said : number_says c.read.result ≡ says (get_or a.form.now l.i c.index-form-i.result) (take (c.find-e.result - l.at) (drop l.at a.rest.now)) = h _ _ _ c.read.ensures ∙ ap (λ x. says x (take (c.find-e.result - l.at) (drop l.at a.rest.now))) c.index-form-i.is in
    let it : says (get_or a.form.now l.i c.index-form-i.result) (take (c.find-e.result - l.at) (drop l.at a.rest.now)) ≡ none = sym (rw c.in_err-into.was at said) in
    rw c.from_residual.ensures (sym (l.invariant.left says h ∙ read_stop says a.rest.now a.form.now l.into c.index-form-i.result l.at c.find-e.result l.i (omega arith) c.find-e.ensures (omega arith) it))

pub returns-then-i-form : goal.returns-then-i-form
returns-then-i-form g c = λ says h.
    let a = c.args in
    let l = c.loop-i in
    let said : number_says c.read.result ≡ says (get_or a.form.now l.i c.index-form-i.result) (take (c.find-e.result - l.at) (drop l.at a.rest.now)) = h _ _ _ c.read.ensures ∙ ap (λ x. says x (take (c.find-e.result - l.at) (drop l.at a.rest.now))) c.index-form-i.is in
    let it : says (get_or a.form.now l.i c.index-form-i.result) (take (c.find-e.result - l.at) (drop l.at a.rest.now)) ≡ some c.in_ok-into.field-0 = sym (rw c.in_ok-into.was at said) in
    sym (l.invariant.left says h ∙ read_end says a.rest.now a.form.now l.into c.index-form-i.result l.at c.find-e.result l.i (omega arith) c.find-e.ensures (omega arith) c.in_ok-into.field-0 it (omega arith) (omega arith) (omega arith))

pub returns-then-e-rest : goal.returns-then-e-rest
returns-then-e-rest g c = λ says h.
    let a = c.args in
    let l = c.loop-i in
    let said : number_says c.read.result ≡ says (get_or a.form.now l.i c.index-form-i.result) (take (c.find-e.result - l.at) (drop l.at a.rest.now)) = h _ _ _ c.read.ensures ∙ ap (λ x. says x (take (c.find-e.result - l.at) (drop l.at a.rest.now))) c.index-form-i.is in
    let it : says (get_or a.form.now l.i c.index-form-i.result) (take (c.find-e.result - l.at) (drop l.at a.rest.now)) ≡ some c.in_ok-into.field-0 = sym (rw c.in_ok-into.was at said) in
    sym (l.invariant.left says h ∙ read_short says a.rest.now a.form.now l.into c.index-form-i.result l.at c.find-e.result l.i (omega arith) c.find-e.ensures (omega arith) c.in_ok-into.field-0 it (omega arith) (omega arith) (omega arith))

pub loop-i-preserved : goal.loop-i-preserved
loop-i-preserved g c =
    let more : c.find-e.result < length c.args.rest.now = omega (arith, first_inside tab c.args.rest.now c.loop-i.at (omega arith)) in
    record {
      wide = length-set c.loop-i.into c.loop-i.i c.in_ok-into.field-0 ∙ c.loop-i.invariant.wide;
      place = omega arith;
      left = λ says h.
          let a = c.args in
          let l = c.loop-i in
          let said : number_says c.read.result ≡ says (get_or a.form.now l.i c.index-form-i.result) (take (c.find-e.result - l.at) (drop l.at a.rest.now)) = h _ _ _ c.read.ensures ∙ ap (λ x. says x (take (c.find-e.result - l.at) (drop l.at a.rest.now))) c.index-form-i.is in
          let it : says (get_or a.form.now l.i c.index-form-i.result) (take (c.find-e.result - l.at) (drop l.at a.rest.now)) ≡ some c.in_ok-into.field-0 = sym (rw c.in_ok-into.was at said) in
          l.invariant.left says h ∙ read_next says a.rest.now a.form.now l.into c.index-form-i.result l.at c.find-e.result l.i (omega arith) c.find-e.ensures (omega arith) c.in_ok-into.field-0 it (omega arith) more;
    }

pub returns : goal.returns
returns g c = λ says h.
    let l = c.loop-i in
    sym (l.invariant.left says h ∙ read_over says c.args.form.now l.into (drop l.at c.args.rest.now) l.i (omega arith))
