-- The definition's output of the bytes that were read. Assumes nothing.
use Rattle.std.proofs.Common.{◌∙◌, take, rules}
use Rattle.standard_input.proofs.ReadLaws.{last_read, prints_front}
use Rattle.sizer.specs.Sizes.{sizes_output}
use Rattle.sizer.proofs.SizeLaws.{alike_sizes, front_inside, front_is}
use Rattle.sizer.proofs.printed.Goals as goal

pub returns : goal.returns
returns c =
    let a = c.args in
    let room = c.requires.sizes_limit_in_bounds in
    let p = c.new-page in
    let s = c.sizes in
    let text = take c.in-Ok.n a.buf.now in
    rw c.in-Ok.is
    (prints_front sizes_output alike_sizes a.buf.now _ c.in-Ok.n s.new.page.at _ (last_read _ c.in-Ok.n) c.requires.size_text_limit_in_bounds (rw c.in-Ok.is at c.requires.stopped)
    (front_inside text a.out.now p.result s.new.page p.ensures.front p.ensures.untouched room s.ensures _ (let same = s.ensures.same ∙ p.ensures.same_reference in search rules))
    (front_is text a.out.now p.result s.new.page p.ensures.front p.ensures.untouched room s.ensures _ (let same = s.ensures.same ∙ p.ensures.same_reference in search rules)))
