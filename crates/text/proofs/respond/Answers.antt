-- The text call: 11, the line `no` of a text that is too long, or the answer to its lines. Assumes nothing.
use Rattle.std.proofs.Common.{◌≡◌, ◌∙◌, sym, ap, subst, length, arith, rules}
use Rattle.writers.specs.Put.{Room, Puts}
use Rattle.writers.specs.Refuses.{refused_line}
use Rattle.text.specs.Step.{results_size}
use Rattle.text.specs.Respond.{tables_after}
use Rattle.text.proofs.OutputLaws.{output_long, output_is, blank, page_room, reply_page, reply_short}
use Rattle.text.proofs.respond.Goals as goal

pub returns-then-out-lt-OUTPUT : goal.returns-then-out-lt-OUTPUT
returns-then-out-lt-OUTPUT c = reply_short c.args.text.now c.args.out.now (omega arith)

pub put_no-requires : goal.put_no-requires
put_no-requires c =
    let a = c.args in
    let p = c.new-page in
    subst (Room p.result) (output_long a.text.now (omega arith) ∙ ap refused_line (sym c.bare.ensures))
    (page_room a.text.now a.out.now p.result p.ensures.untouched p.ensures.front (omega arith))

pub returns-then-text-gt-TEXT : goal.returns-then-text-gt-TEXT
returns-then-text-gt-TEXT c =
    let a = c.args in
    let p = c.new-page in
    reply_page a.text.now a.out.now p.result c.put_no.new.self p.ensures.untouched p.ensures.front (omega arith)
    (subst (λ b. Puts p.result b c.put_no.new.self) (sym (output_long a.text.now (omega arith) ∙ ap refused_line (sym c.bare.ensures))) c.put_no.ensures)
    _
    (let same = c.put_no.ensures.same ∙ p.ensures.same_reference in search rules)

pub answer-requires-clause-room : goal.answer-requires-clause-room
answer-requires-clause-room c =
    let a = c.args in
    let p = c.new-page in
    let r = c.read-t in
    let long : length r.new.results ≡ results_size = search rules in
    subst (Room p.result) (output_is a.text.now blank r.result (tables_after a.text.now) r.new.results r.ensures long (omega arith))
    (page_room a.text.now a.out.now p.result p.ensures.untouched p.ensures.front (omega arith))

pub returns : goal.returns
returns c =
    let a = c.args in
    let p = c.new-page in
    let r = c.read-t in
    let long : length r.new.results ≡ results_size = search rules in
    reply_page a.text.now a.out.now p.result c.answer.new.page p.ensures.untouched p.ensures.front (omega arith)
    (subst (λ b. Puts p.result b c.answer.new.page) (sym (output_is a.text.now blank r.result (tables_after a.text.now) r.new.results r.ensures long (omega arith))) c.answer.ensures)
    _
    (let same = c.answer.ensures.same ∙ p.ensures.same_reference in search rules)
