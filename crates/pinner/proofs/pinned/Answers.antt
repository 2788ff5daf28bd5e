-- The answer to a whole text: the pinned text, or the line `no`. Assumes nothing.
use Rattle.std.proofs.Common.{◌∙◌, rules}
use Rattle.pinner.proofs.PinLaws.{wrote_inside, wrote_front, no_room, no_inside, no_front}
use Rattle.pinner.proofs.pinned.Goals as goal

pub put_no-requires : goal.put_no-requires
put_no-requires c =
    let p = c.new-page in
    let e = c.in-Err.ensures in
    no_room c.args.text.now c.args.out.now c.pin_text.new.out c.requires c.in-Err.no e.numbered e.answer p.result p.ensures.untouched p.ensures.front

pub returns-in-Ok-clause-inside : goal.returns-in-Ok-clause-inside
returns-in-Ok-clause-inside c = wrote_inside c.args.text.now c.args.out.now c.pin_text.new.out c.requires c.in-Ok.n c.in-Ok.ensures.answer

pub returns-in-Ok-clause-front : goal.returns-in-Ok-clause-front
returns-in-Ok-clause-front c = wrote_front c.args.text.now c.args.out.now c.pin_text.new.out c.requires c.in-Ok.n c.in-Ok.ensures.answer

pub returns-in-Err-clause-inside : goal.returns-in-Err-clause-inside
returns-in-Err-clause-inside c =
    let p = c.new-page in
    let q = c.put_no in
    let e = c.in-Err.ensures in
    no_inside c.args.text.now c.args.out.now c.pin_text.new.out c.requires c.in-Err.no e.numbered e.answer p.result p.ensures.untouched p.ensures.front q.new.self q.ensures _
    (let same = q.ensures.same ∙ p.ensures.same_reference in search rules)

pub returns-in-Err-clause-front : goal.returns-in-Err-clause-front
returns-in-Err-clause-front c =
    let p = c.new-page in
    let q = c.put_no in
    let e = c.in-Err.ensures in
    no_front c.args.text.now c.args.out.now c.pin_text.new.out c.requires c.in-Err.no e.numbered e.answer p.result p.ensures.untouched p.ensures.front q.new.self q.ensures _
    (let same = q.ensures.same ∙ p.ensures.same_reference in search rules)
