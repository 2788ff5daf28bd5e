-- The line step: what a line does before its want is answered, the want's turn, and how far the text has come. Assumes nothing.
use Rattle.std.proofs.Common.{◌≡◌, ◌∙◌, sym, ap, subst}
use Rattle.tables.specs.Views.{state_view}
use Rattle.request.specs.Asked.{request_of}
use Rattle.reader.specs.Kinds.{says}
use Rattle.door.specs.Applied.{apply_of}
use Rattle.text.specs.Sofar.{head_of, asked_as, advanced_to, Named}
use Rattle.text.specs.Step.{Stepped}
use Rattle.text.specs.declared.feed.sofar.Sofar.{Sofar}
use Rattle.text.proofs.StepLaws.{marked, no_want, steady_at, stepped_at, advanced_at, advanced_named}
use Rattle.text.proofs.feed.step.Goals as goal
use Rattle.text.proofs.feed.step.Goals.{in-Some, in_default, in-Some-asked, in_default-asked}

pub turn-requires : goal.turn-requires
turn-requires c =
    let a = c.args in
    let s = state_view a.s.now in
    let head : state_view c.match-head_of.s ≡ apply_of (head_of a.t.wants (says a.l.call)) s =
    elim c.match-head_of.branch [
      | in-Some w ↦ ap state_view w.s-is ∙ w.apply.ensures ∙ ap (λ z. apply_of z s) (ap says (sym w.in-Some.is) ∙ c.head_of.ensures)
      | in_default w ↦ ap state_view w.s-is ∙ ap (λ z. apply_of z s) (ap says (sym w.in_default.is) ∙ c.head_of.ensures)
    ] in
    steady_at
    a.t
    (state_view a.s.now)
    a.results.now
    c.requires.0
    c.requires.1
    (request_of c.in-Some-asked.r)
    (says a.l.call)
    (sym c.asked.ensures ∙ ap asked_as c.in-Some-asked.is)
    (state_view c.match-head_of.s)
    head

pub returns : goal.returns
returns c =
    let a = c.args in
    let k = says a.l.call in
    let s = state_view a.s.now in
    let m = c.peek.result in
    let d = state_view c.match-asked.s in
    let zs = c.match-asked.results in
    let head : state_view c.match-head_of.s ≡ apply_of (head_of a.t.wants (says a.l.call)) s =
    elim c.match-head_of.branch [
      | in-Some w ↦ ap state_view w.s-is ∙ w.apply.ensures ∙ ap (λ z. apply_of z s) (ap says (sym w.in-Some.is) ∙ c.head_of.ensures)
      | in_default w ↦ ap state_view w.s-is ∙ ap (λ z. apply_of z s) (ap says (sym w.in_default.is) ∙ c.head_of.ensures)
    ] in
    let stepped : Stepped k a.t s a.results.now (advanced_to a.t k a.l.next m) d zs =
    elim c.match-asked.branch [
      | in-Some-asked w ↦
          stepped_at
          a.t
          s
          a.results.now
          c.requires.0
          c.requires.1
          (request_of w.in-Some-asked.r)
          k
          (sym c.asked.ensures ∙ ap asked_as w.in-Some-asked.is)
          (state_view c.match-head_of.s)
          head
          a.l.next
          m
          d
          zs
          (ap marked c.peek.ensures)
          (rw (w.s-is, w.results-is) w.turn.ensures)
      | in_default-asked w ↦
          rw w.results-is
          (no_want
          a.t
          s
          a.results.now
          a.l.next
          m
          k
          (sym c.asked.ensures ∙ ap asked_as w.in_default-asked.is)
          d
          (ap state_view w.s-is ∙ head)
          (ap marked c.peek.ensures))
    ] in (
      subst (λ (u : Sofar). Stepped k a.t s a.results.now u d zs) (sym c.advanced.ensures) stepped,
      ap (λ (u : Sofar). u.at) c.advanced.ensures ∙ advanced_at a.t k a.l.next m,
      subst Named (sym c.advanced.ensures) (advanced_named a.t k a.l.next m),
    )
