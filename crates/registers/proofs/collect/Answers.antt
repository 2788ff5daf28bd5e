-- The registers one after the other. Assumes nothing.
use Rattle.std.proofs.Common.{◌≡◌, suc, ◌-◌, length, Err, refl, sym, ap, ◌∙◌, arith, rules}
use Rattle.definition.specs.Base.{accepted}
use Rattle.definition.specs.Registers.{register_count, register_of, takes_next, asked}
use Rattle.flat.specs.Flat.{numbers_of_want}
use Rattle.registers.specs.Told.{want_of, wants_of}
use Rattle.registers.specs.Gathered.{past_in}
use Rattle.registers.proofs.WordsLaws.{first_fits, rest_fits}
use Rattle.registers.proofs.CollectLaws.{past_length, past_fits, holding_none, holding_end, holding_fault, holding_over, holding_on}
use Rattle.registers.proofs.collect.Goals as goal
use Rattle.registers.proofs.collect.Goals.{in-Some-2, in_default-2}

pub loop-word-init : goal.loop-word-init
loop-word-init c = record { long = refl; fit = c.requires.t; held = holding_none _ _ _ c.requires.words_len }

pub overflow_cast-w : goal.overflow_cast-w
overflow_cast-w c = let t = rw c.in-Some.ensures.cases.0 at c.loop-word.invariant.fit in omega (arith, first_fits _ t)

pub next_word-requires : goal.next_word-requires
next_word-requires c = let t = rw c.in-Some.ensures.cases.0 at c.loop-word.invariant.fit in rest_fits _ _ t

pub loop-word-smaller : goal.loop-word-smaller
loop-word-smaller c = omega (arith, ap length c.past-rest.ensures, past_length c.takes_next.result c.in-Some.behind.now, c.in-Some.ensures.cases.1)

pub loop-word-preserved : goal.loop-word-preserved
loop-word-preserved c =
    let word = c.in-Some.word.now in
    let behind = c.in-Some.behind.now in
    let here = c.in-Some.ensures.cases.0 in
    let h = rw here at c.loop-word.invariant.held in
    let t = rw here at c.loop-word.invariant.fit in
    let on : c.past-rest.result.now ≡ past_in (takes_next (register_of word)) behind =
    c.past-rest.ensures ∙ ap (λ b. past_in b behind) (c.takes_next.ensures ∙ ap takes_next c.register_of.ensures) in
    let judged = ap (asked (register_of word) word) (sym c.next_word.ensures) ∙ sym c.in_ok-ask.ensures in
    let slot : register_count - length c.loop-word.rest.now ≡ register_count - suc (length behind) = omega (arith, c.in-Some.ensures.cases.1) in
    record {
      long = search rules;
      fit = rw on (past_fits _ behind (rest_fits word behind t));
      held =
          elim c.match-branch-2.branch [
            | in-Some-2 w ↦ (
                let want = want_of w.in-Some-2.ask in
                let numbers = w.copy_from_slice.ensures.after ∙ w.numbers.ensures ∙ ap (λ k. numbers_of_want c.args.requester k want) slot in
                let asks = judged ∙ ap (λ o. accepted (wants_of o)) w.in-Some-2.is in
                rw (w.list-is, w.count-is, on) (holding_on _ _ _ _ word behind h want _ asks numbers (omega (arith, c.requires.register_count_in_bounds, c.loop-word.invariant.long)))
                )
            | in_default-2 w ↦ rw (w.list-is, w.count-is, on) (holding_over _ _ _ _ word behind h (judged ∙ ap (λ o. accepted (wants_of o)) w.in_default-2.is))
          ];
    }

pub returns-in_err-ask : goal.returns-in_err-ask
returns-in_err-ask c =
    let r : c.from_residual.result ≡ Err c.in_err-ask.field-0.0 = search rules in
    let word = c.in-Some.word.now in
    let h = rw c.in-Some.ensures.cases.0 at c.loop-word.invariant.held in
    let judged = ap (asked (register_of word) word) (sym c.next_word.ensures) ∙ sym c.in_err-ask.ensures in
    rw r (holding_fault _ _ _ _ word c.in-Some.behind.now h c.in_err-ask.field-0.0 judged)

pub returns : goal.returns
returns c = holding_end _ _ _ _ _ c.in_default.ensures.cases c.loop-word.invariant.held
