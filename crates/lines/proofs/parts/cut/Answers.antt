-- What stands before and behind the byte that `position` finds. Assumes nothing.
use Rattle.std.proofs.Common.{◌≡◌, ◌≢◌, rules, tests}
use Rattle.std.proofs.lemmas.Iterator.{YieldsList-from_slice, IsFirst-from_position}
use Rattle.lines.proofs.PartLaws.{cut_none, cut_some}
use Rattle.lines.proofs.parts.cut.Goals as goal

pub returns-in_err-e : goal.returns-in_err-e
returns-in_err-e c =
    let a = c.args in
    let found = IsFirst-from_position _ _ c.position.result (λ b. b ≡ a.c) (λ b. b ≢ a.c) c.position.ensures.ran (YieldsList-from_slice _ c.iter.ensures.rest) (λ b q k. search (rules, tests)) (λ b q k. search (rules, tests)) in
    rw c.from_residual.ensures (cut_none a.c a.s.now (rw c.in_err-e.was at found))

pub returns : goal.returns
returns c =
    let a = c.args in
    let found = IsFirst-from_position _ _ c.position.result (λ b. b ≡ a.c) (λ b. b ≢ a.c) c.position.ensures.ran (YieldsList-from_slice _ c.iter.ensures.rest) (λ b q k. search (rules, tests)) (λ b q k. search (rules, tests)) in
    cut_some a.c a.s.now c.in_ok-e.e (rw c.in_ok-e.was at found)
