-- The place of a byte, as `position` finds it behind `from`. Assumes nothing.
use Rattle.std.proofs.Common.{◌≡◌, ◌≢◌, ◌-◌, length, drop, arith, rules, tests}
use Rattle.std.proofs.lemmas.Iterator.{YieldsList-from_slice, IsFirst-from_position}
use Rattle.lines.specs.Code.{first}
use Rattle.lines.proofs.PartLaws.{first_from}
use Rattle.lines.proofs.parts.find.Goals as goal

pub returns-in-Some : goal.returns-in-Some
returns-in-Some c =
    let a = c.args in
    let found = first_from a.c a.s.now a.from c.requires c.position.result (IsFirst-from_position _ _ _ (λ b. b ≡ a.c) (λ b. b ≢ a.c) c.position.ensures.ran (YieldsList-from_slice _ c.iter.ensures.rest) (λ b q k. search (rules, tests)) (λ b q k. search (rules, tests))) in
    let here : c.in-Some.n ≡ first a.c (drop a.from a.s.now) = rw c.in-Some.is at found in
    omega arith

pub returns-in-None : goal.returns-in-None
returns-in-None c =
    let a = c.args in
    let found = first_from a.c a.s.now a.from c.requires c.position.result (IsFirst-from_position _ _ _ (λ b. b ≡ a.c) (λ b. b ≢ a.c) c.position.ensures.ran (YieldsList-from_slice _ c.iter.ensures.rest) (λ b q k. search (rules, tests)) (λ b q k. search (rules, tests))) in
    let nowhere : length a.s.now - a.from ≡ first a.c (drop a.from a.s.now) = rw c.in-None.is at found in
    omega (arith, c.requires)
