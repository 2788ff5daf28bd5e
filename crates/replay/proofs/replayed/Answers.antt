-- A refused first plan stops, an accepted one goes on (ReplayedLaws.antt). Assumes nothing.
use Rattle.std.proofs.Common.{ℕ, List, replicate}
use Rattle.std.proofs.lemmas.List.{length-replicate}
use Rattle.replay.specs.Runs.{most_taken}
use Rattle.replay.proofs.ReplayedLaws.{stops, goes_on}
use Rattle.replay.proofs.replayed.Goals as goal

abbrev blank : List ℕ
blank = replicate most_taken 0

pub returns-then-t-ne0 : goal.returns-then-t-ne0
returns-then-t-ne0 c =
    let a = c.args in
    stops a.requests.now a.selection.now a.results.now a.second.now a.s c.start.result c.plan_by_value-t.result _ c.start.ensures c.plan_by_value-t.ensures c.if-t-ne0.true

pub returns : goal.returns
returns c =
    let a = c.args in
    let p = c.plan_by_value-t in
    let k = c.take-n in
    let q = c.plan_by_value in
    goes_on a.requests.now a.selection.now a.results.now a.second.now a.s c.start.result p.result p.new.results c.start.ensures p.ensures
    c.if-t-ne0.false c.pin.new.requests blank k.new.chosen k.result c.start-u.result q.result q.new.results
    c.pin.ensures (length-replicate {A = ℕ} most_taken 0) k.ensures.0 k.ensures.1 c.start-u.ensures q.ensures
