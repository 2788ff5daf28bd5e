-- The filled front part of a plan's results. Assumes nothing.
use Rattle.std.specs.Prelude.{true, false, List, ℕ, ◌*◌, eqb, take}
use Rattle.definition.specs.Tables.{record_size}
use Rattle.definition.specs.Request.{Request}
use Rattle.definition.specs.Calls.{State}
use Rattle.definition.specs.Plan.{Lent, plan_run, grants_of, records}

-- of n requests, those that an answer's number and index say were accepted: all, or those before the refused one
abbrev pub accepted_of : ℕ → ℕ → ℕ → ℕ
accepted_of number index n = elim (eqb number 0) [ true ↦ n | false ↦ index ]

-- the front part of a plan's results that its answer names, of n requests
abbrev pub front_of : Lent → ℕ → List ℕ
front_of p n = take (record_size * accepted_of p.state.said.number p.state.said.index n) p.results

-- the records of the accepted requests, and nothing else: the law `plan_front` ties the answer to them
abbrev pub filled : List Request → State → List ℕ → List ℕ
filled rs s out = records (grants_of (plan_run rs s out))
