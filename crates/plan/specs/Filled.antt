-- The filled part of a plan of plain numbers. Assumes nothing.
use Rattle.std.specs.Prelude.{true, false, List, [], ℕ}
use Rattle.definition.specs.Calls.{State}
use Rattle.plan.specs.Front.{filled}
use Rattle.flat.specs.Flat.{requests_of, whole_requests}

-- the records of the accepted requests; a list that ends within a request has none
abbrev pub flat_filled : List ℕ → State → List ℕ → List ℕ
flat_filled rq s out = elim (whole_requests rq) [ true ↦ filled (requests_of rq) s out | false ↦ [] ]
