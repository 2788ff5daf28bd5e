-- What an answer adds. Assumes nothing.
use Rattle.std.specs.Prelude.{List, [], ◌∷◌}
use Rattle.definition.specs.Base.{Answer, accepted, refused}
use Rattle.definition.specs.Tables.{Row}
use Rattle.definition.specs.Pools.{Claim}

-- a refused one nothing
abbrev pub row_got : Answer Row → List Row
row_got (accepted r) = r ∷ []
row_got (refused y) = []

abbrev pub claims_got : Answer (List Claim) → List Claim
claims_got (accepted cs) = cs
claims_got (refused y) = []
