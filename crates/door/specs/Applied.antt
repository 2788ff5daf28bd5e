-- A call that adds, or starts, on tables that are sound. Assumes nothing.
use Rattle.std.proofs.Math.Option.{Option, none, some}
use Rattle.definition.specs.Tables.{kinds}
use Rattle.definition.specs.Calls.{State, Call, pool, hold, start, want, serve}

-- .. a request, and what cannot be read, leave the state as it is
abbrev pub apply_of : Option Call → State → State
apply_of none s = s
apply_of (some (pool u p)) s = serve kinds (pool u p) s
apply_of (some (hold o h)) s = serve kinds (hold o h) s
apply_of (some start) s = serve kinds start s
apply_of (some (want r)) s = s
