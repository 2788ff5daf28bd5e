-- How many requests an array lends: one more than a plan has. Assumes nothing.
use Rattle.std.specs.Prelude.{ℕ, suc}
use Rattle.definition.specs.Tables.{plan_limit}

abbrev pub most : ℕ
most = suc plan_limit
