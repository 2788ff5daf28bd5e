-- The rows that a call adds; those of numbers that keep to their widths by their types. Assumes nothing.
use Rattle.std.specs.Prelude.{◌≡◌, ℕ, ◌≤◌}
use Rattle.definition.specs.Tables.{top}
use Rattle.tables.specs.declared.PoolRow.{PoolRow}
use Rattle.tables.specs.declared.RangeRow.{RangeRow}
use Rattle.tables.specs.declared.InputRow.{InputRow}

abbrev pub pool_row : ℕ → ℕ → ℕ → ℕ → PoolRow
pool_row c i s e = record { controller = c; its = i; start = s; end = e }

abbrev pub held_row : ℕ → ℕ → ℕ → ℕ → ℕ → ℕ → RangeRow
held_row c i d s e o = record { controller = c; its = i; device = d; start = s; end = e; owner = o }

abbrev pub input_row : ℕ → ℕ → ℕ → ℕ → ℕ → InputRow
input_row c x t s o = record { controller = c; input = x; trigger = t; sharing = s; owner = o }

pub record IsPoolRow (c i s e : ℕ) (r : PoolRow) : Type 0 where
  pub is : r ≡ pool_row c i s e
  pub controller : c ≤ top 32
  pub its : i ≤ top 32
  pub start : s ≤ top 64
  pub end : e ≤ top 64

pub record IsRangeRow (c i d s e o : ℕ) (r : RangeRow) : Type 0 where
  pub is : r ≡ held_row c i d s e o
  pub controller : c ≤ top 32
  pub its : i ≤ top 32
  pub device : d ≤ top 32
  pub start : s ≤ top 64
  pub end : e ≤ top 64
  pub owner : o ≤ top 32
