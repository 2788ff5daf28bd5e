-- Columns of the full length, which every column that code holds has: a list alone does not say so. Assumes nothing.
use Rattle.std.specs.Prelude.{◌≡◌, length}
use Rattle.definition.specs.Tables.{pool_limit, row_limit, Kind}
use Rattle.tables.specs.Views.{pool_of}
use Rattle.tables.specs.declared.Pool.{Pool}
use Rattle.tables.specs.declared.Ranges.{Ranges}
use Rattle.tables.specs.declared.Inputs.{Inputs}
use Rattle.tables.specs.declared.Holders.{Holders}
use Rattle.tables.specs.declared.State.{State}

pub record SizedPool (t : Pool) : Type 0 where
  pub controller : length t.controller ≡ pool_limit
  pub its : length t.its ≡ pool_limit
  pub start : length t.start ≡ pool_limit
  pub end : length t.end ≡ pool_limit

pub record SizedRanges (t : Ranges) : Type 0 where
  pub controller : length t.controller ≡ row_limit
  pub its : length t.its ≡ row_limit
  pub device : length t.device ≡ row_limit
  pub start : length t.start ≡ row_limit
  pub end : length t.end ≡ row_limit
  pub owner : length t.owner ≡ row_limit

pub record SizedInputs (t : Inputs) : Type 0 where
  pub controller : length t.controller ≡ row_limit
  pub input : length t.input ≡ row_limit
  pub trigger : length t.trigger ≡ row_limit
  pub sharing : length t.sharing ≡ row_limit
  pub owner : length t.owner ≡ row_limit

pub record SizedHolders (h : Holders) : Type 0 where
  pub mmio : SizedRanges h.mmio
  pub pio : SizedRanges h.pio
  pub input : SizedInputs h.input
  pub host : SizedRanges h.host
  pub device : SizedRanges h.device
  pub event : SizedRanges h.event
  pub lpi : SizedRanges h.lpi

pub record SizedState (s : State) : Type 0 where
  pub auto : (k : Kind) → SizedPool (pool_of s.auto k)
  pub fixed : (k : Kind) → SizedPool (pool_of s.fixed k)
  pub held : SizedHolders s.held
  pub owners : SizedHolders s.owners
