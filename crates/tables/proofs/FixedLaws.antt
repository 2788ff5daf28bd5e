-- A view fixes every number of its columns, so a promise about a view leaves none open. Assumes nothing.
use mathlib.Core.Path.{◌≡◌, sym, ◌∙◌, ap}
use mathlib.Core.List.{List}
use Prim.Native.Nat.{ℕ, ◌<◌}
use native.Mathlib.Omega.{arith}
use lib.ListN.{length, get_or}
use lib.Seq.{ext_get_or}
use Rattle.definition.specs.Tables.{pool_limit, row_limit, Kind, mmio, pio, input, host, device, event, lpi}
use Rattle.definition.specs.Request.{automatic, fixed}
use Rattle.tables.specs.Views.{pool, ranges, inputs, span_of, range_of, input_of, pool_at, range_at, input_at, pool_view, ranges_view, inputs_view, pool_of, holders_view, state_view}
use Rattle.tables.specs.Sized.{SizedPool, SizedRanges, SizedInputs, SizedHolders, SizedState}
use Rattle.tables.specs.declared.Pool.{Pool}
use Rattle.tables.specs.declared.Ranges.{Ranges}
use Rattle.tables.specs.declared.Inputs.{Inputs}
use Rattle.tables.specs.declared.Pools.{Pools}
use Rattle.tables.specs.declared.Holders.{Holders}
use Rattle.tables.specs.declared.State.{State}
use Rattle.tables.proofs.ListedLaws.{listed_same}

-- columns of one length that agree row by row are one
column : (n : ℕ) (a b : List ℕ) → length a ≡ n → length b ≡ n → ((k : ℕ) → k < n → get_or a k 0 ≡ get_or b k 0) → a ≡ b
column n a b p q h = ext_get_or 0 a b (p ∙ sym q) (λ k l. h k (omega arith))

pub pool_fixed : (a b : Pool) → SizedPool a → SizedPool b → pool_view a ≡ pool_view b → a ≡ b
pool_fixed a b x y e = λ i. pool (ap (λ t. t.count) e i) (c i) (t i) (s i) (n i)
  where
    row : (k : ℕ) → k < pool_limit → span_of (pool_at a k) ≡ span_of (pool_at b k)
    row = listed_same (λ k. span_of (pool_at a k)) (λ k. span_of (pool_at b k)) pool_limit (ap (λ t. t.rows) e)

    c : a.controller ≡ b.controller
    c = column pool_limit _ _ x.controller y.controller (λ k l. ap (λ r. r.dom.controller) (row k l))

    t : a.its ≡ b.its
    t = column pool_limit _ _ x.its y.its (λ k l. ap (λ r. r.dom.its) (row k l))

    s : a.start ≡ b.start
    s = column pool_limit _ _ x.start y.start (λ k l. ap (λ r. r.start) (row k l))

    n : a.end ≡ b.end
    n = column pool_limit _ _ x.end y.end (λ k l. ap (λ r. r.end) (row k l))

pub ranges_fixed : (a b : Ranges) → SizedRanges a → SizedRanges b → ranges_view a ≡ ranges_view b → a ≡ b
ranges_fixed a b x y e = λ i. ranges (ap (λ t. t.count) e i) (c i) (t i) (d i) (s i) (n i) (o i)
  where
    row : (k : ℕ) → k < row_limit → range_of (range_at a k) ≡ range_of (range_at b k)
    row = listed_same (λ k. range_of (range_at a k)) (λ k. range_of (range_at b k)) row_limit (ap (λ t. t.rows) e)

    c : a.controller ≡ b.controller
    c = column row_limit _ _ x.controller y.controller (λ k l. ap (λ r. r.dom.controller) (row k l))

    t : a.its ≡ b.its
    t = column row_limit _ _ x.its y.its (λ k l. ap (λ r. r.dom.its) (row k l))

    d : a.device ≡ b.device
    d = column row_limit _ _ x.device y.device (λ k l. ap (λ r. r.dom.device) (row k l))

    s : a.start ≡ b.start
    s = column row_limit _ _ x.start y.start (λ k l. ap (λ r. r.start) (row k l))

    n : a.end ≡ b.end
    n = column row_limit _ _ x.end y.end (λ k l. ap (λ r. r.end) (row k l))

    o : a.owner ≡ b.owner
    o = column row_limit _ _ x.owner y.owner (λ k l. ap (λ r. r.owner) (row k l))

pub inputs_fixed : (a b : Inputs) → SizedInputs a → SizedInputs b → inputs_view a ≡ inputs_view b → a ≡ b
inputs_fixed a b x y e = λ i. inputs (ap (λ t. t.count) e i) (c i) (n i) (t i) (s i) (o i)
  where
    row : (k : ℕ) → k < row_limit → input_of (input_at a k) ≡ input_of (input_at b k)
    row = listed_same (λ k. input_of (input_at a k)) (λ k. input_of (input_at b k)) row_limit (ap (λ t. t.rows) e)

    c : a.controller ≡ b.controller
    c = column row_limit _ _ x.controller y.controller (λ k l. ap (λ r. r.dom.controller) (row k l))

    n : a.input ≡ b.input
    n = column row_limit _ _ x.input y.input (λ k l. ap (λ r. r.start) (row k l))

    t : a.trigger ≡ b.trigger
    t = column row_limit _ _ x.trigger y.trigger (λ k l. ap (λ r. r.trigger) (row k l))

    s : a.sharing ≡ b.sharing
    s = column row_limit _ _ x.sharing y.sharing (λ k l. ap (λ r. r.sharing) (row k l))

    o : a.owner ≡ b.owner
    o = column row_limit _ _ x.owner y.owner (λ k l. ap (λ r. r.owner) (row k l))

pools_fixed : (a b : Pools) → ((k : Kind) → pool_of a k ≡ pool_of b k) → a ≡ b
pools_fixed a b e = λ i.
    record { mmio = e mmio i; pio = e pio i; input = e input i; host = e host i; device = e device i; event = e event i; lpi = e lpi i }

pub holders_fixed : (a b : Holders) → SizedHolders a → SizedHolders b → ((k : Kind) → holders_view a k ≡ holders_view b k) → a ≡ b
holders_fixed a b x y e = λ i.
    record {
      mmio = ranges_fixed a.mmio b.mmio x.mmio y.mmio (e mmio) i;
      pio = ranges_fixed a.pio b.pio x.pio y.pio (e pio) i;
      input = inputs_fixed a.input b.input x.input y.input (e input) i;
      host = ranges_fixed a.host b.host x.host y.host (e host) i;
      device = ranges_fixed a.device b.device x.device y.device (e device) i;
      event = ranges_fixed a.event b.event x.event y.event (e event) i;
      lpi = ranges_fixed a.lpi b.lpi x.lpi y.lpi (e lpi) i;
    }

-- a promise about a state's view leaves no number of the state open
pub state_fixed : (a b : State) → SizedState a → SizedState b → state_view a ≡ state_view b → a ≡ b
state_fixed a b x y e = λ i.
    record {
      auto = pools_fixed a.auto b.auto (λ k. pool_fixed _ _ (x.auto k) (y.auto k) (ap (λ s. s.pools automatic k) e)) i;
      fixed = pools_fixed a.fixed b.fixed (λ k. pool_fixed _ _ (x.fixed k) (y.fixed k) (ap (λ s. s.pools fixed k) e)) i;
      held = holders_fixed a.held b.held x.held y.held (λ k. ap (λ s. s.held k) e) i;
      owners = holders_fixed a.owners b.owners x.owners y.owners (λ k. ap (λ s. s.owners k) e) i;
      number = ap (λ s. s.said.number) e i;
      index = ap (λ s. s.said.index) e i;
      namespace = ap (λ s. s.said.namespace) e i;
      owner = ap (λ s. s.said.owner) e i;
      detail = ap (λ s. s.said.detail) e i;
    }
