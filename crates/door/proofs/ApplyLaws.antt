-- The calls on tables that are sound. Assumes nothing.
use mathlib.Core.Path.{◌≡◌, refl, sym, ◌∙◌, ap}
use mathlib.Core.Bool.{true≢false}
use Rattle.std.specs.Prelude.{None, is_some}
use Prim.Native.Nat.{ℕ}
use lib.Dec.{T}
use Rattle.definition.specs.Tables.{kinds}
use Rattle.definition.specs.Base.{require}
use Rattle.definition.proofs.BaseLaws.{T_true}
use Rattle.definition.specs.Pools.{Pool, spans, Hold, held_rows}
use Rattle.definition.specs.Request.{Use}
use Rattle.definition.specs.Calls.{State, given, starting, pool, hold, start, serve}
use Rattle.request.specs.Calls.{call_of}
use Rattle.request.specs.declared.call.Call.{Call}
use Rattle.request.specs.declared.call.Call.TheVariants as C
use Rattle.adding.specs.Adds.{adds_of}
use Rattle.door.specs.Applied.{apply_of}
use Rattle.door.proofs.AfterLaws.{pool_after, held_after}

module _ (s : State) (g : T (given kinds s)) where
  pub serve_pool : (u : Use) (p : Pool) → serve kinds (pool u p) s ≡ pool_after u (spans p) s
  unfolding serve require
  serve_pool u p = rw (T_true (given kinds s) g)

  pub serve_hold : (o : ℕ) (h : Hold) → serve kinds (hold o h) s ≡ held_after (held_rows o h) s
  unfolding serve require
  serve_hold o h = rw (T_true (given kinds s) g)

  serve_start : serve kinds start s ≡ starting s
  unfolding serve require
  serve_start = rw (T_true (given kinds s) g)

-- what adds nothing: a request, and what cannot be read, but for a start
pub passed : (c : Call) (s : State) → None ≡ adds_of c → (c ≡ C.Start → ⊥) → s ≡ apply_of (call_of c) s
passed (C.Pool u p) s e n = absurd (true≢false (sym (ap is_some e)))
passed (C.Hold o h) s e n = absurd (true≢false (sym (ap is_some e)))
passed C.Start s e n = absurd (n refl)
passed (C.Want r) s e n = refl
passed C.Bad s e n = refl

pub begun : (s t : State) → T (given kinds s) → t ≡ starting s → t ≡ apply_of (call_of C.Start) s
begun s t g e = e ∙ sym (serve_start s g)
