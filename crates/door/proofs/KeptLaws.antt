-- What a verdict stores, and what it leaves. Assumes nothing.
use mathlib.Core.Path.{◌≡◌, refl, sym, ◌∙◌, ap}
use mathlib.Core.Bool.{Bool, true, false, not, true≢false}
use Rattle.std.specs.Prelude.{None}
use Rattle.definition.specs.Calls.{saying}
use Rattle.tables.specs.Views.{pool_of, pool_view, state_view}
use Rattle.tables.specs.declared.Kind.{Kind}
use Rattle.tables.specs.declared.PoolRow.{PoolRow}
use Rattle.tables.specs.declared.Pools.{Pools}
use Rattle.tables.specs.declared.State.{State}
use Rattle.insert.specs.Answers.{pick, heard}
use Rattle.request.specs.declared.call.Use.{Use}
use Rattle.request.specs.declared.call.Use.TheVariants as U
use Rattle.adding.specs.Adds.{keep_if, ranges_in}
use Rattle.adding.specs.Judged.{accepts, same_to, for_use, idle_of, entered_view}
use Rattle.adding.specs.declared.Adds.{Adds}
use Rattle.adding.specs.declared.Adds.TheVariants as A
use Rattle.adding.specs.declared.Verdict.{Verdict}
use Rattle.tables.specs.declared.Kind.TheVariants as K
use Rattle.door.specs.Kept.{kind_in, PoolsKept, held_with, with_auto, with_fixed, with_held, Kept}

-- a use that the verdict has no range for keeps its tables
other_use : (u to : Use) (b : Bool) (r : PoolRow) → not (same_to u to) ≡ true → for_use to (keep_if b (u, r)) ≡ None
other_use u to false r e = refl
other_use u to true r e = go (same_to u to) e
  where
    go : (b : Bool) → not b ≡ true → keep_if b r ≡ None
    go true e = absurd (true≢false (sym e))
    go false e = refl

idle_put : (q : Adds) (a : Bool) (to : Use) (k : Kind) → idle_of q to ≡ true → pick a (for_use to (ranges_in q k)) None ≡ None
idle_put q false to k e = refl
idle_put (A.Range u j r) true to k e = other_use u to _ r e
idle_put (A.Domain u d v l) true to K.Mmio e = refl
idle_put (A.Domain u d v l) true to K.Pio e = refl
idle_put (A.Domain u d v l) true to K.Input e = refl
idle_put (A.Domain u d v l) true to K.Host e = refl
idle_put (A.Domain u d v l) true to K.Device e = other_use u to true d e
idle_put (A.Domain u d v l) true to K.Event e = other_use u to true v e
idle_put (A.Domain u d v l) true to K.Lpi e = other_use u to true l e
idle_put (A.Row j r) true to k e = refl
idle_put (A.Input w) true to k e = refl
idle_put (A.Pair w r) true to k e = refl

pub idle_pools : (v : Verdict) (to : Use) (p : Pools) → idle_of v.adds to ≡ true → PoolsKept v to p p
idle_pools v to p e k = ap (λ o. entered_view o (pool_view (pool_of p k))) (sym (idle_put v.adds (accepts v.reply) to (kind_in k) e))

-- all stores, one after another: a and f are the pools as they are left
module _ (v : Verdict) (s₀ s₃ s₄ : State) (a f : Pools) (pa : PoolsKept v U.Automatic s₀.auto a) (pf : PoolsKept v U.Fixed s₀.fixed f) (h : s₃ ≡ with_held (held_with v s₀.held) (with_fixed f (with_auto a s₀))) (w : state_view s₄ ≡ saying (heard v.reply) (state_view s₃)) where
  pub kept_all : Kept v s₀ s₄
  kept_all = record { a = a; f = f; automatic = pa; fixed = pf; is = w ∙ ap (λ (s : State). saying (heard v.reply) (state_view s)) h }
