-- A pool of one range, a table of one owner, and what a search finds there, by computation. Assumes nothing.
use Rattle.std.proofs.Common.{◌≡◌, ℕ, ◌+◌, refl, sym, ap, subst, ◌∙◌, arith, Option, Some, None, Result, Ok, Err, slice_set}
use Rattle.std.proofs.Math.Option as Maybe
use Rattle.definition.specs.Base.{any_of, all_of, least_of, lower, pairs_of}
use Rattle.definition.specs.Tables.{same_dom, overlap, meets, in_order, used}
use Rattle.definition.specs.Request.{aligned, holds, free, align_up, candidates, lowest, row_at}
use Rattle.tables.specs.Below.{listed}
use Rattle.tables.specs.Views.{pool_view, ranges_view}
use Rattle.tables.specs.Whole.{fresh_pool, fresh_ranges}
use Rattle.tables.specs.declared.Pool.{Pool}
use Rattle.tables.specs.declared.Ranges.{Ranges}
use Rattle.tables.specs.declared.Kind.TheVariants.{Mmio}
use Rattle.search.specs.Asks.{need_of, found_of}
use Rattle.search.specs.Finds.{InOrder, Finds}
use Rattle.search.specs.declared.Need.{Need}
use Rattle.choose.specs.Told.{AutomaticIs}
use Rattle.choose.specs.declared.Run.{Run}
use Rattle.choose.specs.declared.Refusal.{Refusal}
use Rattle.choose.specs.declared.Refusal.TheVariants.{Exhausted}

-- 4096..12288 is the pool, of which 4096..8192 has an owner
abbrev pub pooled : Pool → Pool
pooled p = record { n = 1; controller = p.controller; its = p.its; start = slice_set p.start 0 4096; end = slice_set p.end 0 12288 }

abbrev pub owned : Ranges → Ranges
owned t =
    record {
      n = 1;
      controller = t.controller;
      its = t.its;
      device = t.device;
      start = slice_set t.start 0 4096;
      end = slice_set t.end 0 8192;
      owner = slice_set t.owner 0 7;
    }

abbrev pub wanted : ℕ → Need
wanted size = record { kind = Mmio; controller = 0; its = 0; device = 0; size = size; alignment = 4096; requester = 9 }

abbrev pub least : Pool → Ranges → ℕ → Maybe.Option ℕ
least p t size = lowest (used (pool_view (pooled p))) (used (ranges_view (owned t))) (need_of (wanted size))

-- behind the owner there is room for 4096 numbers, and for no more
pub leasts : (least fresh_pool fresh_ranges 4096 ≡ Maybe.some 8192) × (least fresh_pool fresh_ranges 4097 ≡ Maybe.none)
unfolding listed any_of least_of lower same_dom overlap meets aligned holds free align_up candidates lowest row_at
leasts = (refl, refl)

pub ordered : (p : Pool) → p ≡ fresh_pool → InOrder (pooled p)
unfolding listed all_of pairs_of
ordered p e = subst (λ (q : Pool). InOrder (pooled q)) (sym e) (record { count = omega arith; order = tt })

-- ---- what the calls answer, as the definition finds it

abbrev pub found_as : Maybe.Option ℕ → Option ℕ
found_as (Maybe.some b) = Some b
found_as Maybe.none = None

abbrev pub granted_as : ℕ → Maybe.Option ℕ → Result Run Refusal
granted_as size (Maybe.some b) = Ok (record { start = b; end = b + size })
granted_as size Maybe.none = Err (Exhausted 1)

module _ (p : Pool) (t : Ranges) (e : p ≡ fresh_pool) (f : t ≡ fresh_ranges) (size : ℕ) (m : Maybe.Option ℕ) (is : least fresh_pool fresh_ranges size ≡ m) where
  least_is : least p t size ≡ m
  least_is = (λ i. least (e i) (f i) size) ∙ is

  pub found : (o : Option ℕ) → Finds (pooled p) (ranges_view (owned t)) (wanted size) o → o ≡ found_as m
  found (Some b) r = ap found_as (r.is ∙ least_is)
  found None r = ap found_as (r.is ∙ least_is)

  pub granted : (x : Result Run Refusal) → AutomaticIs (pooled p) (ranges_view (owned t)) (wanted size) x → x ≡ granted_as size m
  granted (Ok run) (a, b) = (λ i. Ok (record { start = run.start; end = b i })) ∙ ap (granted_as size) (a ∙ least_is)
  granted (Err y) (a, b) = ap Err b ∙ ap (granted_as size) (a ∙ least_is)
