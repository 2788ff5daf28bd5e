-- The bases of a pool row, and whether it holds a run, from comparisons of its numbers. Assumes nothing.
use mathlib.Core.Path.{◌≡◌, sym}
use mathlib.Core.Bool.{Bool, true, false}
use Prim.Native.Nat.{ℕ, ◌+◌, ◌-◌, ◌^◌, ◌<◌, ◌≤◌}
use native.Mathlib.Omega.{arith}
use lib.Dec.{T}
use Rattle.std.specs.Prelude.{MatchBool}
use borrow.Author.Tests.{eq-eqb, ne_eqb}
use Rattle.definition.specs.Base.{any_of}
use Rattle.definition.proofs.BaseLaws.{T_true, T_false, true_T, false_T}
use Rattle.definition.specs.Tables.{pool_limit, dom, same_dom, pool_dom, Span, used}
use Rattle.definition.specs.Request.{Need, holds}
use Rattle.tables.specs.Views.{pool_view}
use Rattle.tables.specs.declared.Pool.{Pool}
use Rattle.bases.specs.Bases.{Below}
use Rattle.search.specs.Steps.{Bases}
use Rattle.search.proofs.MeetLaws.{holds_says, says_holds}
use Rattle.tables.proofs.IndexLaws.{any_in, any_out}
use Rattle.search.proofs.FoundLaws.{span_at, pool_used}

module _ (n : Need) (p : Span) where
  pub no_bases_is : same_dom (pool_dom n.dom) p.dom ≡ false → Bases n p 0
  no_bases_is e =
      record {
        own = λ b l. absurd (omega arith);
        each = λ b l. absurd (omega arith);
        all = λ b h. absurd (false_T (same_dom (pool_dom n.dom) p.dom) e (holds_says n b p h).dom);
        fits = λ b l. absurd (omega arith);
      }

  pub some_bases : (r : ℕ) → same_dom (pool_dom n.dom) p.dom ≡ true → Below p.end n.size r → Bases n p r
  some_bases r e u =
      record {
        own = λ b l. true_T (same_dom (pool_dom n.dom) p.dom) e;
        each = u.each;
        all = λ b h. u.all b (holds_says n b p h).high;
        fits = λ b l. omega (arith, u.each b l, u.fits);
      }

  -- a base below the first that is too high, from the row's start on, is held
  pub bases_hold : (r b : ℕ) → Bases n p r → p.start ≤ b → b < r → T (holds n b p)
  bases_hold r b u l m = says_holds n b p (record { dom = u.own b m; low = l; high = u.each b m })

  -- .. and past the last of them a run still ends within 64 bits, or at their end
  pub bases_fit : (r b : ℕ) → Bases n p r → b < r → r + n.size ≤ 2 ^ 64
  bases_fit r b u l = omega (arith, u.fits (r - 1) (omega arith))

  pub held : (b : ℕ) → same_dom (pool_dom n.dom) p.dom ≡ true → p.start ≤ b → b + n.size ≤ p.end → T (holds n b p)
  held b e l h = says_holds n b p (record { dom = true_T (same_dom (pool_dom n.dom) p.dom) e; low = l; high = h })

  pub begins_later : (b : ℕ) → b < p.start → holds n b p ≡ false
  begins_later b l = T_false (holds n b p) (λ t. let h : p.start ≤ b = (holds_says n b p t).low in omega arith)

  pub ends_before : (b : ℕ) → p.end < b + n.size → holds n b p ≡ false
  ends_before b l = T_false (holds n b p) (λ t. let h : b + n.size ≤ p.end = (holds_says n b p t).high in omega arith)

  pub other_domain : (b : ℕ) → same_dom (pool_dom n.dom) p.dom ≡ false → holds n b p ≡ false
  other_domain b e = T_false (holds n b p) (λ t. false_T (same_dom (pool_dom n.dom) p.dom) e (holds_says n b p t).dom)

-- the domain of a pool row, by two comparisons
pub domain_apart : (c i c' i' : ℕ) → (c' ≡ c → ⊥) → same_dom (dom c i 0) (dom c' i' 0) ≡ false
unfolding same_dom
domain_apart c i c' i' f = rw (ne_eqb c c' (λ e. f (sym e)))

pub domain_aside : (c i c' i' : ℕ) → c' ≡ c → (i' ≡ i → ⊥) → same_dom (dom c i 0) (dom c' i' 0) ≡ false
unfolding same_dom
domain_aside c i c' i' e f = rw (eq-eqb c c' (sym e), ne_eqb i i' (λ e. f (sym e)))

pub domain_same : (c i c' i' : ℕ) → c' ≡ c → i' ≡ i → same_dom (dom c i 0) (dom c' i' 0) ≡ true
unfolding same_dom
domain_same c i c' i' e f = rw (eq-eqb c c' (sym e), eq-eqb i i' (sym f))

-- some used row of a table passes
module _ (p : Pool) (q : Span → Bool) (l : p.n ≤ pool_limit) where
  pub some_row : (k : ℕ) → k < p.n → T (q (span_at p k)) → true ≡ any_of q (used (pool_view p))
  some_row k m t = sym (T_true (any_of q (used (pool_view p))) (rw (pool_used p l) (any_in q (span_at p) p.n k m t)))

  pub no_row : ((k : ℕ) → k < p.n → q (span_at p k) ≡ false) → false ≡ any_of q (used (pool_view p))
  no_row f = sym (T_false (any_of q (used (pool_view p))) (λ t.
      let (k, m, h) = any_out q (span_at p) p.n (rw (pool_used p l) at t) in
      false_T (q (span_at p k)) (f k m) h))

  -- `any` over the rows by index is `any_of` over the used ones
  pub any_used : (r : Bool) → MatchBool r ((k : ℕ) × (k < p.n) × (q (span_at p k) ≡ true)) ((k : ℕ) → k < p.n → q (span_at p k) ≡ false) → r ≡ any_of q (used (pool_view p))
  any_used true (k, m, h) = some_row k m (true_T (q (span_at p k)) h)
  any_used false h = no_row h
