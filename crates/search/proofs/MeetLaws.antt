-- What it says that two rows meet, that they do not, and that a pool row holds a run. Assumes nothing.
use mathlib.Core.Path.{◌≡◌, refl, sym, ◌∙◌}
use mathlib.Core.Bool.{Bool, true, false, ◌&&◌}
use mathlib.Core.Logic.{⊎_elim}
use Prim.Native.Nat.{ℕ, suc, ◌+◌, ◌<◌, ◌≤◌}
use native.Mathlib.Omega.{arith}
use lib.Dec.{T, leb, ltb, eqb, ltb→lt, leb→le, le→leb}
use Rattle.std.proofs.lemmas.Bool.Decides.{eqb_tells}
use borrow.Author.Tests.{lt-ltb, le-ltb, eq-eqb, ne_eqb}
use Rattle.definition.proofs.BaseLaws.{and_l, and_r, and_i, and_false, T_true, true_T}
use Rattle.definition.specs.Tables.{dom, same_dom, pool_dom, Span, Row, wired_row, overlap, meets}
use Rattle.definition.specs.Request.{Need, holds}

-- two rows, w first
module _ (w r : Row) where
  pub record Meets : Type 0 where
    pub dom : T (same_dom w.dom r.dom)
    pub low : w.start < r.end
    pub high : r.start < w.end

  pub meets_says : meets w r ≡ true → Meets
  unfolding meets overlap
  meets_says e =
      let t : T (meets w r) = true_T (meets w r) e in
      let l : T (ltb w.start r.end) = search (and_l, and_r) in
      let h : T (ltb r.start w.end) = search (and_l, and_r) in
      record { dom = search (and_l); low = ltb→lt _ _ l; high = ltb→lt _ _ h }

  pub says_meets : Meets → meets w r ≡ true
  unfolding meets overlap
  says_meets m = rw (T_true (same_dom w.dom r.dom) m.dom, lt-ltb _ _ m.low, lt-ltb _ _ m.high)

  pub apart_below : r.end ≤ w.start → meets w r ≡ false
  unfolding meets overlap
  apart_below l = rw (le-ltb w.start r.end l) (and_false (same_dom w.dom r.dom))

  pub apart_above : w.end ≤ r.start → meets w r ≡ false
  unfolding meets overlap
  apart_above l = rw (le-ltb r.start w.end l, and_false (ltb w.start r.end)) (and_false (same_dom w.dom r.dom))

  pub apart_dom : same_dom w.dom r.dom ≡ false → meets w r ≡ false
  unfolding meets
  apart_dom e = rw e

-- inputs: a row stands on one number
module _ (c x c' x' t s o t' s' o' : ℕ) where
  pub on_one : x' ≡ x → c' ≡ c → meets (wired_row c x t s o) (wired_row c' x' t' s' o') ≡ true
  unfolding same_dom
  on_one e d =
      let z : same_dom (dom c 0 0) (dom c' 0 0) ≡ true = rw (eq-eqb c c' (sym d)) in
      says_meets (wired_row c x t s o) (wired_row c' x' t' s' o') (record { dom = true_T _ z; low = omega arith; high = omega arith })

  pub off_number : (x' ≡ x → ⊥) → meets (wired_row c x t s o) (wired_row c' x' t' s' o') ≡ false
  unfolding meets overlap
  off_number f = rw (apart (ltb x (suc x')) (ltb x' (suc x)) refl refl) (and_false (same_dom (dom c 0 0) (dom c' 0 0)))
    where
      apart : (a b : Bool) → ltb x (suc x') ≡ a → ltb x' (suc x) ≡ b → a && b ≡ false
      apart false b p q = refl
      apart true false p q = refl
      apart true true p q = absurd (f (omega (arith, ltb→lt x (suc x') (true_T _ p), ltb→lt x' (suc x) (true_T _ q))))

  pub off_controller : (c' ≡ c → ⊥) → meets (wired_row c x t s o) (wired_row c' x' t' s' o') ≡ false
  unfolding same_dom
  off_controller f = apart_dom (wired_row c x t s o) (wired_row c' x' t' s' o') (rw (ne_eqb c c' (λ e. f (sym e))))

  -- .. so the row meets the input exactly where the controllers are one, if the numbers are
  pub by_controller : x' ≡ x → eqb c' c ≡ meets (wired_row c x t s o) (wired_row c' x' t' s' o')
  by_controller e = ⊎_elim (λ (q, d). q ∙ sym (on_one e d)) (λ (q, f). q ∙ sym (off_controller f)) (eqb_tells c' c)

  pub by_number : (x' ≡ x → ⊥) → eqb x' x ≡ meets (wired_row c x t s o) (wired_row c' x' t' s' o')
  by_number f = ne_eqb x' x f ∙ sym (off_number f)

-- a pool row that holds the run at b
module _ (n : Need) (b : ℕ) (p : Span) where
  pub record Holds : Type 0 where
    pub dom : T (same_dom (pool_dom n.dom) p.dom)
    pub low : p.start ≤ b
    pub high : b + n.size ≤ p.end

  pub holds_says : T (holds n b p) → Holds
  unfolding holds
  holds_says t =
      let l : T (leb p.start b) = search (and_l, and_r) in
      let h : T (leb (b + n.size) p.end) = search (and_l, and_r) in
      record { dom = search (and_l); low = leb→le _ _ l; high = leb→le _ _ h }

  pub says_holds : Holds → T (holds n b p)
  unfolding holds
  says_holds h =
      let d : T (same_dom (pool_dom n.dom) p.dom) = h.dom in
      let l : p.start ≤ b = h.low in
      let u : b + n.size ≤ p.end = h.high in
      search (and_i, le→leb)
