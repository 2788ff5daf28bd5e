-- One pass over the rows: what is known of the base after the first of them, and what it says after the last. Assumes nothing.
use mathlib.Core.Path.{◌≡◌, sym, ◌∙◌}
use mathlib.Core.Bool.{false}
use mathlib.Core.Logic.{◌⊎◌, inl, inr, ⊎_elim}
use Prim.Native.Nat.{ℕ, ◌+◌, ◌%◌, ◌<◌, ◌≤◌}
use native.Mathlib.Nat.{eq-or-lt_of_le}
use native.Mathlib.Omega.{arith}
use borrow.Author.Count.{below_more}
use Rattle.definition.specs.Tables.{Row, meets}
use Rattle.definition.specs.Request.{Need, row_at}
use Rattle.search.specs.Steps.{Free, Tried, Passes, Passed, Jumps}
use Rattle.search.proofs.CoreLaws.{jump, tried_none, tried_more}

module _ (g : ℕ → Row) (on : ℕ) (n : Need) (c stop : ℕ) where
  -- after i rows the base is b: no base before it is free; where it has not moved the rows so far are not in its way, and where it has, one that was in the way is passed
  pub record Passing (i b : ℕ) : Type 0 where
    pub from : c ≤ b
    pub below : b < stop
    pub aligned : b % n.alignment ≡ 0
    pub clear : b ≡ c → (k : ℕ) → k < i → meets (row_at n c) (g k) ≡ false
    pub tried : Tried g on n c b
    pub moved : c < b → Passed g on n c b

  pub pass_start : c < stop → c % n.alignment ≡ 0 → Passing 0 c
  pass_start l e = record { from = omega arith; below = l; aligned = e; clear = λ p k h. absurd (omega arith); tried = tried_none g on n c; moved = λ m. absurd (omega arith) }

  module _ (i b r : ℕ) (used : i < on) (h : Passing i b) (p : Passes (g i) n b stop r) where
    pub pass_on : r < stop → Passing (i + 1) r
    pass_on l =
        ⊎_elim
        (λ z. record {
          from = omega (arith, z.1, h.from);
          below = l;
          aligned = rw z.1 h.aligned;
          clear = λ q. below_more _ _ (h.clear (sym z.1 ∙ q)) (rw (← (sym z.1 ∙ q)) z.0);
          tried = rw z.1 h.tried;
          moved = rw z.1 h.moved;
        })
        (λ z. let j = jump g on n b stop r i h.below used z.0 z.1 in record {
          from = omega (arith, j.rises, h.from);
          below = l;
          aligned = j.aligned l;
          clear = λ q. absurd (omega (arith, j.rises, h.from));
          tried = tried_more g on n c b r h.tried j.tried;
          moved = λ m. ⊎_elim (λ e. rw e (j.passed l)) (λ m'. let (k, u, w, e) = h.moved m' in (k, u, w, omega (arith, e, j.rises))) (eq-or-lt_of_le h.from);
        })
        p

    pub pass_stop : stop ≤ r → Jumps g on n c stop r
    pass_stop l =
        ⊎_elim
        (λ z. absurd (omega (arith, z.1, h.below)))
        (λ z. let j = jump g on n b stop r i h.below used z.0 z.1 in record {
          rises = omega (arith, j.rises, h.from);
          within = j.within;
          aligned = λ m. absurd (omega arith);
          tried = tried_more g on n c b r h.tried j.tried;
          passed = λ m. absurd (omega arith);
        })
        p

  module _ (b : ℕ) (h : Passing on b) where
    pub pass_stay : b ≡ c → Free g on n c
    pass_stay e = h.clear e

    pub pass_to : (b ≡ c → ⊥) → Jumps g on n c stop b
    pass_to f = record { rises = rise (eq-or-lt_of_le h.from); within = omega (arith, h.below); aligned = λ l. h.aligned; tried = h.tried; passed = λ l. h.moved (rise (eq-or-lt_of_le h.from)) }
      where
        rise : (c ≡ b) ⊎ (c < b) → c < b
        rise (inl e) = absurd (f (sym e))
        rise (inr l) = l
