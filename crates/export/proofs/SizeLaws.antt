-- The size is that of the state's layout, and the two ways by it. Assumes nothing.
use mathlib.Core.Path.{◌≡◌, refl, ap, ◌∙◌}
use mathlib.Core.Bool.{Bool, true, false, not}
use mathlib.Core.List.{List}
use Prim.Native.Nat.{ℕ}
use lib.Dec.{T, eqb}
use borrow.Author.Tests.{ne_eqb}
use prog.Memory.{size as size_of}
use Rattle.definition.proofs.BaseLaws.{T_true}
use Rattle.definition.specs.Calls.{State as Given}
use Rattle.definition.specs.Plan.{Lent, lent}
use Rattle.tables.specs.Whole.{fresh_state}
use Rattle.tables.specs.declared.State.{State}
use Rattle.tables.proofs.State.TheLaws.{mir}
use Rattle.numbers.specs.Lent.{filled_in}
use Rattle.numbers.specs.Rows.{Told, told}
use Rattle.export.specs.Export.{state_size, Answered, answered, numbered, counted, sized, sized_read, begun, sized_fresh}

-- THE SIZE IS THE STATE'S: as many bytes as the struct has where the machine lays it out
pub size_is : state_size ≡ size_of mir
size_is = refl

fails : (b : Bool) → T (not b) → b ≡ false
fails true t = elim t [ ]
fails false t = refl

-- what the code's comparison says
pub is_size : (size : ℕ) → size ≡ state_size → T (eqb size state_size)
is_size size e = rw e tt

pub no_size : (size : ℕ) → (size ≡ state_size → ⊥) → T (not (eqb size state_size))
no_size size f = rw (ne_eqb size state_size f) tt

module _ (size : ℕ) where
  pub right_size : (s : Given) (out : List ℕ) (a b : Answered) → T (eqb size state_size) → b ≡ a → b ≡ sized size s out a
  unfolding sized
  right_size s out a b t e = e ∙ rw (T_true (eqb size state_size) t, sized)

  pub wrong_size : (s : Given) (out : List ℕ) (a : Answered) → T (not (eqb size state_size)) → answered (lent s out) 1 ≡ sized size s out a
  unfolding sized
  wrong_size s out a t = rw (fails (eqb size state_size) t, sized)

  pub right_read : (out : List ℕ) (w v : Told) → T (eqb size state_size) → v ≡ w → v ≡ sized_read size out w
  unfolding sized_read
  right_read out w v t e = e ∙ rw (T_true (eqb size state_size) t, sized_read)

  pub wrong_read : (out : List ℕ) (w : Told) → T (not (eqb size state_size)) → told 1 out ≡ sized_read size out w
  unfolding sized_read
  wrong_read out w t = rw (fails (eqb size state_size) t, sized_read)

  pub right_fresh : (s d : State) → T (eqb size state_size) → d ≡ fresh_state → begun d 0 ≡ sized_fresh size s
  unfolding sized_fresh
  right_fresh s d t e = ap (λ (x : State). begun x 0) e ∙ rw (T_true (eqb size state_size) t, sized_fresh)

  pub wrong_fresh : (s : State) → T (not (eqb size state_size)) → begun s 1 ≡ sized_fresh size s
  unfolding sized_fresh
  wrong_fresh s t = rw (fails (eqb size state_size) t, sized_fresh)

-- what is left and the number that it says
pub both : (l v : Lent) (y : ℕ) → l ≡ v → y ≡ l.state.said.number → answered l y ≡ numbered v
both l v y e n = ap (answered l) n ∙ ap numbered e

pub counts : (l v : Lent) (y n : ℕ) → l ≡ v → y ≡ filled_in l.state n → answered l y ≡ counted n v
counts l v y n e f = ap (answered l) f ∙ ap (counted n) e
