-- What any five numbers say, and what a line does, by the ways out of the code. Assumes nothing.
use mathlib.Core.Path.{◌≡◌, refl, ap}
use mathlib.Core.Bool.{Bool, true, false}
use mathlib.Core.Option.{Option, none, some}
use Prim.Native.Nat.{ℕ}
use borrow.Author.Tests.{eq-eqb, ne_eqb}
use Rattle.definition.specs.Calls.{Call, pool, hold, start, want}
use Rattle.definition.specs.Base.{says, silence}
use Rattle.std.specs.Prelude as P
use Rattle.std.specs.Prelude.{None, Some}
use Rattle.text.specs.Sofar.{said_of, said_in, come_to, at_first, head_of}
use Rattle.text.specs.declared.feed.sofar.Reason.{Reason}

-- ---- any five numbers

module _ (r : Reason) where
  abbrev by_number : Bool → P.Option Reason
  by_number b = elim b [ true ↦ None | false ↦ Some r ]

  -- a refusal's say what they are
  pub come_refused : (e l n : ℕ) → (r.number ≡ 0 → ⊥) → said_in (come_to e l n r) ≡ says r.index r.number r.namespace r.owner r.detail
  come_refused e l n f = ap (λ b. said_of (by_number b)) (ne_eqb r.number 0 f)

  -- .. and with 0 for its own nothing is said
  pub come_silent : (e l n : ℕ) → r.number ≡ 0 → said_in (come_to e l n r) ≡ silence
  come_silent e l n z = ap (λ b. said_of (by_number b)) (eq-eqb r.number 0 z)

-- ---- what a line does

pub at_first_zero : (n : ℕ) (c : Call) → n ≡ 0 → at_first n c ≡ some c
at_first_zero n c e = rw (at_first, eq-eqb n 0 e)

pub not_first : (n : ℕ) (c : Call) → (n ≡ 0 → ⊥) → at_first n c ≡ none
not_first n c f = rw (at_first, ne_eqb n 0 f)

-- after a want a line does nothing before its own want is answered
pub head_later : (n : ℕ) (o : Option Call) → (n ≡ 0 → ⊥) → head_of n o ≡ none
head_later n none f = refl
head_later n (some (pool u p)) f = not_first n (pool u p) f
head_later n (some (hold o h)) f = not_first n (hold o h) f
head_later n (some start) f = refl
head_later n (some (want r)) f = not_first n start f
