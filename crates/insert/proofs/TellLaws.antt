-- What is told of an answer does not tell what was accepted; what is told of a range by itself. Assumes nothing.
use mathlib.Core.Path.{◌≡◌, refl, sym, ap}
use mathlib.Core.Bool.{Bool, true, false, true≢false}
use mathlib.Core.Option.{Option, some, none}
use Prim.Native.Nat.{ℕ, suc}
use native.Mathlib.Omega.{arith}
use lib.Dec.{eqb, leb, ltb, leb-zero}
use Rattle.std.specs.Prelude.{Ok, Err, is_ok}
use borrow.Author.Tests.{lt-ltb}
use Rattle.definition.specs.Base.{Refusal, Said, tell, empty_range, bad_lpi, Answer, require}
use Rattle.definition.specs.Tables.{Row}
use Rattle.definition.specs.Pools.{unreserved}
use Rattle.insert.specs.Answers.{Reply, refusal_of, number_of, pick, telling, heard, fault_of, comes_before, earlier_of}
use Rattle.insert.specs.declared.Refused.{Refused}
use Rattle.insert.specs.declared.Refused.TheVariants as R

module _ {A B : Type 0} (a : Answer A) (b : Answer B) (e : telling a ≡ telling b) where
  pub tell_required : (t : Bool) (x : Refusal) → telling (require t x a) ≡ telling (require t x b)
  unfolding require
  tell_required true x = e
  tell_required false x = refl

  pub tell_unreserved : (m : Option Row) → telling (unreserved m a) ≡ telling (unreserved m b)
  unfolding unreserved
  tell_unreserved none = e
  tell_unreserved (some r) = refl

-- ---- two answers, over what is told of them

unfoldable pub sooner : Said → Said → Said
sooner x y = pick (eqb x.number 0) y (pick (eqb y.number 0) x (pick (comes_before y.number x.number) y x))

numbered : (y : Refused) → eqb (number_of y) 0 ≡ false
numbered R.Malformed = refl
numbered R.BadInput = refl
numbered R.BadOwner = refl
numbered R.EmptyRange = refl
numbered (R.Overlaps o) = refl
numbered R.Full = refl
numbered R.Short = refl
numbered R.BadLpi = refl
numbered R.NotFound = refl

pub heard_earlier : (a b : Reply) → heard (earlier_of a b) ≡ sooner (heard a) (heard b)
unfolding earlier_of sooner
heard_earlier (Ok u) b = refl
heard_earlier (Err x) (Ok u) = rw (numbered x) refl
heard_earlier (Err x) (Err y) = rw (numbered x, numbered y) (go (comes_before (number_of y) (number_of x)))
  where
    go : (b : Bool) → heard (pick b (Err y) (Err x)) ≡ pick b (tell 0 (refusal_of y)) (tell 0 (refusal_of x))
    go true = refl
    go false = refl

-- ---- a range by itself

abbrev by : Bool → Bool → Reply
by l h = pick l (pick h (Ok tt) (Err R.BadLpi)) (Err R.EmptyRange)

module _ {A : Type 0} (s e floor : ℕ) (a : Answer A) where
  pub fault_told : (y : Refused) → fault_of s e floor ≡ Err y → heard (Err y) ≡ telling (require (ltb s e) empty_range (require (leb floor s) bad_lpi a))
  unfolding fault_of require
  fault_told y n = go (ltb s e) (leb floor s) n
    where
      go : (l h : Bool) → by l h ≡ Err y → heard (Err y) ≡ telling (require l empty_range (require h bad_lpi a))
      go false h n = ap heard (sym n)
      go true false n = ap heard (sym n)
      go true true n = absurd (true≢false (ap is_ok n))

  pub fault_none : fault_of s e floor ≡ Ok tt → require (ltb s e) empty_range (require (leb floor s) bad_lpi a) ≡ a
  unfolding fault_of require
  fault_none z = go (ltb s e) (leb floor s) z
    where
      go : (l h : Bool) → by l h ≡ Ok tt → require l empty_range (require h bad_lpi a) ≡ a
      go false h z = absurd (true≢false (ap is_ok (sym z)))
      go true false z = absurd (true≢false (ap is_ok (sym z)))
      go true true z = refl

-- one number that may be any
pub fault_one : (n : ℕ) → fault_of n (suc n) 0 ≡ Ok tt
unfolding fault_of
fault_one n = rw (lt-ltb n (suc n) (omega arith), leb-zero n)
