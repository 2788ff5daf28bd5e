-- Why reading stops; and the bytes read decide what is printed, though no more of an input is read than one byte past the longest that is answered. Assumes nothing.
use mathlib.Core.Path.{◌≡◌, refl, sym, subst, ap, ◌∙◌}
use mathlib.Core.Bool.{Bool, true, false}
use Rattle.std.proofs.Common.{List, ◌++◌, append_assoc, Option, None, Some, Ok, Err, ◌+◌}
use Prim.Native.Nat.{ℕ, zero, suc, ◌≤◌, ◌<◌}
use native.Mathlib.Omega.{arith}
use lib.IntN.{ℤ, pos, negsuc}
use lib.Signed.{lt_z}
use lib.Dec.{T, leb, ltb}
use mir.Syntax.{w64}
use mir.Val.{SFits, to_z, of_z}
use mir.ValLaws.{to_z-of_z}
use lib.ListN.{length, take}
use lib.Seq.{take_all, length-take-le}
use borrow.Author.Tests.{leb-true, leb-false}
use Rattle.std.proofs.Math.Seq.{take-append-add}
use Rattle.std.proofs.lemmas.List.{take-append-le}
use borrow.Rule.Slice.PartMut.{put_mid, post_of}
use Rattle.std.specs.Io.KnownBytes.{Consumes}
use Rattle.standard_input.specs.Reads.{Stopped, ReadOf, Prints}
use Rattle.standard_input.specs.Outcome.{last_of}
use Rattle.standard_input.specs.declared.Failed.{Failed}

-- ---- the bytes that were read

-- a read more: the bytes of all reads so far, and then its own
pub consumes_more : (before between behind : Option (List ℕ)) (front more both : List ℕ)
    → Consumes before between front → Consumes between behind more → both ≡ front ++ more → Consumes before behind both
consumes_more None between behind front more both a b e = tt
consumes_more (Some xs) None behind front more both a b e = absurd a
consumes_more (Some xs) (Some ys) None front more both a b e = absurd b
consumes_more (Some xs) (Some ys) (Some zs) front more both a b e = a ∙ rw (b, e, append_assoc)

-- the part of a buffer from n on is read into, and so many bytes of it are read
pub read_so_far : (n k got : ℕ) (buf part : List ℕ) → n ≤ length buf → got ≤ length part → take (n + got) (put_mid n k buf part) ≡ take n buf ++ take got part
read_so_far n k got buf part inside fits =
    subst
    (λ (m : ℕ). take (m + got) (put_mid n k buf part) ≡ take n buf ++ take got part)
    (length-take-le n buf inside)
    (take-append-add (take n buf) (part ++ post_of n k buf) got ∙ ap (λ z. take n buf ++ z) (take-append-le got part (post_of n k buf) fits))

-- ---- why reading stops

pub within : (long n : ℕ) (last : ℤ) → Stopped long n last → n ≤ long
within long n (pos zero) s = s
within long n (pos (suc k)) s = omega (arith, s)
within long n (negsuc k) s = s

-- a signed number as the machine reads it back from its bits
pub read_back : (z : ℤ) → SFits w64 z → (b : Bool) → lt_z (to_z w64 (of_z w64 z)) (pos 0) ≡ b → lt_z z (pos 0) ≡ b
read_back z f b e = ap (λ (y : ℤ). lt_z y (pos 0)) (sym (to_z-of_z w64 z f)) ∙ e

-- one that did not fail is no negative number
pub last_read : (long n : ℕ) → lt_z (last_of long (Ok n)) (pos 0) ≡ false
last_read long n = go (ltb n long)
  where
    go : (b : Bool) → lt_z (elim b [ true ↦ pos 0 | false ↦ pos 1 ]) (pos 0) ≡ false
    go true = refl
    go false = refl

-- ---- what is printed: f answers all inputs alike that are longer than its limit, so of such a one no more is needed than one byte past the limit

module _ {limit : ℕ} (f : List ℕ → List ℕ) (alike : (a b : List ℕ) → limit < length a → limit < length b → f a ≡ f b) where
  cut : (n : ℕ) (text : List ℕ) → limit < n → f (take n text) ≡ f text
  cut n text l = go (leb (length text) n) refl
    where
      go : (b : Bool) → leb (length text) n ≡ b → f (take n text) ≡ f text
      go true e = ap f (take_all n text (leb-true (length text) n e))
      go false e =
          let h : n < length text = leb-false (length text) n e in
          alike (take n text) text (omega (arith, length-take-le n text (omega arith))) (omega arith)

  read_decides : (buf input : List ℕ) (n k : ℕ) → limit < length buf → Stopped (length buf) n (pos k) → ReadOf input (take n buf) (pos k) → f (take n buf) ≡ f input
  read_decides buf input n zero l s r = ap f (r.front ∙ take_all (length (take n buf)) input (r.end refl))
  read_decides buf input n (suc k) l s r = ap f r.front ∙ cut (length (take n buf)) input (omega (arith, s, length-take-le n buf (omega (arith, s))))

  -- no read failed
  pub prints_front : (buf out : List ℕ) (n e : ℕ) (last : ℤ) → lt_z last (pos 0) ≡ false → limit < length buf → Stopped (length buf) n last → e ≤ length out
      → take e out ≡ f (take n buf) → Prints f (take n buf) last e out
  prints_front buf out n e (pos k) z l s inside is = record { inside = inside; prints = λ input r. is ∙ read_decides buf input n k l s r }
  prints_front buf out n e (negsuc k) z l s inside is = absurd (subst T z tt)

-- a read failed
pub prints_nothing : (f : List ℕ → List ℕ) (bytes : List ℕ) (long : ℕ) (x : Failed) (out : List ℕ) → Prints f bytes (last_of long (Err x)) 0 out
prints_nothing f bytes long x out = record { inside = omega arith; prints = λ input r. refl }
