-- A call whose numbers fit their fields, or don't; an owner's. Assumes nothing.
use Rattle.std.proofs.Common.{◌≡◌, ℕ, ◌<◌, ◌≤◌, true, false, List, [], ◌∷◌}
use Rattle.std.proofs.Math.Option.{Option}
use borrow.Author.Tests.{le-leb, lt-leb}
use Rattle.definition.specs.Base.{all_of}
use Rattle.definition.specs.Calls.{Call}
use Rattle.numbers.specs.Coding.{bad, below, narrow, held_in, hold_in}

module _ (bits : ℕ) (xs : List ℕ) (c : Option Call) where
  pub narrow_in : all_of (below bits) xs ≡ true → c ≡ narrow bits xs c
  unfolding narrow
  narrow_in e = rw (e, narrow)

  pub narrow_out : all_of (below bits) xs ≡ false → bad ≡ narrow bits xs c
  unfolding narrow
  narrow_out e = rw (e, narrow)

pub one_in : (a : ℕ) (c : Option Call) → a ≤ 4294967295 → c ≡ narrow 32 (a ∷ []) c
unfolding all_of narrow
one_in a c l = rw (le-leb a 4294967295 l, narrow)

pub one_out : (a : ℕ) (c : Option Call) → 4294967295 < a → bad ≡ narrow 32 (a ∷ []) c
unfolding all_of narrow
one_out a c l = rw (lt-leb a 4294967295 l, narrow)

pub hold_in_is : (o kind a b c d e : ℕ) → o ≤ 4294967295 → held_in o kind a b c d e ≡ hold_in o kind a b c d e
unfolding hold_in
hold_in_is o kind a b c d e l = one_in o (held_in o kind a b c d e) l

pub hold_out : (o kind a b c d e : ℕ) → 4294967295 < o → bad ≡ hold_in o kind a b c d e
unfolding hold_in
hold_out o kind a b c d e l = one_out o (held_in o kind a b c d e) l
