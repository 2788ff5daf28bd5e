-- What was gathered, written into the caller's list: all of it, or nothing. Assumes nothing.
use Rattle.std.proofs.Common.{◌≡◌, ℕ, ◌*◌, ◌/◌, ◌<◌, ◌≤◌, List, ◌++◌, length, take, drop, Ok, sym, ap, ◌∙◌, arith, le-leb}
use borrow.Author.Tests.{lt-leb}
use Rattle.definition.specs.Base.{short, Answer, accepted, refused, require}
use Rattle.definition.specs.Request.{Request}
use Rattle.flat.specs.Flat.{request_size, numbers_of_all}
use Rattle.flat.proofs.NumbersLaws.{length_numbers}
use Rattle.registers.specs.Sizing.{sized, sizing}
use Rattle.registers.specs.Gathered.{sized_into, Collected}

-- ---- all of them are made: they are written, or there is no room
module _ (count : ℕ) (list out : List ℕ) where
  abbrev held : ℕ
  held = length out / request_size

  pub into_short : held < count → (a : Answer (List Request)) → Collected a (Ok count) list → sized 11 0 out ≡ sized_into a out
  unfolding require
  into_short l (accepted rs) c = sym (ap (λ b. sizing (require b short (accepted rs)) out) (lt-leb (length rs) held (omega (arith, c.0))))
  into_short l (refused x) c = absurd c

  pub into_all : count ≤ held → (a : Answer (List Request)) → Collected a (Ok count) list → sized 0 count (take (request_size * count) list ++ drop (request_size * count) out) ≡ sized_into a out
  unfolding require
  into_all l (accepted rs) c =
      let xs : List ℕ = numbers_of_all rs in
      let long : request_size * count ≡ length xs = omega (arith, length_numbers rs, c.0) in
      (λ i. sized 0 (c.0 i) (c.2 i ++ drop (long i) out)) ∙ sym (ap (λ b. sizing (require b short (accepted rs)) out) (le-leb (length rs) held (omega (arith, c.0))))
  into_all l (refused x) c = absurd c
