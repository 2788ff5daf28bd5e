-- What is judged before the first request, case by case. Assumes nothing.
use mathlib.Core.Path.{◌≡◌, sym, ap, ap₂}
use mathlib.Core.Bool.{Bool, true, false}
use Prim.Native.Nat.{ℕ, ◌+◌, ◌*◌, ◌/◌, ◌≤◌, ◌<◌}
use borrow.Author.Tests.{eq-eqb, ne_eqb, le-leb, lt-leb}
use Rattle.definition.specs.Tables.{plan_limit}
use Rattle.definition.specs.Base.{malformed, short, Said, silence, tell}
use Rattle.flat.specs.Flat.{request_size}
use Rattle.plan.specs.Turns.{fits_in, judged_of, turns_in, whole_count, one_count}

abbrev judging : Bool → Bool → Said
judging b c = elim b as (λ _. Said) [ false ↦ tell 0 malformed | true ↦ elim c as (λ _. Said) [ false ↦ tell 0 short | true ↦ silence ] ]

abbrev turning : ℕ → Bool → Bool → ℕ
turning n b c = elim b as (λ _. ℕ) [ false ↦ 0 | true ↦ elim c as (λ _. ℕ) [ false ↦ 0 | true ↦ n ] ]

module _ (s : Bool) (n room : ℕ) where
  pub judged_clear : s ≡ true → fits_in n room ≡ true → silence ≡ judged_of s n room
  unfolding judged_of
  judged_clear e f = sym (ap₂ judging e f)

  pub judged_short : s ≡ true → fits_in n room ≡ false → tell 0 short ≡ judged_of s n room
  unfolding judged_of
  judged_short e f = sym (ap₂ judging e f)

  pub judged_unsound : s ≡ false → tell 0 malformed ≡ judged_of s n room
  unfolding judged_of
  judged_unsound e = sym (ap (λ (b : Bool). judging b (fits_in n room)) e)

  pub turns_all : s ≡ true → fits_in n room ≡ true → n ≡ turns_in s n room
  unfolding turns_in
  turns_all e f = sym (ap₂ (turning n) e f)

  pub turns_short : s ≡ true → fits_in n room ≡ false → 0 ≡ turns_in s n room
  unfolding turns_in
  turns_short e f = sym (ap₂ (turning n) e f)

  pub turns_unsound : s ≡ false → 0 ≡ turns_in s n room
  unfolding turns_in
  turns_unsound e = sym (ap (λ (b : Bool). turning n b (fits_in n room)) e)

abbrev counting : ℕ → Bool → ℕ
counting long b = elim b as (λ _. ℕ) [ true ↦ long / request_size | false ↦ plan_limit + 1 ]

pub whole_is : (long : ℕ) → request_size * (long / request_size) ≡ long → long / request_size ≡ whole_count long
unfolding whole_count
whole_is long e = sym (ap (counting long) (eq-eqb (request_size * (long / request_size)) long e))

pub whole_not : (long : ℕ) → (request_size * (long / request_size) ≡ long → ⊥) → plan_limit + 1 ≡ whole_count long
unfolding whole_count
whole_not long e = sym (ap (counting long) (ne_eqb (request_size * (long / request_size)) long e))

pub one_is : (long : ℕ) → request_size ≤ long → 1 ≡ one_count long
unfolding one_count
one_is long l = sym (ap (λ (b : Bool). elim b as (λ _. ℕ) [ true ↦ 1 | false ↦ plan_limit + 1 ]) (le-leb request_size long l))

pub one_not : (long : ℕ) → long < request_size → plan_limit + 1 ≡ one_count long
unfolding one_count
one_not long l = sym (ap (λ (b : Bool). elim b as (λ _. ℕ) [ true ↦ 1 | false ↦ plan_limit + 1 ]) (lt-leb request_size long l))
