-- A request's numbers with one choice or three pinned: they are read as the definition's pinned choices. Assumes nothing.
use mathlib.Core.Path.{◌≡◌, refl, sym, ap, ◌∙◌}
use mathlib.Core.Bool.{Bool, ◌&&◌}
use mathlib.Core.List.{List}
use Prim.Native.Nat.{ℕ, zero, suc, ◌+◌, ◌*◌, ◌≤◌, ◌<◌}
use native.Mathlib.Omega.{arith}
use borrow.Author.Tests.{le-leb}
use lib.ListN.{length, get_or, set, length-set}
use lib.Seq.{get_or-set_same, get_or-set_other}
use Rattle.definition.specs.Tables.{top}
use Rattle.definition.specs.Plan.{pin_choice}
use Rattle.flat.specs.Flat.{request_size, known, choice_at, named, all_fit, Form, unknown, mmio, pio, input, host, msi, readable, request_in, number_at, request_at}
use Rattle.flat.specs.Pin.{if_auto, pin_choice_at}
use Rattle.flat.proofs.PinLaws.{pin_choice_length}

-- ---- the numbers of a list with one choice pinned

abbrev pub pin_code : ℕ → ℕ
pin_code code = if_auto code 1 code

abbrev pub pin_number : ℕ → ℕ → ℕ → ℕ
pin_number code n granted = if_auto code granted n

-- all but the two places stay
pub choice_other : (p g : ℕ) (rq : List ℕ) (k : ℕ) → (k ≡ p → ⊥) → (k ≡ p + 1 → ⊥) → get_or (pin_choice_at p g rq) k 0 ≡ get_or rq k 0
unfolding pin_choice_at
choice_other p g rq k f h = go (get_or rq p 0)
  where
    go : (code : ℕ) → get_or (if_auto code (set (set rq p 1) (p + 1) g) rq) k 0 ≡ get_or rq k 0
    go zero = get_or-set_other (set rq p 1) (p + 1) k g 0 h ∙ get_or-set_other rq p k 1 0 f
    go (suc code) = refl

choice_code : (p g : ℕ) (rq : List ℕ) → p < length rq → get_or (pin_choice_at p g rq) p 0 ≡ pin_code (get_or rq p 0)
unfolding pin_choice_at
choice_code p g rq l = go (get_or rq p 0) refl
  where
    go : (code : ℕ) → get_or rq p 0 ≡ code → get_or (if_auto code (set (set rq p 1) (p + 1) g) rq) p 0 ≡ pin_code code
    go zero e = get_or-set_other (set rq p 1) (p + 1) p g 0 (λ z. omega arith) ∙ get_or-set_same rq p 1 0 l
    go (suc code) e = e

choice_number_is : (p g : ℕ) (rq : List ℕ) → p + 1 < length rq → get_or (pin_choice_at p g rq) (p + 1) 0 ≡ pin_number (get_or rq p 0) (get_or rq (p + 1) 0) g
unfolding pin_choice_at
choice_number_is p g rq l = go (get_or rq p 0)
  where
    go : (code : ℕ) → get_or (if_auto code (set (set rq p 1) (p + 1) g) rq) (p + 1) 0 ≡ pin_number code (get_or rq (p + 1) 0) g
    go zero = get_or-set_same (set rq p 1) (p + 1) g 0 (omega (arith, length-set rq p 1))
    go (suc code) = refl

-- ---- a pinned code and number are the definition's pinned choice, and can be read where the code could

pub choice_pinned : (code n g : ℕ) → choice_at (pin_code code) (pin_number code n g) ≡ pin_choice (choice_at code n) g
choice_pinned zero n g = refl
choice_pinned (suc code) n g = refl

known_pinned : (code : ℕ) → known (pin_code code) ≡ known code
known_pinned zero = refl
known_pinned (suc code) = refl

-- a form with one choice; MSI has three
abbrev pub Single : Form → Type 0
Single unknown = Unit {0}
Single mmio = Unit {0}
Single pio = Unit {0}
Single input = Unit {0}
Single host = Unit {0}
Single msi = ⊥

pub readable_one : (f : Form) (a b c x n n' y m z l : ℕ) → Single f → readable f a b c (pin_code x) n' y m z l ≡ readable f a b c x n y m z l
unfolding readable
readable_one unknown a b c x n n' y m z l s = refl
readable_one mmio a b c x n n' y m z l s = known_pinned x
readable_one pio a b c x n n' y m z l s = known_pinned x
readable_one input a b c x n n' y m z l s = ap (λ (t : Bool). all_fit a b c && t) (known_pinned x)
readable_one host a b c x n n' y m z l s = known_pinned x
readable_one msi a b c x n n' y m z l s = absurd s

-- a number that was granted has 32 bits, so the pinned choice can be read where the choice could
named_pinned : (code n g : ℕ) → g ≤ top 32 → named (pin_code code) (pin_number code n g) ≡ named code n
named_pinned zero n g h = le-leb g (top 32) h
named_pinned (suc code) n g h = refl

pub readable_three : (a b c x n y m z l g h k : ℕ) → g ≤ top 32 → h ≤ top 32 → k ≤ top 32
    → readable msi a b c (pin_code x) (pin_number x n g) (pin_code y) (pin_number y m h) (pin_code z) (pin_number z l k) ≡ readable msi a b c x n y m z l
unfolding readable
readable_three a b c x n y m z l g h k lg lh lk = λ t. all_fit a b c && (named_pinned x n g lg t && (named_pinned y m h lh t && named_pinned z l k lk t))

-- ---- the numbers of one request, with one or three choices pinned

module _ (i : ℕ) where
  abbrev pin_in : ℕ → ℕ → List ℕ → List ℕ
  pin_in q g rq = pin_choice_at (request_size * i + q) g rq

  number_other : (q g : ℕ) (rq : List ℕ) (j : ℕ) → (j ≡ q → ⊥) → (j ≡ q + 1 → ⊥) → number_at (pin_in q g rq) i j ≡ number_at rq i j
  number_other q g rq j f h = choice_other (request_size * i + q) g rq (request_size * i + j) (λ e. f (omega arith)) (λ e. h (omega arith))

  number_code : (q g : ℕ) (rq : List ℕ) → request_size * i + q < length rq → number_at (pin_in q g rq) i q ≡ pin_code (number_at rq i q)
  number_code q g rq l = choice_code (request_size * i + q) g rq l

  number_number : (q g : ℕ) (rq : List ℕ) → request_size * i + (q + 1) < length rq → number_at (pin_in q g rq) i (q + 1) ≡ pin_number (number_at rq i q) (number_at rq i (q + 1)) g
  number_number q g rq l =
      let e : request_size * i + (q + 1) ≡ request_size * i + q + 1 = omega arith in
      ap (λ (k : ℕ). get_or (pin_in q g rq) k 0) e ∙ choice_number_is (request_size * i + q) g rq (omega arith) ∙ ap (λ (k : ℕ). pin_number (number_at rq i q) (get_or rq k 0) g) (sym e)

  pub one_choice : (g : ℕ) (rq : List ℕ) → request_size * i + request_size ≤ length rq
      → request_at (pin_in 6 g rq) i
      ≡ request_in (number_at rq i 0) (number_at rq i 1) (number_at rq i 2) (number_at rq i 3) (number_at rq i 4) (number_at rq i 5)
      (pin_code (number_at rq i 6)) (pin_number (number_at rq i 6) (number_at rq i 7) g) (number_at rq i 8) (number_at rq i 9) (number_at rq i 10) (number_at rq i 11)
  unfolding request_at
  one_choice g rq l =
      let o : (j : ℕ) → (j ≡ 6 → ⊥) → (j ≡ 7 → ⊥) → number_at (pin_in 6 g rq) i j ≡ number_at rq i j = number_other 6 g rq in
      let c₆ : number_at (pin_in 6 g rq) i 6 ≡ pin_code (number_at rq i 6) = number_code 6 g rq (omega arith) in
      let c₇ : number_at (pin_in 6 g rq) i 7 ≡ pin_number (number_at rq i 6) (number_at rq i 7) g = number_number 6 g rq (omega arith) in
      let o₀ = o 0 (λ e. omega arith) (λ e. omega arith) in
      let o₁ = o 1 (λ e. omega arith) (λ e. omega arith) in
      let o₂ = o 2 (λ e. omega arith) (λ e. omega arith) in
      let o₃ = o 3 (λ e. omega arith) (λ e. omega arith) in
      let o₄ = o 4 (λ e. omega arith) (λ e. omega arith) in
      let o₅ = o 5 (λ e. omega arith) (λ e. omega arith) in
      let o₈ = o 8 (λ e. omega arith) (λ e. omega arith) in
      let o₉ = o 9 (λ e. omega arith) (λ e. omega arith) in
      let o₁₀ = o 10 (λ e. omega arith) (λ e. omega arith) in
      let o₁₁ = o 11 (λ e. omega arith) (λ e. omega arith) in
      λ t. request_in (o₀ t) (o₁ t) (o₂ t) (o₃ t) (o₄ t) (o₅ t) (c₆ t) (c₇ t) (o₈ t) (o₉ t) (o₁₀ t) (o₁₁ t)

  pub three_choices : (g h m : ℕ) (rq : List ℕ) → request_size * i + request_size ≤ length rq
      → request_at (pin_in 10 m (pin_in 8 h (pin_in 6 g rq))) i
      ≡ request_in (number_at rq i 0) (number_at rq i 1) (number_at rq i 2) (number_at rq i 3) (number_at rq i 4) (number_at rq i 5)
      (pin_code (number_at rq i 6)) (pin_number (number_at rq i 6) (number_at rq i 7) g) (pin_code (number_at rq i 8)) (pin_number (number_at rq i 8) (number_at rq i 9) h)
      (pin_code (number_at rq i 10)) (pin_number (number_at rq i 10) (number_at rq i 11) m)
  unfolding request_at
  three_choices g h m rq l =
      let r₁ : List ℕ = pin_in 6 g rq in
      let r₂ : List ℕ = pin_in 8 h r₁ in
      let n₁ : length r₁ ≡ length rq = pin_choice_length (request_size * i + 6) g rq in
      let n₂ : length r₂ ≡ length r₁ = pin_choice_length (request_size * i + 8) h r₁ in
      let a : (j : ℕ) → (j ≡ 6 → ⊥) → (j ≡ 7 → ⊥) → number_at r₁ i j ≡ number_at rq i j = number_other 6 g rq in
      let b : (j : ℕ) → (j ≡ 8 → ⊥) → (j ≡ 9 → ⊥) → number_at r₂ i j ≡ number_at r₁ i j = number_other 8 h r₁ in
      let c : (j : ℕ) → (j ≡ 10 → ⊥) → (j ≡ 11 → ⊥) → number_at (pin_in 10 m r₂) i j ≡ number_at r₂ i j = number_other 10 m r₂ in
      let low : (j : ℕ) → j < 6 → number_at (pin_in 10 m r₂) i j ≡ number_at rq i j =
      λ j s. c j (λ e. omega arith) (λ e. omega arith) ∙ b j (λ e. omega arith) (λ e. omega arith) ∙ a j (λ e. omega arith) (λ e. omega arith) in
      let up : (j : ℕ) → j < 8 → number_at (pin_in 10 m r₂) i j ≡ number_at r₁ i j = λ j s. c j (λ e. omega arith) (λ e. omega arith) ∙ b j (λ e. omega arith) (λ e. omega arith) in
      let a₈ : number_at r₁ i 8 ≡ number_at rq i 8 = a 8 (λ e. omega arith) (λ e. omega arith) in
      let a₉ : number_at r₁ i 9 ≡ number_at rq i 9 = a 9 (λ e. omega arith) (λ e. omega arith) in
      let b₁₀ : number_at r₂ i 10 ≡ number_at rq i 10 = b 10 (λ e. omega arith) (λ e. omega arith) ∙ a 10 (λ e. omega arith) (λ e. omega arith) in
      let b₁₁ : number_at r₂ i 11 ≡ number_at rq i 11 = b 11 (λ e. omega arith) (λ e. omega arith) ∙ a 11 (λ e. omega arith) (λ e. omega arith) in
      let c₆ = up 6 (omega arith) ∙ number_code 6 g rq (omega arith) in
      let c₇ = up 7 (omega arith) ∙ number_number 6 g rq (omega arith) in
      let c₈ = c 8 (λ e. omega arith) (λ e. omega arith) ∙ number_code 8 h r₁ (omega arith) ∙ ap pin_code a₈ in
      let c₉ = c 9 (λ e. omega arith) (λ e. omega arith) ∙ number_number 8 h r₁ (omega arith) ∙ (λ t. pin_number (a₈ t) (a₉ t) h) in
      let c₁₀ = number_code 10 m r₂ (omega arith) ∙ ap pin_code b₁₀ in
      let c₁₁ = number_number 10 m r₂ (omega arith) ∙ (λ t. pin_number (b₁₀ t) (b₁₁ t) m) in
      let l₀ = low 0 (omega arith) in
      let l₁ = low 1 (omega arith) in
      let l₂ = low 2 (omega arith) in
      let l₃ = low 3 (omega arith) in
      let l₄ = low 4 (omega arith) in
      let l₅ = low 5 (omega arith) in
      λ t. request_in (l₀ t) (l₁ t) (l₂ t) (l₃ t) (l₄ t) (l₅ t) (c₆ t) (c₇ t) (c₈ t) (c₉ t) (c₁₀ t) (c₁₁ t)
