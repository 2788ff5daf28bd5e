-- What stands in front of the buffer is the definition's answer to the bytes read: the pinned text, or the line `no`. Assumes nothing.
use mathlib.Core.Path.{◌≡◌, refl, sym, ap, ap₂, subst, ◌∙◌}
use Rattle.std.proofs.Common.{Ok, Err}
use mathlib.Core.Logic.{◌⊎◌, inl, inr}
use mathlib.Core.Bool.{Bool, true, false}
use mathlib.Core.List.{List, [], ◌++◌, map}
use Prim.Native.Nat.{ℕ, ◌+◌, ◌≤◌, ◌<◌}
use native.Mathlib.Omega.{arith}
use lib.Dec.{leb}
use lib.ListN.{length, take, drop, get_or, length-append}
use lib.Seq.{take_at}
use borrow.Author.Tests.{eqb-false, le-leb, leb-true}
use Rattle.definition.specs.Base.{says}
use Rattle.definition.proofs.BaseLaws.{and_false}
use Rattle.definition.specs.Plan.{written}
use Rattle.lines.specs.Base.{text_limit, bytes}
use Rattle.lines.specs.Numbers.{digits}
use Rattle.lines.specs.Line.{line_with}
use Rattle.lines.specs.Output.{no_line}
use Rattle.lines.specs.Text.{Sofar, accepts, overlong, ended}
use Rattle.lines.specs.Back.{back, Pinned, pinning, pinned_by, pins_to, pinned_output, pin_output}
use Rattle.lines.proofs.FeedLaws.{ended_long}
use Rattle.lines.proofs.Longest.{no_length}
use Rattle.writers.specs.declared.put.Page.{Page}
use Rattle.writers.specs.declared.output.Refused.{Refused as R}
use Rattle.writers.specs.Put.{Room, Puts}
use Rattle.writers.specs.Refuses.{refused_line}
use Rattle.writers.proofs.PutLaws.{put_exact, puts_length}
use Rattle.write_back.specs.Answer.{numbers_of, answer_of}

-- ---- texts longer than the longest are answered alike

pub alike_pin : (a b : List ℕ) → text_limit < length a → text_limit < length b → pin_output a ≡ pin_output b
unfolding pin_output
alike_pin a b l m = over a l ∙ sym (over b m)
  where
    over : (t : List ℕ) → text_limit < length t → pin_output t ≡ pinned_output overlong []
    over t h = ap (λ (u : Sofar). pinned_output u (back t)) (ended_long t h)

-- ---- written, or refused

-- the line `no` of five numbers
abbrev no_of : List ℕ → List ℕ
no_of five = line_with (bytes "no") (map digits five)

pub no_line_of : (x : R) → refused_line x ≡ no_of (numbers_of x)
unfolding no_line
no_line_of x = refl

abbrev Wrote : List ℕ → List ℕ → Pinned → Type 0
Wrote text out p = (get_or p.answer 1 0 ≡ 0) × (pin_output text ≡ back text) × (p ≡ pinning p.answer (length (back text)) (written (back text) out))

abbrev Refused : List ℕ → List ℕ → Pinned → Type 0
Refused text out p = (get_or p.answer 1 0 ≡ 0 → ⊥) × (pin_output text ≡ no_of p.answer) × (p.buffer ≡ out)

cases : (text out : List ℕ) → text_limit ≤ length out → Wrote text out (pins_to text out) ⊎ Refused text out (pins_to text out)
unfolding pins_to pin_output no_line
cases text out room = go (accepts (ended text).said) refl
  where
    kept : (b : Bool) → leb (length (back text)) text_limit ≡ b → accepts (ended text).said ≡ true → Wrote text out (pins_to text out) ⊎ Refused text out (pins_to text out)
    kept true e a =
        let l : length (back text) ≤ length out = omega (arith, leb-true (length (back text)) text_limit e) in
        inl (rw (pins_to, pinned_by, pin_output, pinned_output, a, e, le-leb (length (back text)) (length out) l) (refl, refl, refl))
    kept false e a = inr (rw (pins_to, pinned_by, pin_output, pinned_output, a, e, and_false (leb (length (back text)) (length out))) ((λ q. omega arith), refl, refl))

    go : (b : Bool) → accepts (ended text).said ≡ b → Wrote text out (pins_to text out) ⊎ Refused text out (pins_to text out)
    go true a = kept (leb (length (back text)) text_limit) refl a
    go false a = inr (rw (pins_to, pinned_by, pin_output, pinned_output, a) (eqb-false (ended text).said.number 0 a, refl, refl))

-- ---- what stands in front of the buffer

module _ (text out out' : List ℕ) (room : text_limit ≤ length out) where
  -- written: the pinned text
  module _ (n : ℕ) (is : pinning (answer_of (Ok n)) n out' ≡ pins_to text out) where
    wrote : Wrote text out (pinning (answer_of (Ok n)) n out')
    wrote = elim (subst (λ p. Wrote text out p ⊎ Refused text out p) (sym is) (cases text out room)) [ inl k ↦ k | inr k ↦ absurd (k.0 refl) ]

    pub wrote_inside : n ≤ length out'
    wrote_inside =
        let e : n ≡ length (back text) = ap (λ (p : Pinned). p.bytes) wrote.2 in
        let b : out' ≡ written (back text) out = ap (λ (p : Pinned). p.buffer) wrote.2 in
        omega (arith, e, ap length b, length-append (back text) (drop (length (back text)) out))

    pub wrote_front : take n out' ≡ pin_output text
    wrote_front =
        ap (λ (p : Pinned). take p.bytes p.buffer) wrote.2 ∙ take_at (back text) (drop (length (back text)) out) (length (back text)) refl ∙ sym wrote.1

  -- refused: there is room for the line `no`, and it stands in front
  module _ (x : R) (f : x.number ≡ 0 → ⊥) (is : pinning (answer_of (Err x)) 0 out' ≡ pins_to text out) where
    refused : Refused text out (pinning (numbers_of x) 0 out')
    refused = elim (subst (λ p. Wrote text out p ⊎ Refused text out p) (sym is) (cases text out room)) [ inl k ↦ absurd (f k.0) | inr k ↦ k ]

    module _ (p : Page) (e₁ : p.out.now ≡ out') (e₂ : p.at ≡ 0) where
      pub no_room : Room p (refused_line x)
      no_room = omega (arith, ap length e₁, e₂, ap length refused.2, room, no_length x.line (says 0 x.number x.namespace x.owner x.detail))

      module _ (q : Page) (a : Puts p (refused_line x) q) (out'' : List ℕ) (same : out'' ≡ q.out.now) where
        buffer_is : out'' ≡ take p.at p.out.now ++ refused_line x ++ drop (p.at + length (refused_line x)) p.out.now
        buffer_is = same ∙ put_exact p.out.now p.at (refused_line x) q.at q.out.now a.put no_room

        pub no_inside : q.at ≤ length out''
        no_inside = omega (arith, ap length same, puts_length p (refused_line x) q a, a.put.0, no_room)

        pub no_front : take q.at out'' ≡ pin_output text
        no_front =
            let z : q.at ≡ length (refused_line x) = omega (arith, a.put.0, e₂) in
            ap₂ take z (buffer_is ∙ ap (λ n. take n p.out.now ++ refused_line x ++ drop (p.at + length (refused_line x)) p.out.now) e₂)
            ∙ take_at (refused_line x) (drop (p.at + length (refused_line x)) p.out.now) (length (refused_line x)) refl ∙ no_line_of x ∙ sym refused.1
