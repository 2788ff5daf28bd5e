-- What writing back answers, as the code comes to it, is the definition's answer. Assumes nothing.
use mathlib.Core.Path.{◌≡◌, refl, sym, ◌∙◌, ap, subst}
use mathlib.Core.Bool.{true, false, ◌&&◌}
use mathlib.Core.List.{List, [], ◌∷◌, ◌++◌, map}
use mathlib.Core.Option.{some}
use Prim.Native.Nat.{ℕ, ◌+◌, ◌*◌, ◌≤◌, ◌<◌}
use native.Mathlib.Omega.{arith}
use lib.Dec.{leb}
use lib.ListN.{length, drop, take-append-drop}
use lib.Seq.{sets, sets-eq}
use borrow.Author.Tests.{le-leb, lt-leb, eq-eqb, ne_eqb, eqb-false}
use Rattle.definition.proofs.BaseLaws.{and_false}
use Rattle.definition.specs.Tables.{record_size}
use Rattle.definition.specs.Base.{silence, short, tell}
use Rattle.definition.specs.Calls.{State, fresh}
use Rattle.definition.specs.Plan.{Grant, records, written}
use Rattle.lines.specs.Base.{text_limit, newline, split}
use Rattle.lines.specs.Output.{no_numbers}
use Rattle.lines.specs.Text as Text
use Rattle.lines.specs.Text.{accepts, ended}
use Rattle.lines.specs.Line.{read_line}
use Rattle.lines.specs.Back.{calls, set_up_by, grants, back, pinning, pinned_by, pins_to}
use Rattle.lines.proofs.PartLaws.{split_some}
use Rattle.lines.proofs.FeedLaws.{ended_long, ended_within}
use Rattle.lines.proofs.TakesLaws.{closed_of}
use Rattle.lines.proofs.RunTextLaws.{standing}
use Rattle.lines.proofs.BackLaws.{took, requests_are, ends}
use Rattle.std.proofs.lemmas.Option.{none-some, same_Some}
use Rattle.std.specs.Prelude as P
use Rattle.std.specs.Prelude.{None, Some}
use Rattle.writers.specs.declared.put.Page.{Page}
use Rattle.writers.specs.declared.output.Refused.{Refused}
use Rattle.writers.specs.Put.{Put, Puts}
use Rattle.text.specs.Sofar.{said_of, said_in, is_none, Named, no_of, refused_of, sofar_of}
use Rattle.text.specs.declared.feed.sofar.Reason.{Reason}
use Rattle.text.specs.Step.{results_size, Fed}
use Rattle.text.specs.declared.feed.sofar.Sofar.{Sofar}
use Rattle.write_back.specs.Bytes.{back_bytes, Writable}
use Rattle.write_back.specs.Answer.{numbers_of}
use Rattle.write_back.proofs.PinnedLaws.{Known, known}

-- ---- the definition's answer, case by case

pub pins_long : (text out : List ℕ) → text_limit < length text → pinning (0 ∷ 10 ∷ 0 ∷ 0 ∷ 0 ∷ []) 0 out ≡ pins_to text out
unfolding pins_to
pins_long text out l = sym (ap (λ (u : Text.Sofar). pinned_by u (back text) out) (ended_long text l))

-- what a text was refused with, and that it was not
refused_said : (t : Sofar) (x : Refused) → refused_of t ≡ Some x → Named t → (accepts (said_in t) ≡ false) × (no_numbers t.lines (said_in t) ≡ numbers_of x)
refused_said t x = go t.refusal
  where
    go : (o : P.Option Reason) → no_of o t.lines ≡ Some x → accepts (said_of o) ≡ is_none o → (accepts (said_of o) ≡ false) × (no_numbers t.lines (said_of o) ≡ numbers_of x)
    go None e n = absurd (none-some x e)
    go (Some r) e n = (n, ap numbers_of (same_Some _ _ e))

pub refused_numbered : (t : Sofar) (x : Refused) → refused_of t ≡ Some x → Named t → x.number ≡ 0 → ⊥
refused_numbered t x = go t.refusal
  where
    go : (o : P.Option Reason) → no_of o t.lines ≡ Some x → accepts (said_of o) ≡ is_none o → x.number ≡ 0 → ⊥
    go None e n z = none-some x e
    go (Some r) e n z = eqb-false r.number 0 n (ap (λ (y : Refused). y.number) (same_Some _ _ e) ∙ z)

pub no_number : (t : Sofar) → refused_of t ≡ None → (said_in t).number ≡ 0
no_number t = go t.refusal
  where
    go : (o : P.Option Reason) → no_of o t.lines ≡ None → (said_of o).number ≡ 0
    go None e = refl
    go (Some r) e = absurd (none-some _ (sym e))

module _ (text zs₀ : List ℕ) (t : Sofar) (s : State) (zs : List ℕ) (fed : Fed text fresh zs₀ t s zs) (long : length zs ≡ results_size) (fits : length text ≤ text_limit) where
  came : ended text ≡ sofar_of t s zs
  came = ended_within text fits ∙ sym fed.comes

  pub pins_refused : (out : List ℕ) → ((said_in t).number ≡ 0 → ⊥)
      → pinning (t.lines ∷ (said_in t).number ∷ (said_in t).namespace ∷ (said_in t).owner ∷ (said_in t).detail ∷ []) 0 out ≡ pins_to text out
  unfolding pins_to
  pins_refused out f = sym (ap (λ (u : Text.Sofar). pinned_by u (back text) out) came ∙ rw (pinned_by, ne_eqb (said_in t).number 0 f) refl)

  -- .. as the code has its numbers
  pub pins_no : (out : List ℕ) (x : Refused) → refused_of t ≡ Some x → pinning (numbers_of x) 0 out ≡ pins_to text out
  unfolding pins_to
  pins_no out x f =
      let (a, b) = refused_said t x f fed.named in
      sym (ap (λ (u : Text.Sofar). pinned_by u (back text) out) came ∙ rw (pinned_by, a) (ap (λ l. pinning l 0 out) b))

  -- accepted
  module _ (e : (said_in t).number ≡ 0) where
    accepted_text : accepts (ended text).said ≡ true
    accepted_text = rw (came, eq-eqb (said_in t).number 0 e) refl

    abbrev gs : List Grant
    gs = grants text

    same_end : sofar_of t s zs ≡ Text.sofar (length (calls text)) (standing (set_up_by text) gs) (length gs) (records gs) silence
    same_end = sym came ∙ ends text accepted_text

    results_are : zs ≡ records gs ++ drop (record_size * t.wants) zs
    results_are = sym (take-append-drop (record_size * t.wants) zs) ∙ ap (λ rs. rs ++ drop (record_size * t.wants) zs) (ap (λ (u : Text.Sofar). u.records) same_end)

    all_known : Known (split newline text) (calls text) gs (drop (record_size * t.wants) zs)
    all_known =
        let (p, ps, q) = split_some newline text in
        subst (λ qs. Known qs (calls text) gs (drop (record_size * t.wants) zs)) (sym q)
        (known ps p (calls text) gs (drop (record_size * t.wants) zs) (subst (λ qs. map read_line (closed_of qs) ≡ map some (calls text)) q (took text accepted_text).said) (requests_are text accepted_text))

    pub bytes_are : back_bytes (split newline text) zs ≡ back text
    unfolding back
    bytes_are = ap (back_bytes (split newline text)) results_are ∙ all_known.bytes

    pub writable : Writable text zs
    writable = record {
      short = fits;
      whole = long;
      few = omega (arith, all_known.count, ap (λ (u : Text.Sofar). u.wants) same_end, fed.few);
      tidy = all_known.tidy;
    }

    accepted_pins : (out : List ℕ) → pins_to text out ≡ elim (leb (length (back text)) (length out) && leb (length (back text)) text_limit) [
      | true ↦ pinning (no_numbers 0 silence) (length (back text)) (written (back text) out)
      | false ↦ pinning (no_numbers 0 (tell 0 short)) 0 out
    ]
    unfolding pins_to
    accepted_pins out = rw (pins_to, pinned_by, accepted_text) refl

    -- the written text is n bytes long: more than the buffer has, more than a text may have, or neither
    module _ (out : List ℕ) (n : ℕ) (is : n ≡ length (back_bytes (split newline text) zs)) where
      length_is : length (back text) ≡ n
      length_is = sym (is ∙ ap length bytes_are)

      pub pins_short : length out < n → pinning (0 ∷ 11 ∷ 0 ∷ 0 ∷ 0 ∷ []) 0 out ≡ pins_to text out
      pins_short l = sym (accepted_pins out ∙ rw (length_is, lt-leb n (length out) l) refl)

      pub pins_over : text_limit < n → pinning (0 ∷ 11 ∷ 0 ∷ 0 ∷ 0 ∷ []) 0 out ≡ pins_to text out
      pins_over l = sym (accepted_pins out ∙ rw (length_is, lt-leb n text_limit l, and_false (leb n (length out))) refl)

      pub pins_written : (r : ℕ) (out' : List ℕ) → n ≤ length out → n ≤ text_limit → Put out 0 (back_bytes (split newline text) zs) r out'
          → pinning (0 ∷ 0 ∷ 0 ∷ 0 ∷ 0 ∷ []) r out' ≡ pins_to text out
      pins_written r out' l m p =
          let k : r ≡ length (back text) = omega (arith, p.0, is, length_is) in
          let z : 0 + length (back text) ≡ length (back text) = omega arith in
          let b : out' ≡ written (back text) out =
          p.1
          ∙ ap (λ bs. sets out 0 bs) bytes_are
          ∙ sets-eq (back text) out 0 (omega (arith, length_is))
          ∙ ap (λ (j : ℕ). back text ++ drop j out) z in
          sym (accepted_pins out ∙ rw (le-leb (length (back text)) (length out) (omega (arith, length_is)), le-leb (length (back text)) text_limit (omega (arith, length_is))) (λ i. pinning (0 ∷ 0 ∷ 0 ∷ 0 ∷ 0 ∷ []) (sym k i) (sym b i)))

      -- .. on a page
      pub pins_page : (p q : Page) → p.out.now ≡ out → p.at ≡ 0 → n ≤ length out → n ≤ text_limit → Puts p (back_bytes (split newline text) zs) q → (out' : List ℕ) → out' ≡ q.out.now
          → pinning (0 ∷ 0 ∷ 0 ∷ 0 ∷ 0 ∷ []) q.at out' ≡ pins_to text out
      pins_page p q e₁ e₂ l m w out' same =
          pins_written q.at out' l m (w.put.0 ∙ ap (λ (k : ℕ). k + length (back_bytes (split newline text) zs)) e₂, same ∙ w.put.1 ∙ (λ i. sets (e₁ i) (e₂ i) (back_bytes (split newline text) zs)))
