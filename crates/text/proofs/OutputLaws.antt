-- THE LAW of the text call: what the code makes of a text's lines is the definition's output. Assumes nothing.
use mathlib.Core.Path.{◌≡◌, refl, sym, ap, subst, ◌∙◌}
use mathlib.Core.Bool.{Bool, true, false}
use mathlib.Core.List.{List, ◌++◌}
use Prim.Native.Nat.{ℕ, ◌+◌, ◌*◌, ◌≤◌, ◌<◌}
use native.Mathlib.Omega.{arith}
use lib.Dec.{leb}
use lib.ListN.{length, take, drop, replicate, length-replicate, length-append}
use lib.Seq.{sets-eq}
use borrow.Author.Tests.{le-leb, lt-leb}
use Rattle.definition.specs.Tables.{record_size}
use Rattle.definition.specs.Base.{says, bad_line, tell}
use Rattle.definition.specs.Calls.{State, fresh}
use Rattle.definition.specs.Plan.{written}
use Rattle.lines.specs.Base.{text_limit}
use Rattle.lines.specs.Output.{got_lines, end_line, no_line, output_limit}
use Rattle.lines.specs.Text as Text
use Rattle.lines.specs.Text.{beginning, feed, close, accepts, answer, output}
use Rattle.lines.proofs.FeedLaws.{ended_long, ended_within}
use Rattle.lines.proofs.Longest.{output_length}
use Rattle.std.proofs.lemmas.Option.{none-some, same_Some}
use Rattle.std.specs.Prelude as P
use Rattle.std.specs.Prelude.{None, Some}
use Rattle.writers.specs.declared.put.Page.{Page}
use Rattle.writers.specs.declared.output.Refused.{Refused}
use Rattle.writers.specs.Put.{Put, Room, Puts}
use Rattle.writers.specs.Refuses.{refused_line}
use Rattle.text.specs.declared.feed.sofar.Reason.{Reason}
use Rattle.text.specs.Sofar.{said_of, is_none, no_of, sofar_of, refused_of}
use Rattle.text.specs.Step.{results_size, Fed}
use Rattle.text.specs.declared.feed.sofar.Sofar.{Sofar}
use Rattle.text.specs.Respond.{tables_after, answered_by, Replied, replied, responds_to}
use Rattle.text.proofs.GotLaws.{gots_taken}

-- ---- a text within its limit, or over it

pub output_long : (text : List ℕ) → text_limit < length text → output text ≡ no_line 0 (tell 0 bad_line)
unfolding output answer
output_long text l = ap answer (ended_long text l)

within : (text : List ℕ) → length text ≤ text_limit → output text ≡ answer (close (feed Text.step beginning text))
unfolding output
within text l = ap answer (ended_within text l)

-- ---- the answer, as the code comes to it

-- an answer's index is not written
pub no_line_is : (l i n s o d : ℕ) → no_line l (says i n s o d) ≡ no_line l (says 0 n s o d)
unfolding no_line
no_line_is l i n s o d = refl

module _ (t : Sofar) (rs : List ℕ) where
  pub answered_refused : (x : Refused) → refused_of t ≡ Some x → answered_by t rs ≡ refused_line x
  unfolding answered_by
  answered_refused x e = go t.refusal e
    where
      go : (o : P.Option Reason) → no_of o t.lines ≡ Some x → elim o [ None ↦ got_lines t.wants rs ++ end_line t.wants | Some r ↦ no_line t.lines (says r.index r.number r.namespace r.owner r.detail) ] ≡ refused_line x
      go None q = absurd (none-some x q)
      go (Some r) q = no_line_is t.lines r.index r.number r.namespace r.owner r.detail ∙ ap refused_line (same_Some _ _ q)

  pub answered_whole : refused_of t ≡ None → answered_by t rs ≡ got_lines t.wants rs ++ end_line t.wants
  unfolding answered_by
  answered_whole e = go t.refusal e
    where
      go : (o : P.Option Reason) → no_of o t.lines ≡ None → elim o [ None ↦ got_lines t.wants rs ++ end_line t.wants | Some r ↦ no_line t.lines (says r.index r.number r.namespace r.owner r.detail) ] ≡ got_lines t.wants rs ++ end_line t.wants
      go None q = refl
      go (Some r) q = absurd (none-some _ (sym q))

-- .. is that of the lines taken
module _ (text zs₀ : List ℕ) (t : Sofar) (s : State) (zs : List ℕ) (fed : Fed text fresh zs₀ t s zs) (long : length zs ≡ results_size) where
  pub records_inside : record_size * t.wants ≤ length zs
  records_inside = omega (arith, fed.few, long)

  came : answer (sofar_of t s zs) ≡ answered_by t zs
  unfolding answer answered_by
  came = go t.refusal fed.named ∙ ap (λ (b : List ℕ). elim t.refusal [ None ↦ b ++ end_line t.wants | Some r ↦ no_line t.lines (says r.index r.number r.namespace r.owner r.detail) ]) (gots_taken t.wants zs records_inside)
    where
      gots : List ℕ
      gots = got_lines t.wants (take (record_size * t.wants) zs)

      go : (o : P.Option Reason) → accepts (said_of o) ≡ is_none o → ◌≡◌ {A = List ℕ} (elim (accepts (said_of o)) [ true ↦ gots ++ end_line t.wants | false ↦ no_line t.lines (said_of o) ])
          (elim o [ None ↦ gots ++ end_line t.wants | Some r ↦ no_line t.lines (says r.index r.number r.namespace r.owner r.detail) ])
      go None n = refl
      go (Some r) n = ap (λ (b : Bool). elim b [ true ↦ gots ++ end_line t.wants | false ↦ no_line t.lines (said_of (Some r)) ]) n

  pub output_is : length text ≤ text_limit → output text ≡ answered_by t zs
  output_is l = within text l ∙ ap answer (sym fed.comes) ∙ came

  -- .. whatever tables they left
  pub tables_are : Fed text fresh zs₀ t (tables_after text) zs
  tables_are = subst (λ (u : State). Fed text fresh zs₀ t u zs) (ap (λ (u : Text.Sofar). u.state) fed.comes) fed

-- ---- the results list as the code makes it

abbrev pub blank : List ℕ
blank = replicate results_size 0

pub blank_long : length blank ≡ results_size
blank_long = length-replicate {A = ℕ} results_size 0

-- ---- the buffer

-- the output put in front of a buffer that has room for any
module _ (text out : List ℕ) where
  pub reply_put : (e : ℕ) (out' : List ℕ) → output_limit ≤ length out → Put out 0 (output text) e out' → replied 0 e out' ≡ responds_to text out
  unfolding responds_to
  reply_put e out' l p =
      let n : e ≡ length (output text) = omega (arith, p.0) in
      let k : 0 + length (output text) ≡ length (output text) = omega arith in
      let b : out' ≡ written (output text) out = p.1 ∙ sets-eq (output text) out 0 (omega (arith, output_length text)) ∙ ap (λ (j : ℕ). output text ++ drop j out) k in
      rw (responds_to, le-leb output_limit (length out) l) (λ i. replied 0 (n i) (b i))

  pub reply_page : (p q : Page) → p.out.now ≡ out → p.at ≡ 0 → output_limit ≤ length out → Puts p (output text) q → (out' : List ℕ) → out' ≡ q.out.now → replied 0 q.at out' ≡ responds_to text out
  reply_page p q e f l a out' same = reply_put q.at out' l (rw (← e, ← f, same) a.put)

  pub page_room : (p : Page) → p.out.now ≡ out → p.at ≡ 0 → output_limit ≤ length out → Room p (output text)
  page_room p e f l = omega (arith, ap length e, f, l, output_length text)

  pub reply_short : length out < output_limit → replied 11 0 out ≡ responds_to text out
  unfolding responds_to
  reply_short l = rw (responds_to, lt-leb output_limit (length out) l)

  -- what was written lies in the buffer
  pub reply_inside : (n k : ℕ) (out' : List ℕ) → replied n k out' ≡ responds_to text out → k ≤ length out'
  unfolding responds_to
  reply_inside n k out' e = subst (λ (r : Replied). r.bytes ≤ length r.buffer) (sym e) (go (leb output_limit (length out)))
    where
      go : (b : Bool) → let r : Replied = elim b [ true ↦ replied 0 (length (output text)) (written (output text) out) | false ↦ replied 11 0 out ] in r.bytes ≤ length r.buffer
      go true = omega (arith, length-append (output text) (drop (length (output text)) out))
      go false = omega arith
