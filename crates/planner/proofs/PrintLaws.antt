-- What stands in front of the buffer is the definition's output of the bytes read; and texts longer than the longest are answered alike. Assumes nothing.
use mathlib.Core.Path.{◌≡◌, refl, sym, ap, ap₂, ◌∙◌}
use Rattle.std.proofs.Common.{Result, Ok, Err}
use Rattle.std.specs.Result.{result_unwrap_or}
use mathlib.Core.List.{List}
use Prim.Native.Nat.{ℕ, ◌≤◌, ◌<◌}
use native.Mathlib.Omega.{arith}
use lib.ListN.{length, take, drop, length-append}
use lib.Seq.{take_at}
use borrow.Author.Tests.{le-leb}
use Rattle.definition.specs.Plan.{written}
use Rattle.lines.specs.Base.{text_limit}
use Rattle.lines.specs.Output.{output_limit}
use Rattle.lines.specs.Text.{answer, output}
use Rattle.lines.proofs.FeedLaws.{ended_long}
use Rattle.text.specs.declared.Short.{Short}
use Rattle.text.specs.Respond.{Replied, replied, responds_to}
use Rattle.text.specs.Reply.{replied_by}

pub alike_output : (a b : List ℕ) → text_limit < length a → text_limit < length b → output a ≡ output b
unfolding output
alike_output a b l m = ap answer (ended_long a l ∙ sym (ended_long b m))

-- ---- what stands in front of the buffer

bytes_are : (r : Result ℕ Short) (out : List ℕ) → (replied_by r out).bytes ≡ result_unwrap_or r 0
bytes_are (Ok n) out = refl
bytes_are (Err x) out = refl

buffer_is : (r : Result ℕ Short) (out : List ℕ) → (replied_by r out).buffer ≡ out
buffer_is (Ok n) out = refl
buffer_is (Err x) out = refl

module _ (text out : List ℕ) (r : Result ℕ Short) (out' : List ℕ) (room : output_limit ≤ length out) (is : replied_by r out' ≡ responds_to text out) where
  replied_is : replied_by r out' ≡ replied 0 (length (output text)) (written (output text) out)
  unfolding responds_to
  replied_is = is ∙ rw (responds_to, le-leb output_limit (length out) room)

  count_is : result_unwrap_or r 0 ≡ length (output text)
  count_is = sym (bytes_are r out') ∙ ap (λ (v : Replied). v.bytes) replied_is

  written_is : out' ≡ written (output text) out
  written_is = sym (buffer_is r out') ∙ ap (λ (v : Replied). v.buffer) replied_is

  pub front_inside : result_unwrap_or r 0 ≤ length out'
  front_inside = omega (arith, count_is, ap length written_is, length-append (output text) (drop (length (output text)) out))

  pub front_is : take (result_unwrap_or r 0) out' ≡ output text
  front_is = ap₂ take count_is written_is ∙ take_at (output text) (drop (length (output text)) out) (length (output text)) refl
