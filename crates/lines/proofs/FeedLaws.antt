-- Laws of taking a text line by line, as a loop over its bytes does; and a refusal stands. Assumes nothing.
use mathlib.Core.Path.{◌≡◌, refl, sym, ◌∙◌, ap}
use mathlib.Core.Bool.{Bool, true, false}
use mathlib.Core.List.{List, [], ◌∷◌}
use mathlib.Core.Option.{none}
use Prim.Native.Nat.{ℕ, ◌+◌, ◌-◌, ◌<◌, ◌≤◌}
use native.Mathlib.Omega.{arith}
use lib.ListN.{length, take, drop, length-drop, drop_of_length-le}
use lib.Seq.{take_all, drop-cons}
use lib.Dec.{ltb}
use borrow.Author.Tests.{lt-ltb, le-ltb, ltb-true, ltb-false, le-leb, lt-leb}
use Rattle.lines.specs.Base.{text_limit, newline, split}
use Rattle.lines.specs.Line.{read_line}
use Rattle.lines.specs.Code.{first}
use Rattle.lines.specs.Text.{Sofar, beginning, accepts, take_line, step, fed, feed_parts, feed, unfinished, closed_by, close, overlong, ended}
use Rattle.lines.specs.Place.{end_at, call_at, next_at}
use Rattle.lines.proofs.PartLaws.{part_last, part_next, split_some}

-- ---- any step on lines

module _ {S : Type 0} (f : S → List ℕ → S) where
  -- a closed line is stepped over, whatever comes behind it
  parts_more : (s : S) (p xs : List ℕ) → feed_parts f s (p ∷ split newline xs) ≡ feed_parts f (f s p) (split newline xs)
  unfolding feed_parts
  parts_more s p xs = let (q, qs, e) = split_some newline xs in rw e

  -- the line from `at` to its newline e, and the open rest
  module _ (s : S) (text : List ℕ) (at e : ℕ) (inside : at ≤ length text) (end : e ≡ at + first newline (drop at text)) where
    line_taken : e < length text → feed_parts f s (split newline (drop at text)) ≡ feed_parts f (f s (take (e - at) (drop at text))) (split newline (drop (e + 1) text))
    line_taken h = rw (part_next newline text at e inside end h) (parts_more s (take (e - at) (drop at text)) (drop (e + 1) text))

    line_open : length text ≤ e → feed_parts f s (split newline (drop at text)) ≡ fed s (drop at text)
    unfolding feed_parts
    line_open h =
        let w : take (e - at) (drop at text) ≡ drop at text = take_all (e - at) (drop at text) (omega (arith, length-drop at text)) in
        rw (part_last newline text at e inside end h, w)

  text_ended : (s : S) (text : List ℕ) (at : ℕ) → length text ≤ at → feed_parts f s (split newline (drop at text)) ≡ fed s []
  unfolding feed_parts split
  text_ended s text at h = rw (drop_of_length-le text {i = at} h)

-- ---- the program's step

-- a refusal stands, whatever follows
pub step_stands : (t : Sofar) (l : List ℕ) → accepts t.said ≡ false → step t l ≡ t
unfolding step
step_stands t l e = rw (e, step)

step_takes : (t : Sofar) (l : List ℕ) → accepts t.said ≡ true → step t l ≡ take_line t (read_line l)
unfolding step
step_takes t l e = rw (e, step)

feed_stands : (t : Sofar) (ps : List (List ℕ)) → accepts t.said ≡ false → (feed_parts step t ps).after ≡ t
unfolding feed_parts
feed_stands t [] e = refl
feed_stands t (p ∷ []) e = refl
feed_stands t (p ∷ q ∷ ps) e = ap (λ (x : Sofar). (feed_parts step x (q ∷ ps)).after) (step_stands t p e) ∙ feed_stands t (q ∷ ps) e

-- ---- the rest of a text from `at` on, as a loop over its lines takes it

abbrev pub rest : Sofar → List ℕ → ℕ → Sofar
rest t text at = close (feed_parts step t (split newline (drop at text)))

pub rest_whole : (t : Sofar) (text : List ℕ) → rest t text 0 ≡ close (feed step t text)
unfolding feed
rest_whole t text = refl

-- after a refusal, and at the text's end, nothing is left
pub rest_stands : (t : Sofar) (text : List ℕ) (at : ℕ) → accepts t.said ≡ false → rest t text at ≡ t
unfolding close unfinished
rest_stands t text at e = ap (λ (u : Sofar). closed_by u (feed_parts step t ps).open_line) (feed_stands t ps e) ∙ go (feed_parts step t ps).open_line
  where
    ps : List (List ℕ)
    ps = split newline (drop at text)

    go : (l : List ℕ) → closed_by t l ≡ t
    go [] = refl
    go (b ∷ bs) = rw (e, unfinished)

pub rest_ended : (t : Sofar) (text : List ℕ) (at : ℕ) → length text ≤ at → rest t text at ≡ t
unfolding close
rest_ended t text at l = ap close (text_ended step t text at l)

-- one line more: 10 where no newline ends it
module _ (t : Sofar) (text : List ℕ) (at : ℕ) (goes : accepts t.said ≡ true) (inside : at < length text) where
  abbrev e : ℕ
  e = end_at text at

  closed : e < length text → rest t text at ≡ rest (take_line t (read_line (take (e - at) (drop at text)))) text (e + 1)
  closed l =
      ap close (line_taken step t text at e (omega arith) refl l)
      ∙ ap (λ (u : Sofar). rest u text (e + 1)) (step_takes t (take (e - at) (drop at text)) goes)

  left : close (fed t (drop at text)) ≡ take_line t none
  unfolding close unfinished
  left = rw (drop-cons text at 0 inside, goes, unfinished)

  opens : length text ≤ e → rest t text at ≡ rest (take_line t none) text (length text)
  opens l =
      ap close (line_open step t text at e (omega arith) refl l)
      ∙ left
      ∙ sym (rest_ended (take_line t none) text (length text) (omega arith))

  pub rest_line : rest t text at ≡ rest (take_line t (call_at text at)) text (next_at text at)
  unfolding call_at next_at
  rest_line = go (ltb e (length text)) refl
    where
      go : (b : Bool) → ltb e (length text) ≡ b → rest t text at ≡ rest (take_line t (elim b [ true ↦ read_line (take (e - at) (drop at text)) | false ↦ none ])) text (elim b [ true ↦ e + 1 | false ↦ length text ])
      go true q = closed (ltb-true e (length text) q)
      go false q = opens (ltb-false e (length text) q)

  pub next_after : (at < next_at text at) × (next_at text at ≤ length text)
  unfolding next_at
  next_after = go (ltb e (length text)) refl
    where
      go : (b : Bool) → ltb e (length text) ≡ b → let n : ℕ = elim b [ true ↦ e + 1 | false ↦ length text ] in (at < n) × (n ≤ length text)
      go true q = let l : e < length text = ltb-true e (length text) q in (omega arith, omega arith)
      go false q = (inside, omega arith)

-- ---- .. as the code finds its end
module _ (text : List ℕ) (at e : ℕ) (end : e ≡ end_at text at) where
  pub call_closed : e < length text → call_at text at ≡ read_line (take (e - at) (drop at text))
  unfolding call_at
  call_closed l = rw (end, call_at, lt-ltb (end_at text at) (length text) (omega arith))

  pub next_closed : e < length text → next_at text at ≡ e + 1
  unfolding next_at
  next_closed l = rw (end, next_at, lt-ltb (end_at text at) (length text) (omega arith))

  pub call_open : length text ≤ e → call_at text at ≡ none
  unfolding call_at
  call_open l = rw (call_at, le-ltb (end_at text at) (length text) (omega arith))

  pub next_open : length text ≤ e → next_at text at ≡ length text
  unfolding next_at
  next_open l = rw (next_at, le-ltb (end_at text at) (length text) (omega arith))

-- ---- a text within its limit, or over it

pub ended_long : (text : List ℕ) → text_limit < length text → ended text ≡ overlong
unfolding ended
ended_long text l = rw (ended, lt-leb (length text) text_limit l)

pub ended_within : (text : List ℕ) → length text ≤ text_limit → ended text ≡ close (feed step beginning text)
unfolding ended
ended_within text l = rw (ended, le-leb (length text) text_limit l)
