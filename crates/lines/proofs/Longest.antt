-- How long an output can be: no more wants are answered than a plan has, and each line has its limit. Assumes nothing.
use mathlib.Core.Path.{◌≡◌, refl}
use mathlib.Core.Bool.{Bool, true, false}
use mathlib.Core.List.{List, [], ◌∷◌, ◌++◌, map}
use mathlib.Core.Option.{Option, none, some}
use Prim.Native.Nat.{ℕ, zero, suc, ◌+◌, ◌*◌, ◌<◌, ◌≤◌}
use native.Mathlib.Omega.{arith}
use lib.Dec.{eqb, leb, ltb}
use lib.ListN.{length, take, drop, get_or, replicate, length-append, length-take}
use borrow.Author.Tests.{ltb-true}
use Rattle.definition.specs.Tables.{plan_limit, record_size, kinds}
use Rattle.definition.specs.Base.{short, Said}
use Rattle.definition.specs.Request.{Request}
use Rattle.definition.specs.Calls.{Call, pool, hold, start, want}
use Rattle.definition.specs.Plan.{Lent, allocate_into}
use Rattle.lines.specs.Base.{bytes, newline, text_limit, split, pick}
use Rattle.lines.specs.Numbers.{digits}
use Rattle.lines.specs.Line.{behind, line_with, read_line}
use Rattle.lines.specs.Output.{carries, carried_by, got_line, got_lines, end_line, no_line, field, got_limit, end_limit, output_limit}
use Rattle.lines.specs.Text.{Sofar, beginning, accepts, refuse, set_up, opened, answered, ask, take_line, step, Fed, feed_parts, feed, unfinished, closed_by, close, answer, ended, output}
use Rattle.lines.proofs.DigitLaws.{digits_length}

-- ---- a line

pub behind_length : (xs : List ℕ) → length (behind (map digits xs)) ≤ length xs * field
unfolding behind
behind_length [] = omega arith
behind_length (x ∷ xs) = omega (arith, length-append (digits x) (behind (map digits xs)), digits_length x, behind_length xs)

line_length : (w : List ℕ) (fs : List (List ℕ)) → length (line_with w fs) ≡ length w + (length (behind fs) + 1)
unfolding line_with
line_length w fs = omega (arith, length-append w (behind fs ++ (newline ∷ [])), length-append (behind fs) (newline ∷ []))

-- a kind's word and numbers
carried_room : (k : ℕ) → length (carried_by k).word + (carried_by k).count * field ≤ 3 + 6 * field
unfolding carried_by
carried_room k = go (eqb k 1) (eqb k 2) (eqb k 3) (eqb k 4)
  where
    go : (a b c d : Bool) → length (pick a (carries "mmio" 2) (pick b (carries "pio" 2) (pick c (carries "input" 4) (pick d (carries "host" 1) (carries "msi" 6))))).word
        + (pick a (carries "mmio" 2) (pick b (carries "pio" 2) (pick c (carries "input" 4) (pick d (carries "host" 1) (carries "msi" 6))))).count * field ≤ 3 + 6 * field
    go true b c d = omega arith
    go false true c d = omega arith
    go false false true d = omega arith
    go false false false true = omega arith
    go false false false false = omega arith

got_length : (r : List ℕ) → length (got_line r) ≤ got_limit
unfolding got_line behind
got_length r =
    let k : ℕ = get_or r 0 0 in
    let q : List ℕ = digits (get_or r 1 0) in
    let s : List ℕ = digits (get_or r 2 0) in
    let w : List ℕ = (carried_by k).word in
    let own : List ℕ = take (carried_by k).count (drop 3 r) in
    let rest : List ℕ = behind (map digits own) in
    omega (
      arith,
      line_length (bytes "got") (q ∷ s ∷ w ∷ map digits own),
      length-append q (behind (s ∷ w ∷ map digits own)),
      length-append s (behind (w ∷ map digits own)),
      length-append w rest,
      digits_length (get_or r 1 0),
      digits_length (get_or r 2 0),
      behind_length own,
      length-take (carried_by k).count (drop 3 r),
      carried_room k,
    )

got_lines_length : (n : ℕ) (rs : List ℕ) → length (got_lines n rs) ≤ n * got_limit
unfolding got_lines
got_lines_length zero rs = omega arith
got_lines_length (suc n) rs = omega (arith, length-append (got_line rs) (got_lines n (drop record_size rs)), got_length rs, got_lines_length n (drop record_size rs))

end_length : (n : ℕ) → length (end_line n) ≤ end_limit
unfolding end_line
end_length n = omega (arith, line_length (bytes "end") (map digits (n ∷ [])), behind_length (n ∷ []))

pub no_length : (l : ℕ) (w : Said) → length (no_line l w) ≤ output_limit
unfolding no_line
no_length l w =
    let xs : List ℕ = l ∷ w.number ∷ w.namespace ∷ w.owner ∷ w.detail ∷ [] in
    omega (arith, line_length (bytes "no") (map digits xs), behind_length xs)

-- ---- the wants

abbrev Few : Sofar → Type 0
Few t = t.wants ≤ plan_limit

-- what both ways of a test keep is kept
either : {A : Type 0} (P : A → Type 0) (x y : A) (b : Bool) → P x → P y → P (elim b [ true ↦ x | false ↦ y ])
either P x y true p q = p
either P x y false p q = q

answered_few : (t : Sofar) (r : Lent) → t.wants < plan_limit → Few (answered t r)
unfolding answered
answered_few t r l = either Few _ _ (accepts r.state.said) l (omega arith)

ask_few : (t : Sofar) (r : Request) → Few t → Few (ask t r)
unfolding ask
ask_few t r f = go (ltb t.wants plan_limit) refl
  where
    go : (b : Bool) → ltb t.wants plan_limit ≡ b → Few (elim b [ true ↦ answered t (allocate_into kinds r (opened t) (replicate record_size 0)) | false ↦ refuse t short ])
    go true e = answered_few t (allocate_into kinds r (opened t) (replicate record_size 0)) (ltb-true t.wants plan_limit e)
    go false e = f

set_up_few : (t : Sofar) (c : Call) → Few t → Few (set_up t c)
unfolding set_up
set_up_few t c f = either Few _ _ (eqb t.wants 0) f f

pub taken_few : (t : Sofar) (o : Option Call) → Few t → Few (take_line t o)
taken_few t none f = f
taken_few t (some (pool u p)) f = set_up_few t (pool u p) f
taken_few t (some (hold o h)) f = set_up_few t (hold o h) f
taken_few t (some start) f = f
taken_few t (some (want r)) f = ask_few t r f

step_few : (t : Sofar) (l : List ℕ) → Few t → Few (step t l)
unfolding step
step_few t l f = either Few _ _ (accepts t.said) (taken_few t (read_line l) f) f

parts_few : (ps : List (List ℕ)) (t : Sofar) → Few t → Few (feed_parts step t ps).after
unfolding feed_parts
parts_few [] t f = f
parts_few (p ∷ []) t f = f
parts_few (p ∷ q ∷ ps) t f = parts_few (q ∷ ps) (step t p) (step_few t p f)

unfinished_few : (t : Sofar) → Few t → Few (unfinished t)
unfolding unfinished
unfinished_few t f = either Few _ _ (accepts t.said) f f

closed_few : (t : Sofar) (l : List ℕ) → Few t → Few (closed_by t l)
closed_few t [] f = f
closed_few t (b ∷ bs) f = unfinished_few t f

-- no more wants are answered than a plan has
pub wants_few : (text : List ℕ) → (close (feed step beginning text)).wants ≤ plan_limit
unfolding close feed
wants_few text =
    let f : Fed Sofar = feed_parts step beginning (split newline text) in
    closed_few f.after f.open_line (parts_few (split newline text) beginning (omega arith))

-- ---- the output

abbrev Fits : List ℕ → Type 0
Fits l = length l ≤ output_limit

answer_length : (t : Sofar) → Few t → Fits (answer t)
unfolding answer
answer_length t f =
    either Fits _ _ (accepts t.said)
    (omega (arith, length-append (got_lines t.wants t.records) (end_line t.wants), got_lines_length t.wants t.records, end_length t.wants))
    (no_length t.lines t.said)

ended_few : (text : List ℕ) → Few (ended text)
unfolding ended
ended_few text = either Few _ _ (leb (length text) text_limit) (wants_few text) (omega arith)

-- THE THEOREM: whatever the text, the output has at most so many bytes
pub output_length : (text : List ℕ) → length (output text) ≤ output_limit
unfolding output
output_length text = answer_length (ended text) (ended_few text)
