-- What stands has room, and ends where its size says. Assumes nothing.
use mathlib.Core.Path.{◌≡◌, sym, ◌∙◌, ap}
use mathlib.Core.Bool.{Bool, true, false}
use mathlib.Core.List.{List}
use mathlib.Core.Option.{Option, none, some}
use Prim.Native.Nat.{ℕ, ◌+◌, ◌<◌}
use lib.Dec.{ltb, ltb→lt}
use lib.ListN.{length}
use native.Mathlib.Omega.{arith}
use borrow.Author.Tests.{ltb-true, ltb-false}
use Rattle.definition.specs.Base.{full, Answer, accepted, refused, require}
use Rattle.definition.specs.Tables.{row_limit, Span, Row}
use Rattle.definition.specs.Request.{Need, auto, at, row_at, lowest, allowed, obstacle, found, unopposed, place}
use Rattle.definition.specs.Request as R
use Rattle.definition.proofs.RequestLaws.{not_accepted, then_accepted, require_accepted}
use Rattle.std.specs.Result.{IsErrAnd}
use native.Mathlib.Numerals.{add-one}
use Rattle.tables.specs.Views.{input_of}
use Rattle.tables.specs.declared.RangeRow.{RangeRow}
use Rattle.tables.specs.declared.InputRow.{InputRow}
use Rattle.choose.specs.Told.{refusal_of, told, place_in, roomed, chosen_in}
use Rattle.choose.specs.Wired.{input_asked}
use Rattle.choose.specs.declared.wired.InputNeed.{InputNeed}
use Rattle.std.specs.Prelude.{Result, Ok, Err}
use Rattle.choose.specs.declared.Run.{Run}
use Rattle.choose.specs.declared.Refusal.{Refusal}
use Rattle.choose.proofs.PlaceLaws.{roomed_refused, roomed_stands, roomed_full}
use Rattle.decide.specs.Granted.{standing, input_for, row_told, input_told}

pub stands_room : (rs : List Row) (a : Answer Row) (r : Row) → accepted r ≡ roomed rs a → length rs < row_limit
unfolding roomed
stands_room rs a r e =
    let (x, p, q) = then_accepted a (λ x. require (ltb (length rs) row_limit) full (accepted x)) (sym e) in
    ltb→lt (length rs) row_limit (require_accepted (ltb (length rs) row_limit) full (accepted x) q).0

found_end : (n : Need) (o : Option ℕ) (r : Row) → found n o ≡ accepted r → r.end ≡ r.start + n.size
unfolding found row_at
found_end n none r e = absurd (not_accepted e)
found_end n (some b) r e = let q : row_at n b ≡ r = cc in rw (← q)

unopposed_end : (n : Need) (b : ℕ) (o : Option Row) (r : Row) → unopposed n (row_at n b) o ≡ accepted r → r.end ≡ r.start + n.size
unfolding unopposed row_at
unopposed_end n b (some x) r e = absurd (not_accepted e)
unopposed_end n b none r e = let q : row_at n b ≡ r = cc in rw (← q)

pub stands_end : (ps fs : List Span) (rs : List Row) (n : Need) (c : R.Choice) (r : Row) → accepted r ≡ chosen_in ps fs rs n c → r.end ≡ r.start + n.size
unfolding roomed place
stands_end ps fs rs n c r e =
    let (x, p, q) = then_accepted (place_in ps fs rs n c) (λ x. require (ltb (length rs) row_limit) full (accepted x)) (sym e) in
    let z : x ≡ r = cc (require_accepted (ltb (length rs) row_limit) full (accepted x) q).1 in
    go c (p ∙ ap accepted z)
  where
    go : (c : R.Choice) → place_in ps fs rs n c ≡ accepted r → r.end ≡ r.start + n.size
    go auto h = found_end n (lowest ps rs n) r h
    go (at b) h = unopposed_end n b (obstacle (row_at n b) rs) r (require_accepted (allowed fs n b) _ _ h).1

-- a table's answer with the room test behind it is the definition's choice
pub standing_is : (ps fs : List Span) (rs : List Row) (n : Need) (c : R.Choice) (x : Result Run Refusal) (k : ℕ) (u : Bool) → told n x ≡ place_in ps fs rs n c → length rs ≡ k → u ≡ ltb k row_limit → told n (standing u x) ≡ chosen_in ps fs rs n c
standing_is ps fs rs n c (Err y) k u e l h = roomed_refused rs _ _ e
standing_is ps fs rs n c (Ok run) k true e l h = let m = ltb-true k row_limit (sym h) in roomed_stands rs _ _ e (omega arith)
standing_is ps fs rs n c (Ok run) k false e l h = let m = ltb-false k row_limit (sym h) in roomed_full rs _ _ e (omega arith)

-- what `?` hands on
pub range_handed : (r : Result RangeRow Refusal) (y : Refusal) (a : Answer Row) → IsErrAnd r (λ e. e ≡ y) → refused (refusal_of y) ≡ a → row_told r ≡ a
range_handed (Ok row) y a h e = absurd h
range_handed (Err z) y a h e = rw h e

pub input_handed : (r : Result InputRow Refusal) (y : Refusal) (a : Answer Row) → IsErrAnd r (λ e. e ≡ y) → refused (refusal_of y) ≡ a → input_told r ≡ a
input_handed (Ok row) y a h e = absurd h
input_handed (Err z) y a h e = rw h e

-- an input that stands is the row of its number
pub input_stands : (ps fs : List Span) (rs : List Row) (w : InputNeed) (c : R.Choice) (run : Run) → told (input_asked w) (Ok run) ≡ chosen_in ps fs rs (input_asked w) c
    → accepted (input_of (input_for w run.start)) ≡ chosen_in ps fs rs (input_asked w) c
input_stands ps fs rs w c run e =
    let z : run.end ≡ run.start + 1 = stands_end ps fs rs (input_asked w) c _ e in
    ap (λ x. told (input_asked w) (Ok (record { start = run.start; end = x }))) (sym (z ∙ add-one run.start)) ∙ e
