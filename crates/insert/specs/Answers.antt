-- What the calls on one table hand back, in the definition's words. Assumes nothing.
use Rattle.std.specs.Prelude.{◌≡◌, Bool, true, false, List, [], ◌∷◌, ℕ, eqb, leb, ltb, length, Result, Ok, Err}
use Rattle.definition.specs.Tables.{row_limit, Kind, Span, Row, meets, Table, used}
use Rattle.definition.specs.Base.{first_of, Said, silence, tell, Refusal, malformed, bad_input, bad_owner, empty_range, reserved, full, short, bad_lpi, not_found, Answer, accepted, refused, require}
use Rattle.definition.specs.Pools.{at_kind, entered, has_place, Claim, unreserved, reserve}
use Rattle.definition.specs.Calls.{stored}
use Rattle.insert.specs.declared.Refused.{Refused}
use Rattle.insert.specs.declared.Refused.TheVariants as R

abbrev pub pick : {A : Type 0} → Bool → A → A → A  -- one of two
pick true x y = x
pick false x y = y

-- the five numbers of an answer
abbrev pub telling : {A : Type 0} → Answer A → Said
telling (accepted given) = silence
telling (refused y) = tell 0 y

-- what code answers, and the definition's refusal that it names
abbrev pub Reply : Type 0
Reply = Result (Unit {0}) Refused

abbrev pub refusal_of : Refused → Refusal
refusal_of R.Malformed = malformed
refusal_of R.BadInput = bad_input
refusal_of R.BadOwner = bad_owner
refusal_of R.EmptyRange = empty_range
refusal_of (R.Overlaps owner) = reserved owner
refusal_of R.Full = full
refusal_of R.Short = short
refusal_of R.BadLpi = bad_lpi
refusal_of R.NotFound = not_found

abbrev pub number_of : Refused → ℕ
number_of y = (tell 0 (refusal_of y)).number

-- .. and the five numbers of that
abbrev pub heard : Reply → Said
heard (Ok given) = silence
heard (Err y) = tell 0 (refusal_of y)

-- a pool table with the range among its rows, where there is a place for it
abbrev pub entered_or : Span → Table Span → Table Span
entered_or p t = pick (has_place p (used t)) (stored (entered p (used t))) t

-- what a range answers by itself
unfoldable pub fault_of : ℕ → ℕ → ℕ → Reply
fault_of s e floor = pick (ltb s e) (pick (leb floor s) (Ok tt) (Err R.BadLpi)) (Err R.EmptyRange)

-- what adding a range answers whatever its kind: a kind limits its numbers, says where they start, and decides nothing else
unfoldable pub admit_any : ℕ → Span → List Span → Answer (Unit {0})
admit_any floor p ps =
    require (ltb p.start p.end) empty_range
    (require (leb floor p.start) bad_lpi
    (require (has_place p ps) full
    (accepted tt)))

-- the answer to a reservation of one row, judged by the one table that it reads
abbrev pub reserve_one : Kind → Row → List Row → Answer (List Claim)
reserve_one k r rows = reserve (λ j. rows) (at_kind k r ∷ [])

-- .. whatever the row's kind
unfoldable pub reserve_any : ℕ → Row → List Row → Answer (Unit {0})
reserve_any floor r rows =
    require (ltb 0 r.owner) bad_owner
    (require (ltb r.start r.end) empty_range
    (require (leb floor r.start) bad_lpi
    (unreserved (first_of (meets r) rows)
    (require (ltb (length rows) row_limit) full
    (accepted tt)))))

-- .. and what is told of a row of kind k
pub record Told (k : Kind) (r : Row) (t : Table Row) (a : Reply) : Type 0 where
  pub said : heard a ≡ telling (reserve_one k r (used t))

-- ---- two answers

-- refusals come in the order of their numbers, but 12 comes directly after 4
unfoldable pub comes_before : ℕ → ℕ → Bool
comes_before m n = pick (eqb n 12) (leb m 4) (pick (eqb m 12) (ltb 4 n) (ltb m n))

-- the one whose turn comes first, and a where the two have one number
unfoldable pub earlier_of : Reply → Reply → Reply
earlier_of (Ok given) b = b
earlier_of (Err x) (Ok given) = Err x
earlier_of (Err x) (Err y) = pick (comes_before (number_of y) (number_of x)) (Err y) (Err x)
