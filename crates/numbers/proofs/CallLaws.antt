-- A list of numbers, as `face_call` reads it: one law for each way out. Assumes nothing.
use Rattle.std.proofs.Common.{◌≡◌, ℕ, suc, ◌-◌, ◌≤◌, Bool, true, false, ◌||◌, leb, List, [], ◌∷◌, length, take, drop, Result, Ok, Err, refl, sym, ap, subst, ◌∙◌, arith}
use Rattle.std.proofs.Math.Option.{Option, some}
use borrow.Author.Tests.{eq-eqb, ne_eqb}
use Rattle.definition.specs.Request.{Request as DRequest}
use Rattle.definition.specs.Base.{malformed, short, refused, require}
use Rattle.definition.specs.Tables.{kinds}
use Rattle.definition.specs.Calls.{State, Call as DCall, want, given, sound, saying, settle}
use Rattle.definition.specs.Withdraw.{withdraw}
use Rattle.insert.specs.Answers.{Reply, heard}
use Rattle.door.specs.Served.{serve_of}
use Rattle.request.specs.Asked.{request_of}
use Rattle.request.specs.Calls.{call_of}
use Rattle.request.specs.declared.Request.{Request}
use Rattle.request.specs.declared.call.Call.TheVariants.{Want}
use Rattle.flat.specs.Flat.{request_size, request_at}
use Rattle.numbers.specs.Coding.{size_in}
use Rattle.numbers.specs.Face.{number, adding_at, asks, withdraws, call_at, call_size, judged, face_call}
use Rattle.numbers.specs.Reading.{Reads, judged_by, served_as, short_of}
use Rattle.numbers.specs.declared.Read.{Read}
use Rattle.numbers.specs.declared.Read.TheVariants as R
use Rattle.numbers.specs.declared.Short.{Short}
use Rattle.numbers.specs.declared.Short.TheVariants as S

take_whole : (xs : List ℕ) → take (length xs) xs ≡ xs
take_whole [] = refl
take_whole (x ∷ xs) = ap (λ (l : List ℕ). x ∷ l) (take_whole xs)

-- all numbers but the first, as a part of the list
part_is : (xs : List ℕ) → take (length xs - 1) (drop 1 xs) ≡ drop 1 xs
part_is [] = refl
part_is (x ∷ xs) = let z : suc (length xs) - 1 ≡ length xs = omega arith in ap (λ (m : ℕ). take m xs) z ∙ take_whole xs

behind_first : (xs : List ℕ) → suc request_size ≤ length xs → request_size ≤ length (drop 1 xs)
behind_first [] h = absurd (omega arith)
behind_first (x ∷ xs) h = omega arith

size_asks : (kind : ℕ) → size_in 4 kind ≡ suc request_size
unfolding size_in
size_asks kind = refl

module _ (xs : List ℕ) where
  -- a request is read behind the first number
  pub long_to_ask : (size first kind : ℕ) → size ≡ size_in first kind → first ≡ 4 → size ≤ length xs → suc request_size ≤ length xs
  long_to_ask size first kind e f h =
      let z : size ≡ suc request_size = e ∙ ap (λ (n : ℕ). size_in n kind) f ∙ size_asks kind in omega arith

  pub room_to_ask : (size first kind : ℕ) → size ≡ size_in first kind → first ≡ 4 → size ≤ length xs → request_size ≤ length (take (length xs - 1) (drop 1 xs))
  room_to_ask size first kind e f h = subst (λ (l : List ℕ). request_size ≤ length l) (sym (part_is xs)) (behind_first xs (long_to_ask size first kind e f h))

  pub asks_is : number xs 0 ≡ 4 → (r : Request) → request_of r ≡ request_at (take (length xs - 1) (drop 1 xs)) 0 → call_of (Want r) ≡ call_at xs
  unfolding call_at
  asks_is e r g = ap (λ (x : DRequest). some (want x)) (g ∙ ap (λ (l : List ℕ). request_at l 0) (part_is xs)) ∙ rw (eq-eqb (number xs 0) 4 e, call_at)

  pub adds_is : (number xs 0 ≡ 4 → ⊥) → adding_at xs ≡ call_at xs
  unfolding call_at
  adds_is n = rw (ne_eqb (number xs 0) 4 n, call_at)

-- ---- what is served of it

-- a list too short: what is judged before
pub short_says : (k : Result Read Short) (y : Short) (s t : State) (b : Bool) (r : Reply) → k ≡ Err y → b ≡ judged_by y s → r ≡ short_of b → t ≡ saying (heard r) s → t ≡ served_as k s
unfolding served_as require
short_says k y s t b r is e f g = g ∙ ap (λ (v : Reply). saying (heard v) s) f ∙ said b ∙ ap (λ (c : Bool). settle s (require c malformed (refused short))) e ∙ ap (λ (v : Result Read Short). served_as v s) (sym is)
  where
    said : (c : Bool) → saying (heard (short_of c)) s ≡ settle s (require c malformed (refused short))
    said true = refl
    said false = refl

module _ (xs : List ℕ) (s : State) where
  abbrev called : Bool → State
  called w = elim w as (λ _. State) [ true ↦ withdraw (number xs 1) s | false ↦ serve_of (call_at xs) s ]

  abbrev cut : Bool → State
  cut all = settle s (require (elim all as (λ _. Bool) [ true ↦ sound kinds s | false ↦ given kinds s ]) malformed (refused short))

  whole : leb (call_size xs) (length xs) ≡ true → called (withdraws xs) ≡ face_call xs s
  unfolding face_call
  whole e = ap (λ (b : Bool). elim b as (λ _. State) [ true ↦ called (withdraws xs) | false ↦ settle s (require (judged xs s) malformed (refused short)) ]) (sym e)

  short_of_all : leb (call_size xs) (length xs) ≡ false → cut (asks xs || withdraws xs) ≡ face_call xs s
  unfolding face_call judged
  short_of_all e = ap (λ (b : Bool). elim b as (λ _. State) [ true ↦ called (withdraws xs) | false ↦ cut (asks xs || withdraws xs) ]) (sym e)

  both : (a w : Bool) → asks xs ≡ a → withdraws xs ≡ w → cut (a || w) ≡ cut (asks xs || withdraws xs)
  both a w e f = λ i. cut (sym e i || sym f i)

  -- what is served of a reading is the call's
  pub served_read : (k : Result Read Short) → Reads xs k → served_as k s ≡ face_call xs s
  unfolding served_as
  served_read (Ok (R.Withdraw q)) r = ap (λ (n : ℕ). withdraw n s) r.1.1 ∙ ap called (sym r.1.0) ∙ whole r.0
  served_read (Ok (R.Call c)) r = ap (λ (v : Option DCall). serve_of v s) r.1.1 ∙ ap called (sym r.1.0) ∙ whole r.0
  served_read (Err S.Request) r = ap (λ (a : Bool). cut (a || withdraws xs)) (sym r.1) ∙ short_of_all r.0
  served_read (Err S.Withdrawal) r = withdrawn (asks xs) ∙ ap (λ (w : Bool). cut (asks xs || w)) (sym r.1) ∙ short_of_all r.0
    where
      withdrawn : (a : Bool) → cut true ≡ cut (a || true)
      withdrawn true = refl
      withdrawn false = refl
  served_read (Err S.Adding) r = both false false r.1.0 r.1.1 ∙ short_of_all r.0
