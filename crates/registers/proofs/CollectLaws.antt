-- Requests gathered register by register: what is in front of the list is what was asked so far. Assumes nothing.
use Rattle.std.proofs.Common.{◌≡◌, ℕ, suc, ◌+◌, ◌-◌, ◌*◌, ◌≤◌, Bool, true, false, T, List, [], ◌∷◌, ◌++◌, length, take, Ok, Err, sym, refl, ap, ◌∙◌, subst, append_assoc, append-nil, arith, length-append}
use Rattle.std.proofs.Math.Option.{none, some}
use Rattle.std.proofs.lemmas.Slice.{take-put_mid}
use borrow.Rule.Slice.PartMut.{put_mid}
use Rattle.definition.specs.Base.{Answer, accepted, refused, all_of, ◌then◌}
use Rattle.definition.specs.Request.{Want, Request}
use Rattle.definition.specs.Registers.{register_count, register_of, takes_next, asked, ◌also◌, requests_at, asked_at, asked_from}
use Rattle.definition.proofs.AskedLaws.{also_assoc, also_nil}
use Rattle.flat.specs.Flat.{request_size, numbers_of_want, numbers_of, numbers_of_all}
use Rattle.flat.proofs.NumbersLaws.{length_numbers}
use Rattle.registers.specs.declared.fault.Fault.{Fault}
use Rattle.registers.specs.Told.{fault_of}
use Rattle.registers.specs.Gathered.{first_of, past_in, Collected}
use Rattle.registers.proofs.WordsLaws.{fits, rest_fits}

-- ---- the words behind a register

pub past_length : (two : Bool) (ws : List ℕ) → length (past_in two ws) ≤ length ws
past_length false ws = omega arith
past_length true [] = omega arith
past_length true (w ∷ ws) = omega arith

pub past_fits : (two : Bool) (ws : List ℕ) → T (all_of fits ws) → T (all_of fits (past_in two ws))
past_fits false ws t = t
past_fits true [] t = t
past_fits true (w ∷ ws) t = rest_fits w ws t

-- THE STEP of the loop: where no word is left, nothing is asked, whatever its index
asked_step : (q i j : ℕ) (w : ℕ) (ws : List ℕ) → j + length (past_in (takes_next (register_of w)) ws) ≡ suc i + length ws
    → asked_from q i (w ∷ ws) ≡ asked_at q i w (first_of ws) also asked_from q j (past_in (takes_next (register_of w)) ws)
unfolding asked_from
asked_step q i j w [] e = sym (go (takes_next (register_of w)))
  where
    go : (b : Bool) → asked_at q i w none also asked_from q j (past_in b []) ≡ asked_at q i w none
    go true = also_nil (asked_at q i w none)
    go false = also_nil (asked_at q i w none)
asked_step q i j w (next ∷ ws) e = ap (λ a. asked_at q i w (some next) also a) (go (takes_next (register_of w)) e)
  where
    go : (b : Bool) → j + length (past_in b (next ∷ ws)) ≡ suc i + suc (length ws)
        → elim b [ true ↦ asked_from q (suc (suc i)) ws | false ↦ asked_from q (suc i) (next ∷ ws) ] ≡ asked_from q j (past_in b (next ∷ ws))
    go true h = let k : suc (suc i) ≡ j = omega arith in ap (λ n. asked_from q n ws) k
    go false h = let k : suc i ≡ j = omega arith in ap (λ n. asked_from q n (next ∷ ws)) k

-- ---- numbers

numbers_append : (rs ss : List Request) → numbers_of_all (rs ++ ss) ≡ numbers_of_all rs ++ numbers_of_all ss
unfolding numbers_of_all
numbers_append [] ss = refl
numbers_append (r ∷ rs) ss = ap (λ xs. numbers_of r ++ xs) (numbers_append rs ss) ∙ sym (append_assoc (numbers_of r) (numbers_of_all rs) (numbers_of_all ss))

numbers_one : (q slot : ℕ) (want : Want) → numbers_of_want q slot want ≡ numbers_of_all (requests_at q slot (want ∷ []))
unfolding numbers_of numbers_of_all
numbers_one q slot want = sym (append-nil (numbers_of_want q slot want))

-- ---- the registers before those that are left are asked, and stand in front of the list
pub record Holding (ws : List ℕ) (q : ℕ) (list : List ℕ) (count : ℕ) (left : List ℕ) : Type 0 where
  pub rs : List Request
  pub sofar : asked_from q 0 ws ≡ accepted rs also asked_from q (register_count - length left) left
  pub many : count ≡ length rs
  pub few : length rs + length left ≤ register_count
  pub front : take (request_size * count) list ≡ numbers_of_all rs

-- before the first
pub holding_none : (ws : List ℕ) (q : ℕ) (list : List ℕ) → length ws ≡ register_count → Holding ws q list 0 ws
unfolding numbers_of_all
holding_none ws q list six = record { rs = []; sofar = go (asked_from q 0 ws) ∙ ap (λ i. accepted [] also asked_from q i ws) start; many = refl; few = omega arith; front = refl }
  where
    start : 0 ≡ register_count - length ws
    start = omega arith

    go : (a : Answer (List Request)) → a ≡ accepted [] also a
    go (accepted rs) = refl
    go (refused x) = refl

-- behind the last all is asked
pub holding_end : (ws : List ℕ) (q : ℕ) (list : List ℕ) (count : ℕ) (left : List ℕ) → length left ≡ 0 → Holding ws q list count left → Collected (asked_from q 0 ws) (Ok count) list
unfolding asked_from
holding_end ws q list count [] z h =
    let all : asked_from q 0 ws ≡ accepted h.rs = h.sofar ∙ ap accepted (append-nil h.rs) in
    subst (λ x. Collected x (Ok count) list) (sym all) (h.many, omega (arith, h.few), h.front)
holding_end ws q list count (w ∷ left) z h = absurd (omega arith)

module _ (ws : List ℕ) (q : ℕ) (list : List ℕ) (count w : ℕ) (behind : List ℕ) (h : Holding ws q list count (w ∷ behind)) where
  abbrev slot : ℕ
  slot = register_count - suc (length behind)

  abbrev after : List ℕ
  after = past_in (takes_next (register_of w)) behind

  abbrev judged : Answer (List Want)
  judged = asked (register_of w) w (first_of behind)

  step : asked_from q 0 ws ≡ accepted h.rs also ((judged then λ wants. accepted (requests_at q slot wants)) also asked_from q (register_count - length after) after)
  unfolding asked_at
  step = h.sofar ∙ ap (λ a. accepted h.rs also a) (asked_step q slot (register_count - length after) w behind (omega (arith, h.few, past_length (takes_next (register_of w)) behind)))

  -- the first fault decides
  pub holding_fault : (f : Fault) → judged ≡ refused (fault_of f) → Collected (asked_from q 0 ws) (Err f) list
  holding_fault f e =
      let no : asked_from q 0 ws ≡ refused (fault_of f) = step ∙ ap (λ a. accepted h.rs also ((a then λ wants. accepted (requests_at q slot wants)) also asked_from q (register_count - length after) after)) e in
      subst (λ y. Collected y (Err f) list) (sym no) refl

  asked_more : (wants : List Want) → judged ≡ accepted wants → asked_from q 0 ws ≡ accepted (h.rs ++ requests_at q slot wants) also asked_from q (register_count - length after) after
  asked_more wants e =
      step ∙ ap (λ a. accepted h.rs also ((a then λ wants. accepted (requests_at q slot wants)) also asked_from q (register_count - length after) after)) e
      ∙ sym (also_assoc (accepted h.rs) (accepted (requests_at q slot wants)) (asked_from q (register_count - length after) after))

  -- nothing is asked
  pub holding_over : judged ≡ accepted [] → Holding ws q list count after
  holding_over e = record {
    rs = h.rs;
    sofar = asked_more [] e ∙ ap (λ rs. accepted rs also asked_from q (register_count - length after) after) (append-nil h.rs);
    many = h.many;
    few = omega (arith, h.few, past_length (takes_next (register_of w)) behind);
    front = h.front;
  }

  -- .. or one request, whose numbers are put behind those in front
  pub holding_on : (want : Want) (xs : List ℕ) → judged ≡ accepted (want ∷ []) → xs ≡ numbers_of_want q slot want → request_size * register_count ≤ length list
      → Holding ws q (put_mid (request_size * count) (request_size * count + request_size - request_size * count) list xs) (count + 1) after
  holding_on want xs e is long =
      let new : List Request = requests_at q slot (want ∷ []) in
      let numbers : xs ≡ numbers_of_all new = is ∙ numbers_one q slot want in
      let size : length xs ≡ request_size = ap length numbers ∙ length_numbers new in
      record {
        rs = h.rs ++ new;
        sofar = asked_more (want ∷ []) e;
        many = omega (arith, length-append h.rs new, h.many);
        few = omega (arith, length-append h.rs new, h.few, past_length (takes_next (register_of w)) behind);
        front =
            take-put_mid (request_size * count) _ list xs (request_size * (count + 1)) (omega (arith, size)) (omega (arith, h.many, h.few))
            ∙ (λ i. h.front i ++ numbers i) ∙ sym (numbers_append h.rs new);
      }
