-- Laws of tables cut back: rows that were pushed are gone, and a plan's grants with them. Assumes nothing.
use Rattle.std.specs.Prelude.{◌≡◌, Bool, true, not, length, get_or, take, drop, replicate, T}
use Rattle.std.proofs.Math.Path.{refl, ap}
use Rattle.std.proofs.Common.{sym, ◌∙◌, arith, add-zero, take-append-drop, set-set}
use mathlib.Core.List.{List, [], ◌∷◌, ◌++◌}
use Prim.Native.Nat.{ℕ, zero, suc, ◌+◌, ◌-◌, ◌≤◌, max}
use Rattle.std.proofs.Math.ListN.{set}
use Rattle.std.proofs.Math.Seq.{get_or-set_other, set-get_or}
use Rattle.definition.specs.Base.{all_of, Refusal, Said, silence, tell}
use Rattle.definition.proofs.BaseLaws.{and_l, and_r}
use Rattle.definition.specs.Tables.{Kind, kinds, same_row, Table, used, blank_row}
use Rattle.definition.specs.Pools.{Claim, rows_of}
use Rattle.definition.specs.Calls.{State, state, sound, saying, push_all, granting}
use Rattle.definition.specs.Plan.{Grant, stopped, all_rows, ended}
use Rattle.definition.specs.Cut.{wiped, cut_to, cutting, staying, close_to}
use Rattle.definition.proofs.OnlyLaws.{only_none}
use Rattle.definition.proofs.WipeLaws.{wiped_none, wiped_down}
use Rattle.definition.proofs.RowLaws.{every_kind, row_eq}
use Rattle.definition.proofs.StateLaws.{sound_for}

module _ {A : Type 0} (b : A) where
  -- ---- one table, sound or not

  pub cut_same : (t : Table A) → cut_to t.count b t ≡ t
  unfolding cut_to
  cut_same t = λ i. record { count = t.count; rows = wiped_none b t.count t.count t.rows (omega arith) i }

  -- every row from the count on is blank
  abbrev pub Bare : Table A → Type 0
  Bare t = (j : ℕ) → t.count ≤ j → get_or t.rows j b ≡ b

  pushed_gone : (m : ℕ) (t : Table A) (rs : List A) → m ≤ t.count → Bare t → wiped m (push_all t rs).count b (push_all t rs).rows ≡ wiped m t.count b t.rows
  unfolding push_all
  pushed_gone m t [] h z = refl
  pushed_gone m t (r ∷ rs) h z =
      let u : Table A = record { count = suc t.count; rows = set t.rows t.count r } in
      let bare : Bare u = λ j l. get_or-set_other t.rows t.count j r b (λ e. omega arith) ∙ z j (omega arith) in
      let blank : set t.rows t.count b ≡ t.rows = ap (set t.rows t.count) (sym (z t.count (omega arith))) ∙ set-get_or t.rows t.count b in
      pushed_gone m u rs (omega arith) bare ∙ wiped_down b m t.count (set t.rows t.count r) h ∙ ap (wiped m t.count b) (set-set t.rows t.count r b ∙ blank)

  -- rows pushed to a table that is blank behind its used ones, and cut off again, leave it as it was
  pub cut_push : (t : Table A) (rs : List A) → Bare t → cut_to t.count b (push_all t rs) ≡ t
  unfolding cut_to
  cut_push t rs z = λ i. record { count = t.count; rows = (pushed_gone t.count t rs (omega arith) z ∙ wiped_none b t.count t.count t.rows (omega arith)) i }

  -- unused rows that all pass a test which b alone passes
  pub bare_from : (p : A → Bool) → ((x : A) → T (p x) → x ≡ b) → (n : ℕ) (rows : List A) → T (all_of p (drop n rows)) → (j : ℕ) → n ≤ j → get_or rows j b ≡ b
  unfolding all_of
  bare_from p same n [] t j h = refl
  bare_from p same zero (r ∷ rows) t zero h = same r (and_l (p r) (all_of p rows) t)
  bare_from p same zero (r ∷ rows) t (suc j) h = bare_from p same zero rows (and_r (p r) (all_of p rows) t) j (omega arith)
  bare_from p same (suc n) (r ∷ rows) t zero h = absurd (omega arith)
  bare_from p same (suc n) (r ∷ rows) t (suc j) h = bare_from p same n rows t j (omega arith)

-- ---- all rows go

drop_nil : {A : Type 0} (j : ℕ) → ◌≡◌ {A = List A} (drop j []) []
drop_nil zero = refl
drop_nil (suc j) = refl

-- the table cut, in its parts
wiped_parts : {A : Type 0} (b : A) (m n j : ℕ) (rows : List A) → j ≡ max m n → take m rows ++ (replicate (length (drop m (take n rows))) b ++ drop j rows) ≡ wiped m n b rows
unfolding wiped
wiped_parts {A} b m zero j rows e =
    let f : j ≡ m = omega (arith, e) in
    ap (λ (xs : List A). take m rows ++ (replicate (length xs) b ++ drop j rows)) (drop_nil m) ∙ ap (λ i. take m rows ++ drop i rows) f ∙ take-append-drop m rows
wiped_parts b zero (suc n) j [] e = drop_nil j
wiped_parts b (suc m) (suc n) j [] e = drop_nil j
wiped_parts b m (suc n) zero (r ∷ rows) e = absurd (omega (arith, e))
wiped_parts {A} b zero (suc n) (suc j) (r ∷ rows) e = ap {B = List A} (λ rs. b ∷ rs) (wiped_parts b zero n j rows (omega (arith, e)))
wiped_parts {A} b (suc m) (suc n) (suc j) (r ∷ rows) e = ap {B = List A} (λ rs. r ∷ rs) (wiped_parts b m n j rows (omega (arith, e)))

pub close_all : {A : Type 0} (m : ℕ) (b : A) (t : Table A) → close_to (λ r. true) m b t ≡ cut_to m b t
unfolding close_to cut_to
close_all m b t =
    let z : staying (λ r. true) m t ≡ [] = only_none (λ r. not true) (drop m (used t)) (λ x n u. u) in
    let d : length (drop m (used t)) - 0 ≡ length (drop m (used t)) = omega arith in
    λ i. record {
      count = (ap (λ xs. m + length xs) z ∙ add-zero m) i;
      rows = (ap (λ xs. take m t.rows ++ (xs ++ (replicate (length (drop m (used t)) - length xs) b ++ drop (max m t.count) t.rows))) z
          ∙ ap (λ n. take m t.rows ++ (replicate n b ++ drop (max m t.count) t.rows)) d ∙ wiped_parts b m t.count (max m t.count) t.rows refl) i;
    }

-- ---- the whole state

-- the owner tables' counts
abbrev pub counts_of : State → Kind → ℕ
counts_of s k = (s.owners k).count

-- cut to the counts that they have, tables stay, sound or not
pub cut_none : (s : State) → cutting (counts_of s) s ≡ s
cut_none s = λ i. state s.pools s.held (λ k. cut_same (blank_row k) (s.owners k) i) s.said

-- unused rows of sound owner tables are blank
pub sound_bare : (s : State) → T (sound kinds s) → (k : Kind) → Bare (blank_row k) (s.owners k)
sound_bare s t k = bare_from (blank_row k) (same_row (blank_row k)) (λ x h. sym (row_eq (blank_row k) x h)) (s.owners k).count (s.owners k).rows (sound_for kinds s t k (every_kind k)).owners.tidied.blank

-- rows granted to sound tables and cut off again: all tables as they were, whatever the rows
pub cut_granted : (cs : List Claim) (s : State) → T (sound kinds s) → cutting (counts_of s) (granting cs s) ≡ saying silence s
cut_granted cs s t = λ i. state s.pools s.held (λ k. cut_push (blank_row k) (s.owners k) (rows_of k cs) (sound_bare s t k) i) silence

-- .. so the grants of a plan, all of them or those before a refused request, are taken back by the counts alone
pub cut_back_is : (gs : List Grant) (s : State) (w : Said) → T (sound kinds s) → saying w (cutting (counts_of s) (granting (all_rows gs) s)) ≡ saying w s
cut_back_is gs s w t = ap (saying w) (cut_granted (all_rows gs) s t)

-- a refused plan's tables are its grants' tables cut back
pub cut_stopped : (gs : List Grant) (x : Refusal) (s : State) → T (sound kinds s) → saying (tell (length gs) x) (cutting (counts_of s) (granting (all_rows gs) s)) ≡ ended s (stopped gs x)
cut_stopped gs x s t = cut_back_is gs s (tell (length gs) x) t
