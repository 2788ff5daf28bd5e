-- The answer of one kind is the definition's on the state that has the kind's tables, and so are the tables afterwards. Assumes nothing.
use mathlib.Core.Path.{◌≡◌, refl, sym, ◌∙◌, ap, subst}
use mathlib.Core.Bool.{Bool, true, false}
use mathlib.Core.List.{List, [], ◌∷◌}
use Prim.Native.Nat.{ℕ}
use lib.Dec.{eqb}
use lib.ListN.{replicate}
use borrow.Author.Tests.{eq-eqb}
use Rattle.definition.specs.Base.{all_of, Refusal, malformed, bad_input, Said, silence, tell, Answer, accepted, refused, require, ◌then◌}
use Rattle.definition.proofs.BaseLaws.{and_true}
use Rattle.definition.specs.Tables.{row_limit, Kind, nature, same_kind, Span, Row, Table, blank_row}
use Rattle.definition.specs.Pools.{Claim, rows_of}
use Rattle.definition.specs.Request.{automatic, fixed, one, claims, good_request, resolve}
use Rattle.definition.specs.Request as R
use Rattle.definition.specs.Calls.{State, state, push_all, pools_of, owners_of, sound, sound_at, granting, settle, want, serve}
use Rattle.choose.specs.Told.{told, chosen_in}
use Rattle.std.specs.Prelude.{Ok, Err}
use Rattle.kinds.specs.Got.{row_got}
use Rattle.decide.specs.Outcome.{after}
use Rattle.decide.proofs.AnswerLaws.{claim_of, one_claimed}
use Rattle.kinds.specs.Kinds.{Chosen, only_at, tables_at, answer_of, asked, said_by, rows_said}

pub only_same : {A : Type 0} (k : Kind) (a b : A) → only_at k k a b ≡ a
only_same k a b = rw (eq-eqb (nature k).number (nature k).number refl, only_at)

pub sound_alone : (v : State) (k : Kind) → sound (k ∷ []) v ≡ sound_at v k
unfolding sound all_of
sound_alone v k = and_true (sound_at v k)

-- ---- the answer

claim_require : (k : Kind) (b : Bool) (y : Refusal) (x : Answer Row) → claim_of k (require b y x) ≡ require b y (claim_of k x)
unfolding require
claim_require k true y x = refl
claim_require k false y x = refl

module _ (v : State) (q s : ℕ) (w : R.Want) (n : R.Need) (c : R.Choice) (cl : claims (pools_of v) (owners_of v) q w ≡ one (pools_of v) (owners_of v) n c) where
  abbrev Choice : Answer Row
  Choice = chosen_in (pools_of v automatic n.kind) (pools_of v fixed n.kind) (owners_of v n.kind) n c

  sensible : claim_of n.kind (require (good_request (asked q s w)) bad_input Choice) ≡ resolve (pools_of v) (owners_of v) (asked q s w)
  unfolding resolve
  sensible = claim_require n.kind (good_request (asked q s w)) bad_input Choice ∙ ap (require (good_request (asked q s w)) bad_input) (sym (one_claimed v q w n c cl))

  pub kind_answer : (x : Answer Row) → x ≡ require (sound (n.kind ∷ []) v) malformed (require (good_request (asked q s w)) bad_input Choice)
      → claim_of n.kind x ≡ answer_of (n.kind ∷ []) (asked q s w) v
  kind_answer x e =
      ap (claim_of n.kind) e
      ∙ claim_require n.kind (sound (n.kind ∷ []) v) malformed (require (good_request (asked q s w)) bad_input Choice)
      ∙ ap (require (sound (n.kind ∷ []) v) malformed) sensible

pub rows_said_is : (k : Kind) (n : R.Need) (c : Chosen) (a : Answer (List Claim)) → claim_of k (told n c) ≡ a → rows_said a c
rows_said_is k n (Ok run) a h = subst (λ (x : Answer (List Claim)). rows_said x (Ok run)) h refl
rows_said_is k n (Err y) a h = subst (λ (x : Answer (List Claim)). rows_said x (Err y)) h refl

-- ---- the state afterwards

settled : (v : State) (b : Bool) (x : Answer (List Claim)) → settle v (require b malformed x then λ cs. accepted (granting cs v)) ≡ settle v (require b malformed (x then λ cs. accepted (granting cs v)))
unfolding require
settled v true x = refl
settled v false x = refl

pub serve_after : (ks : List Kind) (r : R.Request) (v : State) → after v (answer_of ks r v) ≡ serve ks (want r) v
unfolding serve
serve_after ks r v = settled v (sound ks v) (resolve (pools_of v) (owners_of v) r)

abbrev pub said_in : Answer Row → Said
said_in (accepted r) = silence
said_in (refused y) = tell 0 y

pub said_told : (n : R.Need) (c : Chosen) → said_by c ≡ said_in (told n c)
said_told n (Ok run) = refl
said_told n (Err y) = refl

only_pushed : (b : Bool) (o o' z : Table Row) (r : Row) → o' ≡ push_all o (r ∷ [])
    → ◌≡◌ {A = Table Row} (elim b [ true ↦ o' | false ↦ z ]) (push_all (elim b [ true ↦ o | false ↦ z ]) (elim b [ true ↦ r ∷ [] | false ↦ [] ]))
unfolding push_all
only_pushed true o o' z r e = e
only_pushed false o o' z r e = refl

pub kind_after : (k : Kind) (a f : Table Span) (h o o' : Table Row) (i : Said) (x : Answer Row) → o' ≡ push_all o (row_got x)
    → tables_at k a f h o' (said_in x) ≡ after (tables_at k a f h o i) (claim_of k x)
unfolding push_all rows_of same_kind
kind_after k a f h o o' i (refused y) e = λ d. tables_at k a f h (e d) (tell 0 y)
kind_after k a f h o o' i (accepted r) e = λ d.
    state (tables_at k a f h o i).pools (tables_at k a f h o i).held
    (λ j. only_pushed (eqb (nature k).number (nature j).number) o o' (record { count = 0; rows = zero_rows j }) r e d) silence
  where
    zero_rows : Kind → List Row
    zero_rows j = replicate row_limit (blank_row j)

-- ---- the ways out of a call

module _ {A : Type 0} (b g : Bool) (y : Answer A) where
  pub served_stands : (x : Answer A) → b ≡ true → g ≡ true → x ≡ y → x ≡ require b malformed (require g bad_input y)
  unfolding require
  served_stands x p q e = rw (p, q) e

  pub served_bad : b ≡ true → g ≡ false → refused bad_input ≡ require b malformed (require g bad_input y)
  unfolding require
  served_bad p q = rw (p, q)

  pub served_malformed : b ≡ false → refused malformed ≡ require b malformed (require g bad_input y)
  unfolding require
  served_malformed p = rw p
