-- What the code answers is the definition's withdrawal: where it is refused first, and where rows were taken out or none was found. Assumes nothing.
use mathlib.Core.Path.{◌≡◌, refl, sym, ap, ◌∙◌}
use mathlib.Core.Bool.{Bool, true, false}
use mathlib.Core.Logic.{◌⊎◌, inl, inr}
use Prim.Native.Nat.{ℕ, ◌<◌}
use native.Mathlib.Omega.{arith}
use lib.Dec.{T, ltb, leb, ltb→lt, lt→ltb}
use borrow.Author.Tests.{le-ltb}
use Rattle.definition.specs.Base.{any_of, tell, not_found, silence}
use Rattle.definition.proofs.BaseLaws.{and_l, T_true, T_false, true_T, not_T→, either, in_any}
use Rattle.definition.specs.Tables.{top, Kind, kinds, Row, Table, blank_row}
use Rattle.definition.proofs.RowLaws.{every_kind}
use Rattle.definition.specs.Calls as C
use Rattle.definition.specs.Cut.{close_to, closing}
use Rattle.definition.specs.Withdraw.{owned_by, holds_grant, a_requester, withdraw}
use Rattle.definition.proofs.WithdrawLaws.{withdraw_malformed, withdraw_nobody, withdraw_none, withdraw_takes, close_withdraws, close_none, close_shorter}
use Rattle.tables.specs.Views.{state_view}
use Rattle.tables.specs.declared.State.{State}
use Rattle.std.specs.Prelude.{Ok, Err}
use Rattle.std.specs.Bool.{then_some}
use Rattle.std.specs.Result.{IsErrAnd}
use Rattle.insert.specs.Answers.{Reply, heard}
use Rattle.insert.specs.declared.Refused.{Refused}
use Rattle.insert.specs.declared.Refused.TheVariants as R
use Rattle.inplace.specs.Marks.{marks_of, reserved_of, counts_in, taken_out}
use Rattle.inplace.specs.declared.marks.Marks.{Marks}
use Rattle.inplace.proofs.CutViews.{counts_view, owned_view}
use Rattle.withdraw.specs.Answers.{requester_of, judged_of, shorter_of, found_of}

-- ---- refused before a table is touched

pub stopped : (q : ℕ) (s : C.State) (r : Reply) (y : Refused) → IsErrAnd r (λ x. x ≡ y) → judged_of (C.sound kinds s) (requester_of q) ≡ Err y → C.saying (heard r) s ≡ withdraw q s
stopped q s (Ok given) y h e = absurd h
stopped q s (Err x) y h e = ap (λ (x : Refused). C.saying (heard (Err x)) s) h ∙ go (C.sound kinds s) refl (a_requester q) refl e
  where
    go : (b : Bool) → C.sound kinds s ≡ b → (w : Bool) → a_requester q ≡ w → judged_of b (then_some w q) ≡ Err y → C.saying (heard (Err y)) s ≡ withdraw q s
    go false n w u e =
        let p : y ≡ R.Malformed = cc in
        ap (λ (x : Refused). C.saying (heard (Err x)) s) p ∙ sym (withdraw_malformed q s (not_T→ (C.sound kinds s) (rw n tt)))
    go true n false u e =
        let p : y ≡ R.BadInput = cc in
        ap (λ (x : Refused). C.saying (heard (Err x)) s) p ∙ sym (withdraw_nobody q s (true_T (C.sound kinds s) n) (not_T→ (a_requester q) (rw u tt)))
    go true n true u e = cc

-- ---- else the tables are sound, and the number is a requester's

pub goes_on : (q whose : ℕ) (b : Bool) → judged_of b (requester_of q) ≡ Ok whose → T b × T (a_requester q) × (whose ≡ q)
goes_on q whose b = go b (a_requester q) refl
  where
    go : (b w : Bool) → a_requester q ≡ w → judged_of b (then_some w q) ≡ Ok whose → T b × T (a_requester q) × (whose ≡ q)
    go false w u e = cc
    go true false u e = cc
    go true true u e = (tt, true_T (a_requester q) u, cc)

pub someone : (q : ℕ) → T (a_requester q) → 0 < q
unfolding a_requester
someone q t = ltb→lt 0 q (and_l (ltb 0 q) (leb q (top 32)) t)

-- ---- the rows taken out, and what is found of the counts

module _ (q : ℕ) (h : State) (sounds : T (C.sound kinds (state_view h))) (who : T (a_requester q)) where
  abbrev s : C.State
  s = state_view h

  abbrev d : State
  d = taken_out (reserved_of h) q h

  taken : state_view d ≡ closing (owned_by q) (λ k. (s.held k).count) s
  taken = owned_view (reserved_of h) q h (λ e. omega (arith, e, someone q who)) ∙ (λ i. closing (owned_by q) (λ k. counts_view h.held h k i) s)

  -- a table is shorter where the requester had a row granted, and there alone
  shortens : (k : Kind) → ltb (counts_in (marks_of d) k) (counts_in (marks_of h) k) ≡ holds_grant q s k
  shortens k = (λ i. ltb ((counts_view d.owners d k ∙ ap (λ (z : C.State). (z.owners k).count) taken) i) (counts_view h.owners h k i)) ∙ go (either (holds_grant q s k))
    where
      go : T (holds_grant q s k) ⊎ (T (holds_grant q s k) → ⊥) → ltb (close_to (owned_by q) (s.held k).count (blank_row k) (s.owners k)).count (s.owners k).count ≡ holds_grant q s k
      go (inl t) = T_true _ (lt→ltb _ _ (close_shorter q s sounds k t)) ∙ sym (T_true _ t)
      go (inr u) =
          let n : ℕ = (s.owners k).count in
          ap (λ (z : Table Row). ltb z.count n) (close_none q s sounds k u) ∙ le-ltb n n (omega arith) ∙ sym (T_false _ u)

  shorter_is : shorter_of (marks_of h) (marks_of d) ≡ any_of (holds_grant q s) kinds
  unfolding shorter_of
  shorter_is i = any_of (λ k. shortens k i) kinds

  pub done : C.saying (heard (found_of (shorter_of (marks_of h) (marks_of d)))) (state_view d) ≡ withdraw q s
  done = (λ i. C.saying (heard (found_of (shorter_is i))) (taken i)) ∙ go (either (any_of (holds_grant q s) kinds))
    where
      go : T (any_of (holds_grant q s) kinds) ⊎ (T (any_of (holds_grant q s) kinds) → ⊥) → C.saying (heard (found_of (any_of (holds_grant q s) kinds))) (closing (owned_by q) (λ k. (s.held k).count) s) ≡ withdraw q s
      go (inl t) =
          ap (λ (b : Bool). C.saying (heard (found_of b)) (closing (owned_by q) (λ k. (s.held k).count) s)) (T_true (any_of (holds_grant q s) kinds) t)
          ∙ (λ i. C.state s.pools s.held (λ k. close_withdraws q s sounds k i) silence) ∙ sym (withdraw_takes q s sounds who t)
      go (inr u) =
          ap (λ (b : Bool). C.saying (heard (found_of b)) (closing (owned_by q) (λ k. (s.held k).count) s)) (T_false (any_of (holds_grant q s) kinds) u)
          ∙ (λ i. C.state s.pools s.held (λ k. close_none q s sounds k (λ t. u (in_any (holds_grant q s) (every_kind k) t)) i) (tell 0 not_found)) ∙ sym (withdraw_none q s sounds who u)

-- .. of what was read before, and what is read after
pub taken_done : (q whose : ℕ) (h : State) → T (C.sound kinds (state_view h)) × T (a_requester q) × (whose ≡ q) → {before held after : Marks} {d : State} {r : Reply}
    → before ≡ marks_of h → held ≡ reserved_of h → d ≡ taken_out held whose h → after ≡ marks_of d → r ≡ found_of (shorter_of before after) → C.saying (heard r) (state_view d) ≡ withdraw q (state_view h)
taken_done q whose h on {before} {held} {after} {d} {r} e₁ e₂ e₃ e₄ e₅ =
    let g : d ≡ taken_out (reserved_of h) q h = e₃ ∙ (λ i. taken_out (e₂ i) (on.2 i) h) in
    ap (λ (x : Reply). C.saying (heard x) (state_view d)) e₅ ∙ (λ i. C.saying (heard (found_of (shorter_of (e₁ i) ((e₄ ∙ ap marks_of g) i)))) (state_view (g i))) ∙ done q h on.0 on.1
