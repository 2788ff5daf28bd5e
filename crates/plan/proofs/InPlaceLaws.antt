-- A plan in place, turn by turn: what is left equals the whole, and cutting the tables back puts them back. Over views alone. Assumes nothing.
--     Left          after i of t turns
--     starts, goes_on, ends
use mathlib.Core.Path.{◌≡◌, refl, sym, ap, subst, ◌∙◌}
use mathlib.Core.Bool.{Bool, true, false, ◌&&◌}
use mathlib.Core.List.{List, []}
use Prim.Native.Nat.{ℕ, ◌+◌, ◌*◌, ◌≤◌, ◌<◌}
use native.Mathlib.Omega.{arith}
use native.Mathlib.Numerals.{add-one}
use lib.Dec.{T, leb}
use lib.ListN.{length, get_or, drop, drop_of_length-le}
use lib.Seq.{drop-cons}
use borrow.Author.Tests.{leb-true}
use Rattle.definition.proofs.BaseLaws.{T_true, true_T, and_l, and_r}
use Rattle.definition.specs.Base.{Refusal, malformed, short, Said, silence, tell}
use Rattle.definition.specs.Tables.{plan_limit, record_size, Kind, kinds}
use Rattle.definition.specs.Request.{Request}
use Rattle.definition.specs.Calls.{State, pools_of, owners_of, sound, saying, granting}
use Rattle.definition.proofs.StateLaws.{sound_for, sound_saying}
use Rattle.definition.specs.Plan.{Run, done, stopped, run, Lent, lent, all_rows, plan}
use Rattle.definition.proofs.PlanLaws.{tell_number}
use Rattle.plan.specs.Steps.{clear, Steady, opened, turned, turns, settled, steps}
use Rattle.plan.proofs.StepLaws.{is_clear_is, not_clear, opened_unsound, opened_short, opened_clear, settled_clear, settled_refused}
use Rattle.plan.proofs.PlanLaws.{turns_skip, turns_run, finished, turned_steady, opened_steady, steps_plan}
use Rattle.definition.specs.Cut.{cutting}
use Rattle.definition.proofs.CutLaws.{counts_of, cut_none, cut_granted}
use Rattle.plan.specs.Turns.{turns_after}

-- cut back after a refusal
abbrev pub cut_back : (Kind → ℕ) → State → State
cut_back c t = elim (clear t) [ true ↦ t | false ↦ cutting c t ]

module _ (c : Kind → ℕ) (t : State) where
  cut_clear : t.said.number ≡ 0 → cut_back c t ≡ t
  cut_clear e = ap (λ (b : Bool). elim b as (λ _. State) [ true ↦ t | false ↦ cutting c t ]) (is_clear_is t e)

  cut_refused : (t.said.number ≡ 0 → ⊥) → cut_back c t ≡ cutting c t
  cut_refused f = ap (λ (b : Bool). elim b as (λ _. State) [ true ↦ t | false ↦ cutting c t ]) (not_clear t f)

-- qs on s, lent zs₀; n is their number
module _ (qs : List Request) (q : Request) (s : State) (zs₀ : List ℕ) (n : ℕ) where
  abbrev first : State
  first = opened n (length zs₀) s

  abbrev whole : Lent
  whole = turns 0 qs first zs₀

  abbrev pub Left : ℕ → ℕ → State → List ℕ → Type 0
  Left t i d zs = ((Steady d) × (turns i (drop i qs) d zs ≡ whole)) × ((t ≡ turns_after n first) × (clear first ≡ false → clear d ≡ false))

  pub starts : (t : ℕ) (d : State) → d ≡ first → t ≡ turns_after n d → Left t 0 d zs₀
  starts t d e u = ((subst Steady (sym e) (opened_steady n (length zs₀) s), ap (λ (x : State). turns 0 qs x zs₀) e), (u ∙ ap (turns_after n) e, λ f. ap clear e ∙ f))

  one_more : (i : ℕ) (d : State) (zs : List ℕ) → i < length qs → turns i (drop i qs) d zs ≡ turns (i + 1) (drop (i + 1) qs) (turned i (get_or qs i q) d zs).state (turned i (get_or qs i q) d zs).results
  unfolding turns
  one_more i d zs l =
      ap (λ (rs : List Request). turns i rs d zs) (drop-cons qs i q l) ∙ ap (λ (k : ℕ). turns (i + 1) (drop k qs) (turned i (get_or qs i q) d zs).state (turned i (get_or qs i q) d zs).results) (sym (add-one i))

  none_left : (t i : ℕ) → i < t → t ≡ turns_after n first → clear first ≡ true
  none_left t i l e = go (clear first) refl
    where
      go : (b : Bool) → clear first ≡ b → clear first ≡ true
      go true u = u
      go false u = let z : t ≡ 0 = e ∙ ap (λ (x : Bool). elim x as (λ _. ℕ) [ false ↦ 0 | true ↦ n ]) u in absurd (omega arith)

  -- where a request has its turn, there are no more than a plan has
  pub few : (t i : ℕ) (d : State) (zs : List ℕ) → i < t → Left t i d zs → n ≤ plan_limit
  few t i d zs l left = go (sound kinds s) refl (leb n plan_limit && leb (record_size * n) (length zs₀)) refl
    where
      refuses : (x : Refusal) → saying (tell 0 x) s ≡ first → n ≤ plan_limit
      refuses x e = absurd (true_T false (sym (not_clear (saying (tell 0 x) s) (tell_number 0 x)) ∙ ap clear e ∙ none_left t i l left.1.0))

      go : (b : Bool) → sound kinds s ≡ b → (f : Bool) → leb n plan_limit && leb (record_size * n) (length zs₀) ≡ f → n ≤ plan_limit
      go false e f u = refuses malformed (opened_unsound n (length zs₀) s e)
      go true e false u = refuses short (opened_short n (length zs₀) s e u)
      go true e true u = leb-true n plan_limit (T_true _ (and_l (leb n plan_limit) (leb (record_size * n) (length zs₀)) (true_T _ u)))

  module _ (long-is : length qs ≡ n) where
    all_turns : (t : ℕ) → t ≡ turns_after n first → clear first ≡ true → t ≡ length qs
    all_turns t e u = e ∙ ap (λ (x : Bool). elim x as (λ _. ℕ) [ false ↦ 0 | true ↦ n ]) u ∙ sym long-is

    pub inside : (t i : ℕ) (d : State) (zs : List ℕ) → i < t → Left t i d zs → i < length qs
    inside t i d zs l left = let e : t ≡ length qs = all_turns t left.1.0 (none_left t i l left.1.0) in omega arith

    pub goes_on : (t i : ℕ) (d : State) (zs : List ℕ) (r : Request) (d' : State) (zs' : List ℕ) → i < t → Left t i d zs → r ≡ get_or qs i q → lent d' zs' ≡ turned i r d zs → Left t (i + 1) d' zs'
    goes_on t i d zs r d' zs' l left e did = (
      (
        subst Steady (sym (ap (λ (p : Lent). p.state) did)) (turned_steady i r d zs left.0.0),
        ap (λ (p : Lent). turns (i + 1) (drop (i + 1) qs) p.state p.results) (did ∙ ap (λ (x : Request). turned i x d zs) e) ∙ sym (one_more i d zs (inside t i d zs l left)) ∙ left.0.1,
      ),
      (left.1.0, λ f. absurd (true_T false (sym f ∙ none_left t i l left.1.0))),
    )

    -- after the last turn nothing is left
    last : (t i : ℕ) (d : State) (zs : List ℕ) → t ≤ i → Left t i d zs → lent d zs ≡ whole
    unfolding turns
    last t i d zs over left = go (clear first) refl
      where
        go : (b : Bool) → clear first ≡ b → lent d zs ≡ whole
        go true u = let e : t ≡ length qs = all_turns t left.1.0 u in let none : drop i qs ≡ [] = drop_of_length-le qs {i = i} (omega arith) in sym (ap (λ (rs : List Request). turns i rs d zs) none) ∙ left.0.1
        go false u = sym (turns_skip (drop i qs) i d zs (λ e. absurd (true_T false (sym (left.1.1 u) ∙ is_clear_is d e)))) ∙ left.0.1

    -- ---- the tables put back

    abbrev counts : Kind → ℕ
    counts = counts_of s

    refusing : (x : Refusal) → cut_back counts (saying (tell 0 x) s) ≡ settled s (saying (tell 0 x) s)
    refusing x = cut_refused counts (saying (tell 0 x) s) (tell_number 0 x) ∙ cut_none (saying (tell 0 x) s) ∙ settled_refused s (saying (tell 0 x) s) (tell_number 0 x)

    running : T (sound kinds s) → (v : Run) → cut_back counts (finished 0 (saying silence s) zs₀ v).state ≡ settled s (finished 0 (saying silence s) zs₀ v).state
    running h (done gs) = cut_clear counts (granting (all_rows gs) s) refl ∙ settled_clear s (granting (all_rows gs) s) refl
    running h (stopped gs x) =
        let w : Said = tell (0 + length gs) x in
        cut_refused counts (saying w (granting (all_rows gs) s)) (tell_number (0 + length gs) x) ∙ ap (saying w) (cut_granted (all_rows gs) s h) ∙ settled_refused s (saying w (granting (all_rows gs) s)) (tell_number (0 + length gs) x)

    put_back : cut_back counts whole.state ≡ settled s whole.state
    put_back = go (sound kinds s) refl (leb n plan_limit && leb (record_size * n) (length zs₀)) refl
      where
        stops : (x : Refusal) → saying (tell 0 x) s ≡ first → cut_back counts whole.state ≡ settled s whole.state
        stops x e =
            let p : whole ≡ lent (saying (tell 0 x) s) zs₀ = ap (λ (u : State). turns 0 qs u zs₀) (sym e) ∙ turns_skip qs 0 (saying (tell 0 x) s) zs₀ (tell_number 0 x) in
            ap (λ (y : Lent). cut_back counts y.state) p ∙ refusing x ∙ sym (ap (λ (y : Lent). settled s y.state) p)

        runs : sound kinds s ≡ true → leb n plan_limit && leb (record_size * n) (length zs₀) ≡ true → cut_back counts whole.state ≡ settled s whole.state
        runs e f =
            let h : T (sound kinds s) = true_T (sound kinds s) e in
            let room : record_size * n ≤ length zs₀ = leb-true (record_size * n) (length zs₀) (T_true _ (and_r (leb n plan_limit) (leb (record_size * n) (length zs₀)) (true_T _ f))) in
            let p : whole ≡ finished 0 (saying silence s) zs₀ (run (pools_of s) (owners_of s) qs) =
            ap (λ (u : State). turns 0 qs u zs₀) (sym (opened_clear n (length zs₀) s e f)) ∙ turns_run qs 0 (saying silence s) zs₀ (λ k m. sound_saying silence s k (sound_for kinds s h k m)) refl (omega (arith, room, long-is)) in
            ap (λ (y : Lent). cut_back counts y.state) p ∙ running h (run (pools_of s) (owners_of s) qs) ∙ sym (ap (λ (y : Lent). settled s y.state) p)

        go : (b : Bool) → sound kinds s ≡ b → (f : Bool) → leb n plan_limit && leb (record_size * n) (length zs₀) ≡ f → cut_back counts whole.state ≡ settled s whole.state
        go false e f u = stops malformed (opened_unsound n (length zs₀) s e)
        go true e false u = stops short (opened_short n (length zs₀) s e u)
        go true e true u = runs e u

    -- what the plan leaves
    pub ends : (t i : ℕ) (d : State) (zs : List ℕ) (e : State) → t ≤ i → Left t i d zs → e ≡ cut_back (counts_of s) d → lent e zs ≡ lent (settled s whole.state) whole.results
    ends t i d zs e over left u =
        let l : lent d zs ≡ whole = last t i d zs over left in
        ap (λ (x : State). lent x zs) u ∙ ap (λ (p : Lent). lent (cut_back counts p.state) p.results) l ∙ ap (λ (x : State). lent x whole.results) put_back

-- what is left where n of qs are counted
abbrev pub Ends : List Request → State → List ℕ → ℕ → Lent
Ends qs s zs₀ n = let w : Lent = turns 0 qs (opened n (length zs₀) s) zs₀ in lent (settled s w.state) w.results

-- .. which is the plan of so many requests
pub ends_plan : (qs : List Request) (s : State) (zs₀ : List ℕ) → Ends qs s zs₀ (length qs) ≡ plan qs s zs₀
unfolding steps
ends_plan qs s zs₀ = steps_plan qs s zs₀
