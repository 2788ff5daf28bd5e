-- The loop over a text's lines: what is left equals the whole. Over views alone. Assumes nothing.
--     Left                     after some lines
--     starts, goes_on, ends    before the first, one more, after the last
use mathlib.Core.Path.{◌≡◌, refl, sym, ap, subst, ◌∙◌}
use mathlib.Core.Bool.{Bool, true, false, ◌&&◌}
use mathlib.Core.List.{List}
use mathlib.Core.Option.{Option, none, some}
use Prim.Native.Nat.{ℕ, suc, ◌+◌, ◌*◌, ◌-◌, ◌≤◌, ◌<◌}
use native.Mathlib.Omega.{arith}
use lib.Dec.{T, eqb, ltb}
use lib.ListN.{length, drop}
use lib.Seq.{drop-drop}
use borrow.Author.Tests.{ltb-true, ltb-false}
use Rattle.definition.proofs.BaseLaws.{T_true, true_T, and_l, and_r}
use Rattle.definition.specs.Tables.{plan_limit, record_size, kinds}
use Rattle.definition.specs.Calls.{State, given, Call, pool, hold, start, want}
use Rattle.definition.specs.Plan.{Lent}
use Rattle.lines.specs.Text as Text
use Rattle.lines.specs.Text.{beginning_on, accepts, set_up, answered, ask, take_line, feed, close}
use Rattle.lines.specs.Place.{call_at, next_at}
use Rattle.lines.proofs.FeedLaws.{rest, rest_whole, rest_stands, rest_ended, rest_line, next_after}
use Rattle.lines.proofs.Longest.{taken_few}
use Rattle.text.specs.Sofar.{said_in, is_none, Named, goes_of, sofar_of, started}
use Rattle.text.specs.Step.{Ready, behind, Stepped, start_of, Fed}
use Rattle.text.specs.declared.feed.sofar.Sofar.{Sofar}
use Rattle.text.proofs.StepLaws.{either, kept}

-- ---- each line is counted, and no want is taken back

abbrev Grows : Text.Sofar → Text.Sofar → Type 0
Grows t u = (u.lines ≡ suc t.lines) × (t.wants ≤ u.wants)

answered_grown : (t : Text.Sofar) (p : Lent) → Grows t (answered t p)
unfolding answered
answered_grown t p = either (Grows t) _ _ (accepts p.state.said) (λ q. (refl, omega arith)) (λ q. (refl, omega arith))

grown : (t : Text.Sofar) (c : Option Call) → Grows t (take_line t c)
unfolding set_up ask
grown t none = (refl, omega arith)
grown t (some (pool u p)) = either (Grows t) _ _ (eqb t.wants 0) (λ q. (refl, omega arith)) (λ q. (refl, omega arith))
grown t (some (hold o h)) = either (Grows t) _ _ (eqb t.wants 0) (λ q. (refl, omega arith)) (λ q. (refl, omega arith))
grown t (some start) = (refl, omega arith)
grown t (some (want r)) = either (Grows t) _ _ (ltb t.wants plan_limit) (λ q. answered_grown t _) (λ q. (refl, omega arith))

begins : (text : List ℕ) → 0 ≡ start_of text 0
unfolding start_of
begins text = refl

starts_next : (text : List ℕ) (n : ℕ) → next_at text (start_of text n) ≡ start_of text (suc n)
unfolding start_of
starts_next text n = refl

-- ---- the loop, on the tables of s₀ with the results zs₀
module _ (text : List ℕ) (s₀ : State) (zs₀ : List ℕ) where
  pub record Left (t : Sofar) (s : State) (zs : List ℕ) : Type 0 where
    pub whole : rest (sofar_of t s zs) text t.at ≡ close (feed Text.step (beginning_on s₀) text)
    pub inside : t.at ≤ length text
    pub counted : t.lines ≤ t.at
    pub few : t.wants ≤ plan_limit
    pub here : t.at ≡ start_of text t.lines
    pub stays : behind t zs ≡ behind t zs₀
    pub named : Named t
    pub ready : accepts (said_in t) ≡ true → Ready (sofar_of t s zs)

  pub starts : T (given kinds s₀) → Left started s₀ zs₀
  starts g = record {
    whole = rest_whole (beginning_on s₀) text;
    inside = omega arith;
    counted = omega arith;
    few = omega arith;
    here = begins text;
    stays = refl;
    named = refl;
    ready = λ a. record { given = g; wanted = λ f. absurd (f refl) };
  }

  module _ (t : Sofar) (s : State) (zs : List ℕ) (left : Left t s zs) where
    -- whether one more line is taken
    abbrev more : Bool
    more = goes_of t (length text)

    module _ (goes : more ≡ true) where
      accepted : accepts (said_in t) ≡ true
      accepted = left.named ∙ T_true _ (and_l (is_none t.refusal) (ltb t.at (length text)) (true_T more goes))

      short : t.at < length text
      short = ltb-true t.at (length text) (T_true _ (and_r (is_none t.refusal) (ltb t.at (length text)) (true_T more goes)))

      pub is_ready : Ready (sofar_of t s zs)
      is_ready = left.ready accepted

      pub fewer : (e : ℕ) → e ≡ next_at text t.at → t.lines < e
      fewer e q = omega (arith, left.counted, (next_after (sofar_of t s zs) text t.at accepted short).0)

      module _ (c : Option Call) (says : c ≡ call_at text t.at) (e : ℕ) (next : e ≡ next_at text t.at) (t' : Sofar) (s' : State) (zs' : List ℕ) (did : Stepped c t s zs t' s' zs') (at : t'.at ≡ e) (named : Named t') where
        gone : Grows (sofar_of t s zs) (sofar_of t' s' zs')
        gone = subst (Grows (sofar_of t s zs)) (sym did.0) (grown (sofar_of t s zs) c)

        behind_more : behind t' zs ≡ behind t' zs₀
        behind_more =
            let k : ℕ = record_size * t'.wants - record_size * t.wants in
            let sum : record_size * t.wants + k ≡ record_size * t'.wants = omega (arith, gone.1) in
            ap (λ (j : ℕ). drop j zs) (sym sum) ∙ sym (drop-drop k (record_size * t.wants) zs) ∙ ap (drop k) left.stays ∙ drop-drop k (record_size * t.wants) zs₀ ∙ ap (λ (j : ℕ). drop j zs₀) sum

        after : (t.at < e) × (e ≤ length text)
        after = subst (λ (n : ℕ). (t.at < n) × (n ≤ length text)) (sym next) (next_after (sofar_of t s zs) text t.at accepted short)

        pub goes_on : Left t' s' zs'
        goes_on = record {
          whole = ap (λ (n : ℕ). rest (sofar_of t' s' zs') text n) (at ∙ next) ∙ ap (λ (u : Text.Sofar). rest u text (next_at text t.at)) (did.0 ∙ ap (take_line (sofar_of t s zs)) says)
              ∙ sym (rest_line (sofar_of t s zs) text t.at accepted short) ∙ left.whole;
          inside = omega (arith, at, after.1);
          counted = omega (arith, at, after.0, gone.0, left.counted);
          few = subst (λ (u : Text.Sofar). u.wants ≤ plan_limit) (sym did.0) (taken_few (sofar_of t s zs) c left.few);
          here = at ∙ next ∙ ap (next_at text) left.here ∙ starts_next text t.lines ∙ ap (start_of text) (sym gone.0);
          stays = did.1 ∙ behind_more;
          named = named;
          ready = λ a. subst Ready (sym did.0) (kept (sofar_of t s zs) is_ready c (subst (λ (u : Text.Sofar). accepts u.said ≡ true) did.0 a));
        }

        pub nearer : length text - t'.at < length text - t.at
        nearer = omega (arith, at, after.0, after.1)

    pub ends : more ≡ false → Fed text s₀ zs₀ t s zs
    ends over = record { comes = sym (stops (is_none t.refusal) left.named over) ∙ left.whole; stays = left.stays; few = left.few; at = left.here; named = left.named }
      where
        stops : (b : Bool) → accepts (said_in t) ≡ b → b && ltb t.at (length text) ≡ false → rest (sofar_of t s zs) text t.at ≡ sofar_of t s zs
        stops false q z = rest_stands (sofar_of t s zs) text t.at q
        stops true q z = rest_ended (sofar_of t s zs) text t.at (ltb-false t.at (length text) z)
