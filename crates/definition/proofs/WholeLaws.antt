-- A pool call goes in whole: all its ranges, or none and every table as handed in; and which refusal is given. An MSI domain is the call of three ranges. Assumes nothing.
use Rattle.std.specs.Prelude.{◌≡◌, refl, ◌⊎◌, Bool, true, false, ◌&&◌, T, ltb}
use Rattle.std.proofs.Common.{sym, ◌∙◌, ap, inl, inr}
use mathlib.Core.List.Memᴰ
use mathlib.Core.List.{List, [], ◌∷◌, Memᴰ}
use Rattle.definition.specs.Base.{all_of, pairs_of, Refusal, malformed, bad_input, empty_range, bad_lpi, full, silence, tell, require}
use Rattle.definition.proofs.BaseLaws.{and_l, and_r, T_true, T_false, either, all_in, all_from}
use Rattle.definition.specs.Tables.{Kind, same_kind, Span, Table, used, fits_span, floored}
use Rattle.definition.specs.Pools.{In, Pool, spans, insert, there, entered, has_place, admit}
use Rattle.definition.specs.Request.{Use, automatic, fixed}
use Rattle.definition.specs.Calls.{State, pools_of, given, saying, stored, same_use, pooling, entering, pool, serve}
use Rattle.definition.proofs.RowLaws.{kind_same}
use Rattle.definition.proofs.ClaimLaws.{other_kind, apart_kinds}
use Rattle.definition.proofs.PoolLaws.{entered_there, entered_new, spans_apart}
use Rattle.definition.proofs.TableLaws.{stored_same}
use Rattle.definition.proofs.StateLaws.{pooling_other, given_for}
use Rattle.definition.proofs.RefusedLaws.{entering_said}

-- a test that each range passes
abbrev pub Each : List (In Span) → (In Span → Bool) → Type 0
Each cs p = (c : In Span) → Memᴰ c cs → T (p c)

abbrev pub holds_numbers : In Span → Bool
holds_numbers c = ltb c.row.start c.row.end

abbrev pub fits_in : In Span → Bool
fits_in c = fits_span c.kind c.row

abbrev pub high_enough : In Span → Bool
high_enough c = floored c.kind c.row.start

abbrev pub place_in : State → Use → In Span → Bool
place_in s u c = has_place c.row (pools_of s u c.kind)

-- why a call is refused: each test is over all ranges, and all tests before it are passed
pub data Why (ks : List Kind) (u : Use) (cs : List (In Span)) (s : State) : Refusal → Type 0 where
  unsound : (T (given ks s) → ⊥) → Why ks u cs s malformed
  wide : T (given ks s) → (Each cs fits_in → ⊥) → Why ks u cs s bad_input
  empty : T (given ks s) → Each cs fits_in → (Each cs holds_numbers → ⊥) → Why ks u cs s empty_range
  low : T (given ks s) → Each cs fits_in → Each cs holds_numbers → (Each cs high_enough → ⊥) → Why ks u cs s bad_lpi
  crowded : T (given ks s) → Each cs fits_in → Each cs holds_numbers → Each cs high_enough → (Each cs (place_in s u) → ⊥) → Why ks u cs s full

-- all its ranges are in: each in the table of its kind, inserted, or there before; no other table is touched
pub record Whole (u : Use) (cs : List (In Span)) (s s' : State) : Type 0 where
  pub said : s'.said ≡ silence
  pub new : (c : In Span) → Memᴰ c cs → (T (there c.row (pools_of s u c.kind)) → ⊥) → s'.pools u c.kind ≡ stored (insert c.row (pools_of s u c.kind))
  pub known : (c : In Span) → Memᴰ c cs → T (there c.row (pools_of s u c.kind)) → s'.pools u c.kind ≡ stored (pools_of s u c.kind)
  pub other_kinds : (v : Use) (k : Kind) → ((c : In Span) → Memᴰ c cs → k ≡ c.kind → ⊥) → s'.pools v k ≡ s.pools v k
  pub other_use : (v : Use) → same_use v u ≡ false → (k : Kind) → s'.pools v k ≡ s.pools v k
  pub held : s'.held ≡ s.held
  pub owners : s'.owners ≡ s.owners

pub data PoolSays (ks : List Kind) (u : Use) (cs : List (In Span)) (s : State) : State → Type 0 where
  in_whole : {s' : State} → T (given ks s) → Each cs fits_in → Each cs holds_numbers → Each cs high_enough → Each cs (place_in s u) → Whole u cs s s' → PoolSays ks u cs s s'
  turned_down : (x : Refusal) → Why ks u cs s x → PoolSays ks u cs s (saying (tell 0 x) s)

-- ---- what goes in

use_own : (u : Use) → same_use u u ≡ true
use_own automatic = refl
use_own fixed = refl

pooling_own : (u : Use) (k : Kind) (ps : List Span) (s : State) → (pooling u k ps s).pools u k ≡ stored ps
pooling_own u k ps s = λ i. elim (use_own u i && T_true (same_kind k k) (kind_same k) i) [ true ↦ stored ps | false ↦ s.pools u k ]

pooling_use : (u v : Use) (k j : Kind) (ps : List Span) (s : State) → same_use v u ≡ false → (pooling u k ps s).pools v j ≡ s.pools v j
pooling_use u v k j ps s e = λ i. elim (e i && same_kind j k) [ true ↦ stored ps | false ↦ s.pools v j ]

-- a table that no range is for, and one that one is for
enter_others : (u : Use) (cs : List (In Span)) (s : State) (v : Use) (k : Kind) → ((c : In Span) → Memᴰ c cs → k ≡ c.kind → ⊥) → (entering u cs s).pools v k ≡ s.pools v k
unfolding entering
enter_others u [] s v k n = refl
enter_others u (c ∷ cs) s v k n =
    enter_others u cs (pooling u c.kind (entered c.row (used (s.pools u c.kind))) s) v k (λ d m. n d (Memᴰ.tail m))
    ∙ pooling_other u c.kind (entered c.row (used (s.pools u c.kind))) s v k (n c (Memᴰ.head refl))

enter_own : (u : Use) (cs : List (In Span)) (s : State) → T (pairs_of other_kind cs) → (c : In Span) → Memᴰ c cs → (entering u cs s).pools u c.kind ≡ stored (entered c.row (pools_of s u c.kind))
unfolding entering pairs_of
enter_own u [] s a c m = absurd (Memᴰ.not-nil m)
enter_own u (d ∷ cs) s a c m = go (enter_own u cs next (and_r (all_of (other_kind d) cs) (pairs_of other_kind cs) a) c) (Memᴰ.cases_cons m)
  where
    next : State
    next = pooling u d.kind (entered d.row (used (s.pools u d.kind))) s

    a₁ : T (all_of (other_kind d) cs)
    a₁ = and_l (all_of (other_kind d) cs) (pairs_of other_kind cs) a

    apart : (e : In Span) → Memᴰ e cs → e.kind ≡ d.kind → ⊥
    apart e n z = apart_kinds d e (all_in (other_kind d) n a₁) (sym z)

    go : (Memᴰ c cs → (entering u cs next).pools u c.kind ≡ stored (entered c.row (pools_of next u c.kind))) → (c ≡ d) ⊎ Memᴰ c cs → (entering u cs next).pools u c.kind ≡ stored (entered c.row (pools_of s u c.kind))
    go below (inl z) = rw z (enter_others u cs next u d.kind (λ e n y. apart e n (sym y)) ∙ pooling_own u d.kind (entered d.row (used (s.pools u d.kind))) s)
    go below (inr n) =
        below n
        ∙ ap (λ (t : Table Span). stored (entered c.row (used t))) (pooling_other u d.kind (entered d.row (used (s.pools u d.kind))) s u c.kind (apart c n))

enter_use : (u : Use) (cs : List (In Span)) (s : State) (v : Use) → same_use v u ≡ false → (k : Kind) → (entering u cs s).pools v k ≡ s.pools v k
unfolding entering
enter_use u [] s v e k = refl
enter_use u (c ∷ cs) s v e k = enter_use u cs _ v e k ∙ pooling_use u v c.kind k (entered c.row (used (s.pools u c.kind))) s e

enter_held : (u : Use) (cs : List (In Span)) (s : State) → (entering u cs s).held ≡ s.held
unfolding entering
enter_held u [] s = refl
enter_held u (c ∷ cs) s = enter_held u cs _

enter_owners : (u : Use) (cs : List (In Span)) (s : State) → (entering u cs s).owners ≡ s.owners
unfolding entering
enter_owners u [] s = refl
enter_owners u (c ∷ cs) s = enter_owners u cs _

pub entering_whole : (u : Use) (cs : List (In Span)) (s : State) → T (pairs_of other_kind cs) → Whole u cs s (entering u cs s)
entering_whole u cs s a = record {
  said = entering_said u cs s;
  new = λ c m n. enter_own u cs s a c m ∙ ap stored (entered_new c.row (pools_of s u c.kind) n);
  known = λ c m t. enter_own u cs s a c m ∙ ap stored (entered_there c.row (pools_of s u c.kind) t).0;
  other_kinds = enter_others u cs s;
  other_use = enter_use u cs s;
  held = enter_held u cs s;
  owners = enter_owners u cs s;
}

-- .. and a table that had the range is as it was, where it is one of those judged
pub known_same : (ks : List Kind) (u : Use) (cs : List (In Span)) (s s' : State) → T (given ks s) → Whole u cs s s' → (c : In Span) → Memᴰ c cs → Memᴰ c.kind ks → T (there c.row (pools_of s u c.kind)) → s'.pools u c.kind ≡ s.pools u c.kind
known_same ks u cs s s' g w c m j t = w.known c m t ∙ stored_same (s.pools u c.kind) ((given_for ks s g c.kind j).pools u).tidied

-- ---- DOMAIN-WHOLE: every pool call, accepted or refused, on any tables
pub domain_whole : (ks : List Kind) (u : Use) (p : Pool) (s : State) → PoolSays ks u (spans p) s (serve ks (pool u p) s)
unfolding serve require admit
domain_whole ks u p s = judged (either (given ks s))
  where
    cs : List (In Span)
    cs = spans p

    End : Type 0
    End = PoolSays ks u cs s (serve ks (pool u p) s)

    tests : (p : In Span → Bool) → (T (all_of p cs) → ⊥) → Each cs p → ⊥
    tests p n f = n (all_from p cs f)

    placed : T (given ks s) → T (all_of fits_in cs) → T (all_of holds_numbers cs) → T (all_of high_enough cs) → T (all_of (place_in s u) cs) ⊎ (T (all_of (place_in s u) cs) → ⊥) → End
    placed g f l h (inl r) =
        rw (T_true (given ks s) g, T_true (all_of fits_in cs) f, T_true (all_of holds_numbers cs) l, T_true (all_of high_enough cs) h, T_true (all_of (place_in s u) cs) r)
        (in_whole g (λ c m. all_in fits_in m f) (λ c m. all_in holds_numbers m l) (λ c m. all_in high_enough m h) (λ c m. all_in (place_in s u) m r) (entering_whole u cs s (spans_apart p)))
    placed g f l h (inr n) =
        rw (T_true (given ks s) g, T_true (all_of fits_in cs) f, T_true (all_of holds_numbers cs) l, T_true (all_of high_enough cs) h, T_false (all_of (place_in s u) cs) n)
        (turned_down full (crowded g (λ c m. all_in fits_in m f) (λ c m. all_in holds_numbers m l) (λ c m. all_in high_enough m h) (tests (place_in s u) n)))

    high : T (given ks s) → T (all_of fits_in cs) → T (all_of holds_numbers cs) → T (all_of high_enough cs) ⊎ (T (all_of high_enough cs) → ⊥) → End
    high g f l (inl h) = placed g f l h (either (all_of (place_in s u) cs))
    high g f l (inr n) =
        rw (T_true (given ks s) g, T_true (all_of fits_in cs) f, T_true (all_of holds_numbers cs) l, T_false (all_of high_enough cs) n)
        (turned_down bad_lpi (low g (λ c m. all_in fits_in m f) (λ c m. all_in holds_numbers m l) (tests high_enough n)))

    long : T (given ks s) → T (all_of fits_in cs) → T (all_of holds_numbers cs) ⊎ (T (all_of holds_numbers cs) → ⊥) → End
    long g f (inl l) = high g f l (either (all_of high_enough cs))
    long g f (inr n) =
        rw (T_true (given ks s) g, T_true (all_of fits_in cs) f, T_false (all_of holds_numbers cs) n)
        (turned_down empty_range (empty g (λ c m. all_in fits_in m f) (tests holds_numbers n)))

    fitting : T (given ks s) → T (all_of fits_in cs) ⊎ (T (all_of fits_in cs) → ⊥) → End
    fitting g (inl f) = long g f (either (all_of holds_numbers cs))
    fitting g (inr n) = rw (T_true (given ks s) g, T_false (all_of fits_in cs) n) (turned_down bad_input (wide g (tests fits_in n)))

    judged : T (given ks s) ⊎ (T (given ks s) → ⊥) → End
    judged (inl g) = fitting g (either (all_of fits_in cs))
    judged (inr n) = rw (T_false (given ks s) n) (turned_down malformed (unsound n))
