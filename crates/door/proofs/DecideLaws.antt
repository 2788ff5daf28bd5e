-- The verdict on a call is the definition's, call by call. Assumes nothing.
use mathlib.Core.Path.{◌≡◌, refl, sym, ◌∙◌, ap, subst}
use mathlib.Core.Bool.{Bool, true, false, ◌&&◌, ◌||◌}
use mathlib.Core.List.{List, [], ◌∷◌}
use Prim.Native.Nat.{ℕ, ◌<◌}
use lib.Dec.{T as Holds}
use Rattle.std.specs.Prelude.{Option, Some, None, Ok, Err, IfOk}
use Rattle.definition.specs.Base.{any_of, all_of, pairs_of, silence}
use Rattle.definition.proofs.ClaimLaws.{other_kind}
use Rattle.definition.proofs.PlanLaws.{tell_number}
use Rattle.definition.proofs.PoolLaws.{spans_apart}
use Rattle.definition.specs.Tables.{row_limit, Kind, kinds, mmio, pio, input, host, device, event, lpi, same_kind, Span, Table, used}
use Rattle.definition.specs.Pools.{at_kind, admit, Claim, rows_of, room, all_unreserved, reserve, mmio_pool, pio_pool, host_pool, input_pool, msi_pool}
use Rattle.definition.specs.Request.{Use, automatic, fixed}
use Rattle.definition.specs.Calls.{State as Given, state, pools_of, held_of, given, push_all, same_use}
use Rattle.tables.specs.Views.{span_of, range_of, input_of, pool_of, pools_view, ranges_view, inputs_view, holders_view, state_view}
use Rattle.tables.specs.Sized.{SizedRanges, SizedInputs}
use Rattle.tables.specs.declared.PoolRow.{PoolRow}
use Rattle.tables.specs.declared.RangeRow.{RangeRow}
use Rattle.tables.specs.declared.InputRow.{InputRow}
use Rattle.tables.specs.declared.State.{State}
use Rattle.insert.specs.Answers.{Reply, refusal_of, number_of, pick, telling, heard, entered_or, admit_any, Told, comes_before, earlier_of}
use Rattle.insert.proofs.HoldLaws.{told_as}
use Rattle.insert.proofs.PairLaws.{pair_told}
use Rattle.insert.proofs.AdmitLaws.{admit_one, admit_more}
use Rattle.request.specs.Calls.{use_of, call_of, hold_call}
use Rattle.request.specs.declared.call.Use.{Use as Named}
use Rattle.request.specs.declared.call.Use.TheVariants as U
use Rattle.request.specs.declared.call.PoolRange.TheVariants as P
use Rattle.request.specs.declared.call.Hold.TheVariants as H
use Rattle.request.specs.declared.call.Call.{Call}
use Rattle.request.specs.declared.call.Call.TheVariants as C
use Rattle.adding.specs.Adds.{keep_if, ranges_in, pool_adds, adds_of, FitCall}
use Rattle.adding.specs.Judged.{judged, verdict_of, same_to, for_use, entered_view}
use Rattle.adding.specs.Looks.{pool_for, Adding}
use Rattle.adding.specs.declared.Adds.{Adds}
use Rattle.adding.specs.declared.Adds.TheVariants as A
use Rattle.adding.specs.declared.Replies.{Replies}
use Rattle.adding.specs.declared.Verdict.{Verdict}
use Rattle.door.specs.Applied.{apply_of}
use Rattle.door.specs.Kept.{kind_in, held_with, HeldFree, Kept, AllTell, Decides}
use Rattle.door.proofs.KindLaws.{every, same_in}
use Rattle.door.proofs.GivenLaws.{given_auto, given_fixed}
use Rattle.door.proofs.AfterLaws.{pool_after, held_after, ranges, pool_state, hold_state}
use Rattle.door.proofs.ApplyLaws.{serve_pool, serve_hold}
use Rattle.door.proofs.HoldLaws.{rows_at, Places, held_put, held_rests, held_free, refused_free}

-- ---- the ranges that a call has for the pools of a use, by kinds

abbrev Puts : Named → Adds → (Kind → PoolRow) → List Kind → Type 0
Puts u q row ks = (o : Named) (k : Kind) → for_use o (ranges_in q (kind_in k)) ≡ keep_if (same_use (use_of o) (use_of u) && any_of (same_kind k) ks) (row k)

puts_one : (u : Named) (j : Kind) (r : PoolRow) → Puts u (A.Range u (kind_in j) r) (λ k. r) (j ∷ [])
unfolding any_of
puts_one u j r o k = ap (λ b. for_use o (keep_if b (u, r))) (same_in k j) ∙ go u o (same_kind k j)
  where
    go : (u o : Named) (b : Bool) → for_use o (keep_if b (u, r)) ≡ keep_if (same_use (use_of o) (use_of u) && (b || false)) r
    go U.Automatic U.Automatic true = refl
    go U.Automatic U.Automatic false = refl
    go U.Automatic U.Fixed true = refl
    go U.Automatic U.Fixed false = refl
    go U.Fixed U.Automatic true = refl
    go U.Fixed U.Automatic false = refl
    go U.Fixed U.Fixed true = refl
    go U.Fixed U.Fixed false = refl

-- a verdict on pools is for the use that the call names
pub goes_to_use : (u v : Named) → same_to u v ≡ same_use (use_of v) (use_of u)
goes_to_use U.Automatic U.Automatic = refl
goes_to_use U.Automatic U.Fixed = refl
goes_to_use U.Fixed U.Automatic = refl
goes_to_use U.Fixed U.Fixed = refl

-- the three of an MSI domain
abbrev three : PoolRow → PoolRow → PoolRow → Kind → PoolRow
three d e l mmio = d
three d e l pio = d
three d e l input = d
three d e l host = d
three d e l device = d
three d e l event = e
three d e l lpi = l

puts_domain : (u : Named) (d e l : PoolRow) → Puts u (A.Domain u d e l) (three d e l) (device ∷ event ∷ lpi ∷ [])
unfolding any_of same_kind
puts_domain U.Automatic d e l U.Automatic = every _ refl refl refl refl refl refl refl
puts_domain U.Automatic d e l U.Fixed = every _ refl refl refl refl refl refl refl
puts_domain U.Fixed d e l U.Automatic = every _ refl refl refl refl refl refl refl
puts_domain U.Fixed d e l U.Fixed = every _ refl refl refl refl refl refl refl

entered_if : (b : Bool) (r : PoolRow) (t : Table Span) → entered_view (keep_if b r) t ≡ pick b (entered_or (span_of r) t) t
entered_if true r t = refl
entered_if false r t = refl

-- storing what a verdict has may be done, and leaves S
abbrev Leaves : State → Given → Verdict → Type 0
Leaves s S v = HeldFree v s.held × ((t : State) → Kept v s t → state_view t ≡ S)

-- what is known of two answers that are accepted is known of the earlier one
ok_both : (A B : Type 0) (a b : Reply) → IfOk a (λ given. A) → IfOk b (λ given. B) → IfOk (earlier_of a b) (λ given. A × B)
unfolding earlier_of
ok_both A B (Ok x) (Ok y) p q = (p, q)
ok_both A B (Ok x) (Err y) p q = tt
ok_both A B (Err x) (Ok y) p q = tt
ok_both A B (Err x) (Err y) p q = go (comes_before (number_of y) (number_of x))
  where
    go : (b : Bool) → IfOk {T = Unit {0}} (pick b (Err y) (Err x)) (λ given. A × B)
    go true = tt
    go false = tt

ok_then : (A B : Type 0) (r : Reply) → (A → B) → IfOk r (λ given. A) → IfOk r (λ given. B)
ok_then A B (Ok x) f p = f p
ok_then A B (Err y) f p = tt

module _ (s : State) where
  abbrev still : Adds → Type 0
  still q = (k : Kind) → holders_view (held_with (judged q (Ok tt)) s.held) k ≡ holders_view s.held k

  -- ---- ranges for the pools of a use, one of each kind of ks

  pooled : (u : Named) (q : Adds) (row : Kind → PoolRow) (ks : List Kind) (r : Reply) → Puts u q row ks → HeldFree (judged q (Ok tt)) s.held → still q → Holds (pairs_of other_kind (ranges (λ k. span_of (row k)) ks))
      → heard r ≡ telling (admit (pools_of (state_view s) (use_of u)) (ranges (λ k. span_of (row k)) ks)) → Leaves s (pool_after (use_of u) (ranges (λ k. span_of (row k)) ks) (state_view s)) (judged q r)
  pooled u q row ks (Err y) puts free rests apart told = (
    refused_free q s.held y,
    λ t kept. kept.is ∙ pool_state (state_view s) (use_of u) (λ k. span_of (row k)) ks apart (pools_view kept.a kept.f) (holders_view (held_with (judged q (Err y)) s.held)) (heard (Err y))
        (held_rests q s.held y) told (λ n. elim [ automatic ↦ kept.automatic | fixed ↦ kept.fixed ]) (λ n. absurd (tell_number 0 (refusal_of y) n)),
  )
  pooled u q row ks (Ok x) puts free rests apart told = (
    free,
    λ t kept. kept.is ∙ pool_state (state_view s) (use_of u) (λ k. span_of (row k)) ks apart (pools_view kept.a kept.f) (holders_view (held_with (judged q (Ok x)) s.held)) silence
        rests told (λ n. absurd (n refl)) (λ n. elim [ automatic ↦ entered U.Automatic kept.automatic | fixed ↦ entered U.Fixed kept.fixed ]),
  )
    where
      entered : (o : Named) {p : Kind → Table Span} → ((k : Kind) → p k ≡ entered_view (for_use o (ranges_in q (kind_in k))) ((state_view s).pools (use_of o) k)) → (k : Kind)
          → p k ≡ pick (same_use (use_of o) (use_of u) && any_of (same_kind k) ks) (entered_or (span_of (row k)) ((state_view s).pools (use_of o) k)) ((state_view s).pools (use_of o) k)
      entered o kept k = kept k ∙ ap (λ x. entered_view x ((state_view s).pools (use_of o) k)) (puts o k) ∙ entered_if _ (row k) ((state_view s).pools (use_of o) k)

  -- ---- rows for the reservations, of each kind one at most

  reserved : (q : Adds) (r : Reply) (cs : List Claim) → ((u : Named) (k : Kind) → for_use u (ranges_in q (kind_in k)) ≡ None) → ((k : Kind) → rows_of k cs ≡ rows_at q k)
      → IfOk r (λ given. (k : Kind) → Places q s.held k) → heard r ≡ telling (reserve (held_of (state_view s)) cs) → Leaves s (held_after cs (state_view s)) (judged q r)
  reserved q (Err y) cs dry rows places told = (
    refused_free q s.held y,
    λ t kept. kept.is ∙ (λ i. state (elim [ automatic ↦ λ k. kept.automatic k i | fixed ↦ λ k. kept.fixed k i ]) (holders_view (held_with (judged q (Err y)) s.held)) (holders_view s.owners) (heard (Err y)))
        ∙ hold_state (state_view s) cs (holders_view (held_with (judged q (Err y)) s.held)) (heard (Err y)) told (λ n. held_rests q s.held y) (λ n. absurd (tell_number 0 (refusal_of y) n)),
  )
  reserved q (Ok x) cs dry rows places told = (
    held_free q s.held places,
    λ t kept. kept.is ∙ (λ i. state (λ u k. pools t kept u k i) (holders_view (held_with (judged q (Ok x)) s.held)) (holders_view s.owners) silence)
        ∙ hold_state (state_view s) cs (holders_view (held_with (judged q (Ok x)) s.held)) silence told (λ n. absurd (n refl))
        (λ n k. held_put q s.held k (places k) ∙ ap (push_all (holders_view s.held k)) (sym (rows k))),
  )
    where
      pools : (t : State) (kept : Kept (judged q (Ok x)) s t) (u : Use) (k : Kind) → pools_view kept.a kept.f u k ≡ (state_view s).pools u k
      pools t kept automatic k = kept.automatic k ∙ ap (λ o. entered_view o ((state_view s).pools automatic k)) (dry U.Automatic k)
      pools t kept fixed k = kept.fixed k ∙ ap (λ o. entered_view o ((state_view s).pools fixed k)) (dry U.Fixed k)

  -- a row of one kind, a pair
  one_reserved : (q : Adds) (k : Kind) (r : Reply) (P : Type 0) {x : _} → ((u : Named) (k : Kind) → for_use u (ranges_in q (kind_in k)) ≡ None) → ((j : Kind) → rows_of j (at_kind k x ∷ []) ≡ rows_at q j)
      → (P → (j : Kind) → Places q s.held j) → IfOk r (λ given. P) → Told k x (holders_view s.held k) r → Leaves s (held_after (at_kind k x ∷ []) (state_view s)) (judged q r)
  unfolding reserve all_of all_unreserved room
  one_reserved q k r P {x} dry rows places ok told = reserved q r (at_kind k x ∷ []) dry rows (ok_then P ((j : Kind) → Places q s.held j) r places ok) told.said

  pair_reserved : (w : InputRow) (row : RangeRow) (i h : Reply) → Told input (input_of w) (inputs_view s.held.input) i → Told host (range_of row) (ranges_view s.held.host) h → IfOk i (λ given. SizedInputs s.held.input × (s.held.input.n < row_limit)) → IfOk h (λ given. SizedRanges s.held.host × (s.held.host.n < row_limit))
      → Leaves s (held_after (at_kind input (input_of w) ∷ at_kind host (range_of row) ∷ []) (state_view s)) (judged (A.Pair w row) (earlier_of i h))
  unfolding rows_of same_kind
  pair_reserved w row i h i-told h-told i-ok h-ok = reserved (A.Pair w row) (earlier_of i h) (at_kind input (input_of w) ∷ at_kind host (range_of row) ∷ []) (λ u k. refl) (every _ refl refl refl refl refl refl refl)
      (ok_then _ _ (earlier_of i h) (λ p. every _ tt tt p.0 p.1 tt tt tt) (ok_both _ _ i h i-ok h-ok)) (pair_told (held_of (state_view s)) input host (input_of w) (range_of row) refl refl i h i-told.said h-told.said)

module _ (s : State) (g : Holds (given kinds (state_view s))) where
  settled : (c : Call) (v : Verdict) (S : Given) → apply_of (call_of c) (state_view s) ≡ S → Leaves s S v → Decides s c v
  settled c v S e f = record { ready = record { auto = given_auto s g; fixed = given_fixed s g; free = f.0 }; after = λ t k. f.1 t k ∙ sym e }

  -- what a call's pool answers
  told : (u : Named) (k : Kind) (floor : ℕ) (p : PoolRow) (r : Reply) → Adding (pool_for u (pool_of s.auto k) (pool_of s.fixed k)) floor p r → heard r ≡ telling (admit_any floor (span_of p) (used ((state_view s).pools (use_of u) k)))
  told U.Automatic k floor p r e = e
  told U.Fixed k floor p r e = e

  range_pooled : (u : Named) (k : Kind) (p : PoolRow) (r : Reply) → Holds (pairs_of other_kind (at_kind k (span_of p) ∷ [])) → heard r ≡ telling (admit (pools_of (state_view s) (use_of u)) (at_kind k (span_of p) ∷ []))
      → Leaves s (pool_after (use_of u) (at_kind k (span_of p) ∷ []) (state_view s)) (judged (A.Range u (kind_in k) p) r)
  range_pooled u k p r apart e = pooled s u (A.Range u (kind_in k) p) (λ j. p) (k ∷ []) r (puts_one u k p) (every _ tt tt tt tt tt tt tt) (every _ refl refl refl refl refl refl refl) apart e

  abbrev Looking : Call → Replies → Option Adds → Type 0
  Looking c r (Some q) = AllTell s q r → Decides s c (verdict_of q r)
  Looking c r None = Unit {0}

  decided : (c : Call) → FitCall c → (r : Replies) → Looking c r (adds_of c)
  unfolding rows_of same_kind
  decided (C.Pool u (P.Mmio x y)) f r = λ a. settled _ _ _ (serve_pool (state_view s) g (use_of u) (mmio_pool x y)) (range_pooled u mmio _ r.mmio (spans_apart (mmio_pool x y)) (admit_one (pools_of (state_view s) (use_of u)) _ f.0 r.mmio (told u mmio _ _ r.mmio a.mmio)))
  decided (C.Pool u (P.Pio x y)) f r = λ a. settled _ _ _ (serve_pool (state_view s) g (use_of u) (pio_pool x y)) (range_pooled u pio _ r.pio (spans_apart (pio_pool x y)) (admit_one (pools_of (state_view s) (use_of u)) _ f.0 r.pio (told u pio _ _ r.pio a.pio)))
  decided (C.Pool u (P.Host x y)) f r = λ a. settled _ _ _ (serve_pool (state_view s) g (use_of u) (host_pool x y)) (range_pooled u host _ r.host (spans_apart (host_pool x y)) (admit_one (pools_of (state_view s) (use_of u)) _ f.0 r.host (told u host _ _ r.host a.host)))
  decided (C.Pool u (P.Input o x y)) f r = λ a. settled _ _ _ (serve_pool (state_view s) g (use_of u) (input_pool o x y)) (range_pooled u input _ r.input (spans_apart (input_pool o x y)) (admit_one (pools_of (state_view s) (use_of u)) _ f.0 r.input (told u input _ _ r.input a.input)))
  decided (C.Pool u (P.Msi o i x y z)) f r = λ a.
      settled _ _ _ (serve_pool (state_view s) g (use_of u) (msi_pool o i x.start.0 x.end.0 y.start.0 y.end.0 z.start.0 z.end.0))
      (pooled s u (pool_adds u (P.Msi o i x y z)) (three _ _ _) (device ∷ event ∷ lpi ∷ []) (earlier_of r.device (earlier_of r.event r.lpi)) (puts_domain u _ _ _) (every _ tt tt tt tt tt tt tt) (every _ refl refl refl refl refl refl refl)
      (spans_apart (msi_pool o i x.start.0 x.end.0 y.start.0 y.end.0 z.start.0 z.end.0))
      (admit_more pools _ f.0 r.device (told u device _ _ r.device a.device) _ _ (admit_more pools _ f.1.0 r.event (told u event _ _ r.event a.event) _ _ (admit_one pools _ f.1.1.0 r.lpi (told u lpi _ _ r.lpi a.lpi)))))
    where
      pools : Kind → List Span
      pools = pools_of (state_view s) (use_of u)
  decided (C.Hold o (H.Mmio x y)) f r = λ a. settled _ _ _ (serve_hold (state_view s) g o (hold_call (H.Mmio x y)))
      (one_reserved s _ mmio r.mmio _ (λ u k. refl) (every _ refl refl refl refl refl refl refl) (λ p. every _ p tt tt tt tt tt tt) a.mmio.1 (told_as mmio _ _ (f.0 refl) r.mmio a.mmio.0))
  decided (C.Hold o (H.Pio x y)) f r = λ a. settled _ _ _ (serve_hold (state_view s) g o (hold_call (H.Pio x y)))
      (one_reserved s _ pio r.pio _ (λ u k. refl) (every _ refl refl refl refl refl refl refl) (λ p. every _ tt p tt tt tt tt tt) a.pio.1 (told_as pio _ _ (f.0 refl) r.pio a.pio.0))
  decided (C.Hold o (H.Host x y)) f r = λ a. settled _ _ _ (serve_hold (state_view s) g o (hold_call (H.Host x y)))
      (one_reserved s _ host r.host _ (λ u k. refl) (every _ refl refl refl refl refl refl refl) (λ p. every _ tt tt tt p tt tt tt) a.host.1 (told_as host _ _ (f.0 refl) r.host a.host.0))
  decided (C.Hold o (H.Devices c i x)) f r = λ a. settled _ _ _ (serve_hold (state_view s) g o (hold_call (H.Devices c i x)))
      (one_reserved s _ device r.device _ (λ u k. refl) (every _ refl refl refl refl refl refl refl) (λ p. every _ tt tt tt tt p tt tt) a.device.1 (told_as device _ _ (f.0 refl) r.device a.device.0))
  decided (C.Hold o (H.Events c i v x)) f r = λ a. settled _ _ _ (serve_hold (state_view s) g o (hold_call (H.Events c i v x)))
      (one_reserved s _ event r.event _ (λ u k. refl) (every _ refl refl refl refl refl refl refl) (λ p. every _ tt tt tt tt tt p tt) a.event.1 (told_as event _ _ (f.0 refl) r.event a.event.0))
  decided (C.Hold o (H.Lpis c x)) f r = λ a. settled _ _ _ (serve_hold (state_view s) g o (hold_call (H.Lpis c x)))
      (one_reserved s _ lpi r.lpi _ (λ u k. refl) (every _ refl refl refl refl refl refl refl) (λ p. every _ tt tt tt tt tt tt p) a.lpi.1 (told_as lpi _ _ (f.0 refl) r.lpi a.lpi.0))
  decided (C.Hold o (H.Input c n t x)) f r = λ a. settled _ _ _ (serve_hold (state_view s) g o (hold_call (H.Input c n t x)))
      (one_reserved s _ input r.input _ (λ u k. refl) (every _ refl refl refl refl refl refl refl) (λ p. every _ tt tt p tt tt tt tt) a.input.1 a.input.0)
  decided (C.Hold o (H.Pair c n t x)) f r = λ a. settled _ _ _ (serve_hold (state_view s) g o (hold_call (H.Pair c n t x)))
      (pair_reserved s _ _ r.input r.host a.input.0 (told_as host _ _ (f.1.0 refl) r.host a.host.0) a.input.1 a.host.1)
  decided C.Start f r = tt
  decided (C.Want w) f r = tt
  decided C.Bad f r = tt

  pub decides : (c : Call) (q : Adds) → Some q ≡ adds_of c → FitCall c → (r : Replies) → AllTell s q r → Decides s c (verdict_of q r)
  decides c q e f r a = subst (Looking c r) (sym e) (decided c f r) a
