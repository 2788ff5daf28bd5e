-- The answer of an MSI call is the definition's on the state that has its tables, and so are the tables afterwards. Assumes nothing.
use mathlib.Core.Path.{◌≡◌, refl, sym, ◌∙◌, ap, ap₂, subst}
use mathlib.Core.Bool.{Bool, true, ◌&&◌}
use mathlib.Core.List.{List}
use Prim.Native.Nat.{ℕ}
use lib.Dec.{T}
use Rattle.definition.specs.Base.{all_of, malformed, bad_input, Said, silence, tell, Answer, require}
use Rattle.definition.proofs.BaseLaws.{and_l, and_r, T_true, true_T, and_true}
use Rattle.definition.specs.Tables.{Kind, mmio, pio, input, host, device, event, lpi, same_kind, Row, Table}
use Rattle.definition.specs.Pools.{Claim, rows_of}
use Rattle.definition.specs.Request.{automatic, fixed, row_at, good_request, resolve}
use Rattle.definition.specs.Request as R
use Rattle.definition.specs.Calls.{State, state, push_all, pools_of, owners_of, sound, sound_at}
use Rattle.definition.proofs.StateLaws.{Sound, SoundPool, sound_says}
use Rattle.tables.specs.Views.{pool_view, ranges_view}
use Rattle.sound.proofs.KindLaws.{set_ranges_is}
use Rattle.choose.specs.Told.{refusal_of}
use Rattle.msi.specs.Msi.{msi_rows, told_msi, asked_msi}
use Rattle.msi.specs.declared.Msi.{Msi}
use Rattle.std.specs.Prelude.{Ok, Err}
use Rattle.decide.specs.Outcome.{after}
use Rattle.decide.proofs.ReadyLaws.{pool_order}
use Rattle.msi.specs.Finds.{Ready}
use Rattle.msi.proofs.ListLaws.{msi_is}
use Rattle.kinds.specs.Got.{claims_got}
use Rattle.kinds.specs.declared.RangeTables.{RangeTables}
use Rattle.kinds.specs.declared.MsiTables.{MsiTables}
use Rattle.kinds.specs.Kinds.{answer_of, asked}
use Rattle.kinds.specs.Msis.{MsiChosen, MsiAnswer, keeping, set_of, set_msi, among_three, msi_state, three, said_msi, bases_said, MsiServed, ServesMsi}
use Rattle.kinds.proofs.KindLaws.{serve_after}

and_parts : (a b c : Bool) → a && (b && c) ≡ true → (a ≡ true) × (b ≡ true) × (c ≡ true)
and_parts a b c e =
    let t : T (a && (b && c)) = true_T (a && (b && c)) e in
    (T_true a (and_l a (b && c) t), T_true b (and_l b c (and_r a (b && c) t)), T_true c (and_r b c (and_r a (b && c) t)))

module _ (t : MsiTables) (i : Said) where
  set_device : sound_at (msi_state t i) device ≡ set_of device t.device
  set_device = set_ranges_is (msi_state t i) device refl _ _ _ _ refl refl refl refl

  set_event : sound_at (msi_state t i) event ≡ set_of event t.event
  set_event = set_ranges_is (msi_state t i) event refl _ _ _ _ refl refl refl refl

  set_lpi : sound_at (msi_state t i) lpi ≡ set_of lpi t.lpi
  set_lpi = set_ranges_is (msi_state t i) lpi refl _ _ _ _ refl refl refl refl

  judged : sound three (msi_state t i) ≡ set_msi t
  unfolding sound all_of set_msi
  judged = ap₂ (λ x y. x && y) set_device (ap₂ (λ x y. x && y) set_event (and_true (sound_at (msi_state t i) lpi) ∙ set_lpi))

-- what a passed test gives the choice
ready : (k : Kind) (t : RangeTables) (v : State) → Sound v k → SoundPool k (pool_view t.auto) → SoundPool k (pool_view t.fixed) → (v.owners k).count ≡ t.owners.n → Ready k t.auto t.fixed t.owners
ready k t v h s g e = record { auto = pool_order k t.auto s; goods = s.goods; fixed = g.tidied.within; rows = rw (← e) h.owners.tidied.within }

pub record MsiPassed (t : MsiTables) : Type 0 where
  pub device : Ready device t.device.auto t.device.fixed t.device.owners
  pub event : Ready event t.event.auto t.event.fixed t.event.owners
  pub lpi : Ready lpi t.lpi.auto t.lpi.fixed t.lpi.owners

pub msi_passed : (t : MsiTables) → set_msi t ≡ true → MsiPassed t
unfolding set_msi
msi_passed t e =
    let p = and_parts (set_of device t.device) (set_of event t.event) (set_of lpi t.lpi) e in
    let v : State = msi_state t silence in
    let d : Sound v device = sound_says v device (true_T (sound_at v device) (set_device t silence ∙ p.0)) in
    let f : Sound v event = sound_says v event (true_T (sound_at v event) (set_event t silence ∙ p.1)) in
    let l : Sound v lpi = sound_says v lpi (true_T (sound_at v lpi) (set_lpi t silence ∙ p.2)) in
    record {
      device = ready device t.device v d (d.given.pools automatic) (d.given.pools fixed) refl;
      event = ready event t.event v f (f.given.pools automatic) (f.given.pools fixed) refl;
      lpi = ready lpi t.lpi v l (l.given.pools automatic) (l.given.pools fixed) refl;
    }

-- the state afterwards
msi_after : (t : MsiTables) (x y z : Table Row) (m : Msi) (c : MsiChosen) (i : Said)
    → x ≡ push_all (ranges_view t.device.owners) (rows_of device (claims_got (told_msi m c)))
    → y ≡ push_all (ranges_view t.event.owners) (rows_of event (claims_got (told_msi m c)))
    → z ≡ push_all (ranges_view t.lpi.owners) (rows_of lpi (claims_got (told_msi m c)))
    → state (msi_state t i).pools (msi_state t i).held (among_three x y z (λ j. (msi_state t i).owners j)) (said_msi c) ≡ after (msi_state t i) (told_msi m c)
unfolding push_all rows_of same_kind
msi_after t x y z m (Err w) i p q r = λ d. state (msi_state t i).pools (msi_state t i).held (λ j. go j d) (tell 0 (refusal_of w))
  where
    go : (j : Kind) → among_three x y z (λ j. (msi_state t i).owners j) j ≡ (msi_state t i).owners j
    go mmio = refl
    go pio = refl
    go input = refl
    go host = refl
    go device = p
    go event = q
    go lpi = r
msi_after t x y z m (Ok ids) i p q r = λ h. state (msi_state t i).pools (msi_state t i).held (λ j. go j h) silence
  where
    go : (j : Kind) → among_three x y z (λ j. (msi_state t i).owners j) j ≡ push_all ((msi_state t i).owners j) (rows_of j (msi_rows m ids.device ids.event ids.lpi))
    go mmio = refl
    go pio = refl
    go input = refl
    go host = refl
    go device = p
    go event = q
    go lpi = r

bases_said_is : (m : Msi) (c : MsiChosen) (a : Answer (List Claim)) → told_msi m c ≡ a → bases_said a c
unfolding row_at
bases_said_is m (Ok ids) a h = subst (λ (x : Answer (List Claim)). bases_said x (Ok ids)) h (refl, refl, refl)
bases_said_is m (Err y) a h = subst (λ (x : Answer (List Claim)). bases_said x (Err y)) h refl

module _ (t : MsiTables) (m : Msi) (r : MsiAnswer) (s : ℕ) where
  abbrev q : R.Request
  q = asked m.requester s (asked_msi m)

  answered : (i : Said) → MsiServed t (good_request q) m r → told_msi m r.chosen ≡ answer_of three q (msi_state t i)
  unfolding resolve
  answered i h =
      h.answer
      ∙ ap₂ (λ (b : Bool) (x : Answer (List Claim)). require b malformed (require (good_request q) bad_input x)) (sym (judged t i)) (sym (msi_is m (pools_of (msi_state t i)) (owners_of (msi_state t i))))

  kept : (w : Said) → MsiServed t (good_request q) m r
      → msi_state r.tables w ≡ state (msi_state t w).pools (msi_state t w).held (among_three (ranges_view r.tables.device.owners) (ranges_view r.tables.event.owners) (ranges_view r.tables.lpi.owners) (λ j. (msi_state t w).owners j)) w
  kept w h = (λ d. msi_state (record { device = h.device_kept d; event = h.event_kept d; lpi = h.lpi_kept d }) w) ∙ (λ d. state (msi_state t w).pools (msi_state t w).held (λ j. go j d) w)
    where
      o : MsiTables
      o = record { device = keeping t.device r.tables.device.owners; event = keeping t.event r.tables.event.owners; lpi = keeping t.lpi r.tables.lpi.owners }

      go : (j : Kind) → (msi_state o w).owners j ≡ among_three (ranges_view r.tables.device.owners) (ranges_view r.tables.event.owners) (ranges_view r.tables.lpi.owners) (λ j. (msi_state t w).owners j) j
      go mmio = refl
      go pio = refl
      go input = refl
      go host = refl
      go device = refl
      go event = refl
      go lpi = refl

  pub msi_serves : MsiServed t (good_request q) m r → ServesMsi t m.requester s (asked_msi m) r
  msi_serves h =
      record {
        tables = λ i. kept (said_msi r.chosen) h ∙ msi_after t _ _ _ m r.chosen i h.devices h.events h.lpis ∙ ap (after (msi_state t i)) (answered i h) ∙ serve_after three q (msi_state t i);
        answer = λ i. bases_said_is m r.chosen _ (answered i h);
      }
