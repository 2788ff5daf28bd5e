-- When an automatic MSI request is Exhausted, and in which namespace: exactly when a turn finds none. Assumes nothing.
use Rattle.std.specs.Prelude.{◌≡◌, refl, ◌⊎◌, List, ℕ}
use Rattle.std.proofs.Common.{subst, inl, inr, arith}
use Rattle.definition.specs.Base.{exhausted, Answer, refused}
use Rattle.definition.specs.Pools.{Holders, Claim}
use Rattle.definition.specs.Request.{Need, Pools}
use Rattle.definition.proofs.AutoLaws.{Usable}
use Rattle.definition.proofs.MsiTurnLaws.{device_need, event_need, lpi_need}
use Rattle.definition.proofs.MsiLaws.{Least, None, LeastDevice, LeastEvent, MsiSays, all_least, no_device, no_event, no_lpi}

module _ (P : Pools) (S : Holders) (q k i n : ℕ) where
  least_one : (m : Need) (b c : ℕ) → Least P S m b → Least P S m c → b ≡ c
  least_one m b c (ub, lb) (uc, lc) = omega (arith, lb c uc, lc b ub)

  -- namespace 5: no device at all, or none of the least device's events
  abbrev pub NoneInFive : Type 0
  NoneInFive = None P S (device_need k i q) ⊎ ((d : ℕ) × LeastDevice P S q k i n d × None P S (event_need k i d n q))

  -- namespace 6: both stand, and no LPIs
  abbrev pub NoneInSix : Type 0
  NoneInSix = (d : ℕ) × (e : ℕ) × LeastDevice P S q k i n d × LeastEvent P S q k i n d e × None P S (lpi_need k n q)

  pub five_says : {a : Answer (List Claim)} → MsiSays P S q k i n a → a ≡ refused (exhausted 5) → NoneInFive
  five_says (all_least d e l hd he hl) z = let y : ◌≡◌ {A = ℕ} 0 1 = cc in absurd (omega arith)
  five_says (no_device u) z = inl u
  five_says (no_event d hd u) z = inr (d, hd, u)
  five_says (no_lpi d e hd he u) z = let y : ◌≡◌ {A = ℕ} 6 5 = cc in absurd (omega arith)

  pub says_five : {a : Answer (List Claim)} → MsiSays P S q k i n a → NoneInFive → a ≡ refused (exhausted 5)
  says_five (no_device u) z = refl
  says_five (no_event d hd u) z = refl
  says_five (all_least d e l hd he hl) (inl u) = absurd (u d hd.0)
  says_five (all_least d e l hd he hl) (inr (c, hc, u)) = absurd (u e (subst (λ x. Usable P S (event_need k i x n q) e) (least_one (device_need k i q) d c hd hc) he.0))
  says_five (no_lpi d e hd he v) (inl u) = absurd (u d hd.0)
  says_five (no_lpi d e hd he v) (inr (c, hc, u)) = absurd (u e (subst (λ x. Usable P S (event_need k i x n q) e) (least_one (device_need k i q) d c hd hc) he.0))

  pub six_says : {a : Answer (List Claim)} → MsiSays P S q k i n a → a ≡ refused (exhausted 6) → NoneInSix
  six_says (all_least d e l hd he hl) z = let y : ◌≡◌ {A = ℕ} 0 1 = cc in absurd (omega arith)
  six_says (no_device u) z = let y : ◌≡◌ {A = ℕ} 5 6 = cc in absurd (omega arith)
  six_says (no_event d hd u) z = let y : ◌≡◌ {A = ℕ} 5 6 = cc in absurd (omega arith)
  six_says (no_lpi d e hd he u) z = (d, e, hd, he, u)

  pub says_six : {a : Answer (List Claim)} → MsiSays P S q k i n a → NoneInSix → a ≡ refused (exhausted 6)
  says_six (all_least d e l hd he hl) (c, f, hc, hf, u) = absurd (u l hl.0)
  says_six (no_device v) (c, f, hc, hf, u) = absurd (v c hc.0)
  says_six (no_event d hd v) (c, f, hc, hf, u) = absurd (v f (subst (λ x. Usable P S (event_need k i x n q) f) (least_one (device_need k i q) c d hc hd) hf.0))
  says_six (no_lpi d e hd he v) z = refl
