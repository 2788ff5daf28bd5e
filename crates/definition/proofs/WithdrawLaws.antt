-- Laws of a withdrawal: what it answers, that the tables stay sound, what is left of them, and that the rows can be taken out where they stand. Assumes nothing.
use Rattle.std.specs.Prelude.{◌≡◌, refl, ◌⊎◌, Bool, true, false, not, ℕ, zero, suc, ◌+◌, ◌-◌, ◌≤◌, ◌<◌, max, length, take, drop, replicate, T}
use Rattle.std.proofs.Common.{sym, ◌∙◌, inl, inr, arith}
use Rattle.std.proofs.Math.Path.{ap}
use mathlib.Core.List.{List, [], ◌∷◌, ◌++◌, append_assoc, Memᴰ}
use Rattle.std.proofs.Math.ListN.{length-append}
use Rattle.definition.specs.Base.{any_of, only_of, Refusal, malformed, bad_input, not_found, tell, Answer, refused, require}
use Rattle.definition.proofs.BaseLaws.{and_l, and_r, →not_T, either, in_any, any_in}
use Rattle.definition.proofs.OnlyLaws.{only_all, only_few, only_fewer, only_goods_behind, only_pairs_behind}
use Rattle.definition.specs.Tables.{row_limit, Kind, kinds, Row, same_row, Table, used, blank_row, good_row, clash, begins}
use Rattle.definition.specs.Calls.{State, held_of, owners_of, sound, saying, filled, settle}
use Rattle.definition.specs.Withdraw.{granted_in, owned_by, holds_grant, without, withdrawing, a_requester, withdraw}
use Rattle.definition.specs.Cut.{staying, close_to}
use Rattle.definition.proofs.RowLaws.{every_kind, row_eq, row_refl}
use Rattle.definition.proofs.RequestLaws.{required}
use Rattle.definition.proofs.TableLaws.{table_length, take_front, drop_front, filled_used, filled_sound, filled_same}
use Rattle.definition.proofs.StateLaws.{Sound, SoundFor, sound_for, for_sound, sound_saying, begins_refl, begins_append}

-- ---- what is left

-- IN 02'S WORDS: the reservations, whoever owns them, and behind them the other granted rows, in their order
pub withdrawing_rows : (q : ℕ) (s : State) (k : Kind) → owners_of (withdrawing q s) k ≡ held_of s k ++ only_of (λ r. not (owned_by q r)) (drop (s.held k).count (owners_of s k))
withdrawing_rows q s k = filled_used row_limit (blank_row k) (without q s k)

-- ---- what is answered

denied : {A : Type 0} (b : Bool) (x : Refusal) (a : Answer A) → (T b → ⊥) → require b x a ≡ refused x
unfolding require
denied true x a u = absurd (u tt)
denied false x a u = refl

module _ (q : ℕ) (s : State) where
  pub withdraw_malformed : (T (sound kinds s) → ⊥) → withdraw q s ≡ saying (tell 0 malformed) s
  unfolding withdraw
  withdraw_malformed u = ap (settle s) (denied (sound kinds s) malformed _ u)

  module _ (sounds : T (sound kinds s)) where
    judging : (a : Answer State) → require (sound kinds s) malformed a ≡ a
    judging a = required (sound kinds s) malformed a sounds

    pub withdraw_nobody : (T (a_requester q) → ⊥) → withdraw q s ≡ saying (tell 0 bad_input) s
    unfolding withdraw
    withdraw_nobody u = ap (settle s) (judging _ ∙ denied (a_requester q) bad_input _ u)

    pub withdraw_none : T (a_requester q) → (T (any_of (holds_grant q s) kinds) → ⊥) → withdraw q s ≡ saying (tell 0 not_found) s
    unfolding withdraw
    withdraw_none t u = ap (settle s) (judging _ ∙ required (a_requester q) bad_input _ t ∙ denied (any_of (holds_grant q s) kinds) not_found _ u)

    pub withdraw_takes : T (a_requester q) → T (any_of (holds_grant q s) kinds) → withdraw q s ≡ withdrawing q s
    unfolding withdraw
    withdraw_takes t h = ap (settle s) (judging _ ∙ required (a_requester q) bad_input _ t ∙ required (any_of (holds_grant q s) kinds) not_found _ h)

-- THE ANSWERS of a withdrawal, and the state with each: the five numbers alone, or the requester's rows gone
pub data Withdraws (q : ℕ) (s : State) : State → Type 0 where
  unsound : (T (sound kinds s) → ⊥) → Withdraws q s (saying (tell 0 malformed) s)
  nobody : T (sound kinds s) → (T (a_requester q) → ⊥) → Withdraws q s (saying (tell 0 bad_input) s)
  not_found_when : T (sound kinds s) → T (a_requester q) → ((k : Kind) (r : Row) → Memᴰ r (granted_in s k) → T (owned_by q r) → ⊥) → Withdraws q s (saying (tell 0 not_found) s)
  gone : T (sound kinds s) → T (a_requester q) → (k : Kind) (r : Row) → Memᴰ r (granted_in s k) → T (owned_by q r) → Withdraws q s (withdrawing q s)

pub withdraw_says : (q : ℕ) (s : State) → Withdraws q s (withdraw q s)
unfolding holds_grant
withdraw_says q s = judged (either (sound kinds s))
  where
    found : T (sound kinds s) → T (a_requester q) → T (any_of (holds_grant q s) kinds) ⊎ (T (any_of (holds_grant q s) kinds) → ⊥) → Withdraws q s (withdraw q s)
    found t a (inl h) =
        let (k, m, g) = any_in (holds_grant q s) kinds h in
        let (r, n, o) = any_in (owned_by q) (granted_in s k) g in
        rw (withdraw_takes q s t a h) (gone t a k r n o)
    found t a (inr u) = rw (withdraw_none q s t a u) (not_found_when t a (λ k r n o. u (in_any (holds_grant q s) (every_kind k) (in_any (owned_by q) n o))))

    asked : T (sound kinds s) → T (a_requester q) ⊎ (T (a_requester q) → ⊥) → Withdraws q s (withdraw q s)
    asked t (inl a) = found t a (either (any_of (holds_grant q s) kinds))
    asked t (inr u) = rw (withdraw_nobody q s t u) (nobody t u)

    judged : T (sound kinds s) ⊎ (T (sound kinds s) → ⊥) → Withdraws q s (withdraw q s)
    judged (inl t) = asked t (either (a_requester q))
    judged (inr u) = rw (withdraw_malformed q s u) (unsound u)

-- ---- sound tables: the reservations, then the granted rows

begins_split : (hs rs : List Row) → T (begins hs rs) → rs ≡ hs ++ drop (length hs) rs
unfolding begins
begins_split [] rs t = refl
begins_split (h ∷ hs) [] t = absurd t
begins_split (h ∷ hs) (r ∷ rs) t =
    let e : h ≡ r = row_eq h r (and_l (same_row h r) (begins hs rs) t) in
    λ i. sym e i ∷ begins_split hs rs (and_r (same_row h r) (begins hs rs) t) i

module _ (s : State) (k : Kind) (h : Sound s k) where
  abbrev b : Row
  b = blank_row k

  pub held_length : length (held_of s k) ≡ (s.held k).count
  held_length = table_length row_limit (same_row b) (good_row k) _ (s.held k) h.given.held

  pub owners_parts : owners_of s k ≡ held_of s k ++ granted_in s k
  owners_parts = begins_split (held_of s k) (owners_of s k) h.begin ∙ ap (λ n. held_of s k ++ drop n (owners_of s k)) held_length

  owners_length : length (held_of s k) + length (granted_in s k) ≡ (s.owners k).count
  owners_length = sym (length-append (held_of s k) (granted_in s k)) ∙ sym (ap length owners_parts) ∙ table_length row_limit (same_row b) (good_row k) _ (s.owners k) h.owners

  -- the table is these rows, and zeros
  pub owners_filled : filled row_limit b (held_of s k ++ granted_in s k) ≡ s.owners k
  owners_filled = sym (ap (filled row_limit b) owners_parts) ∙ filled_same row_limit (same_row b) b (λ x t. sym (row_eq b x t)) (s.owners k) h.owners.tidied

  -- ---- what is left is sound

  module _ (q : ℕ) where
    abbrev other : Row → Bool
    other r = not (owned_by q r)

    without_few : length (without q s k) ≤ row_limit
    without_few = omega (arith, length-append (held_of s k) (only_of other (granted_in s k)), only_few other (granted_in s k), owners_length, h.owners.tidied.within)

    pub withdrawing_sound : Sound (withdrawing q s) k
    withdrawing_sound = record {
      given = record { pools = h.given.pools; held = h.given.held };
      owners = filled_sound row_limit (same_row b) (good_row k) (λ x y. not (clash x y)) b (row_refl b) (without q s k) without_few
          (only_goods_behind other (good_row k) (held_of s k) (granted_in s k) (rw owners_parts at h.owners.goods))
          (only_pairs_behind other (λ x y. not (clash x y)) (held_of s k) (granted_in s k) (rw owners_parts at h.owners.pairs));
      begin = rw (withdrawing_rows q s k) (begins_append (held_of s k) (held_of s k) (only_of other (granted_in s k)) (begins_refl (held_of s k)));
    }

    -- nothing granted to it: the table stays
    without_none : (T (holds_grant q s k) → ⊥) → filled row_limit b (without q s k) ≡ s.owners k
    unfolding holds_grant
    without_none u =
        ap (λ rs. filled row_limit b (held_of s k ++ rs)) (only_all other (granted_in s k) (λ r m. →not_T (owned_by q r) (λ o. u (in_any (owned_by q) m o)))) ∙ owners_filled

    -- .. or it becomes shorter
    without_shorter : T (holds_grant q s k) → length (without q s k) < (s.owners k).count
    unfolding holds_grant
    without_shorter t = omega (arith, length-append (held_of s k) (only_of other (granted_in s k)), only_fewer (owned_by q) (granted_in s k) t, owners_length)

-- ---- a withdrawal leaves sound tables sound

pub withdraw_sound : (q : ℕ) (s : State) → T (sound kinds s) → T (sound kinds (withdraw q s))
withdraw_sound q s t = go (withdraw_says q s)
  where
    h : SoundFor kinds s
    h = sound_for kinds s t

    same : (x : Refusal) → T (sound kinds (saying (tell 0 x) s))
    same x = for_sound kinds (saying (tell 0 x) s) (λ k m. sound_saying (tell 0 x) s k (h k m))

    go : {s' : State} → Withdraws q s s' → T (sound kinds s')
    go (unsound u) = same malformed
    go (nobody j u) = same bad_input
    go (not_found_when j a u) = same not_found
    go (gone j a k r m o) = for_sound kinds (withdrawing q s) (λ k m. withdrawing_sound s k (h k m) q)

-- ---- rows taken out where they stand

close_filled : {A : Type 0} (goes : A → Bool) (size : ℕ) (b : A) (hs gs : List A) → length hs + length gs ≤ size
    → close_to goes (length hs) b (filled size b (hs ++ gs)) ≡ filled size b (hs ++ only_of (λ r. not (goes r)) gs)
unfolding close_to
close_filled {A} goes size b hs gs room = λ i. record { count = counts i; rows = rows i }
  where
    t : Table A
    t = filled size b (hs ++ gs)

    kept : List A
    kept = only_of (λ r. not (goes r)) gs

    rest : ℕ
    rest = size - length (hs ++ gs)

    behind : drop (length hs) (used t) ≡ gs
    behind = ap (drop (length hs)) (filled_used size b (hs ++ gs)) ∙ drop_front hs gs

    stays : staying goes (length hs) t ≡ kept
    stays = ap (only_of (λ r. not (goes r))) behind

    counts : length hs + length (staying goes (length hs) t) ≡ length (hs ++ kept)
    counts = ap (λ xs. length hs + length xs) stays ∙ sym (length-append hs kept)

    first : take (length hs) t.rows ≡ hs
    first = ap (take (length hs)) (append_assoc hs gs (replicate rest b)) ∙ take_front hs (gs ++ replicate rest b)

    last : drop (max (length hs) t.count) t.rows ≡ replicate rest b
    last =
        let e : max (length hs) (length (hs ++ gs)) ≡ length (hs ++ gs) = omega (arith, length-append hs gs) in
        ap (λ n. drop n t.rows) e ∙ drop_front (hs ++ gs) (replicate rest b)

    more : (m n : ℕ) → replicate m b ++ replicate n b ≡ replicate (m + n) b
    more zero n = let e : n ≡ 0 + n = omega arith in ap (λ j. replicate j b) e
    more (suc m) n = let e : suc (m + n) ≡ suc m + n = omega arith in ap {B = List A} (λ xs. b ∷ xs) (more m n) ∙ ap (λ j. replicate j b) e

    zeros : length gs - length kept + rest ≡ size - length (hs ++ kept)
    zeros = omega (arith, length-append hs gs, length-append hs kept, only_few (λ r. not (goes r)) gs)

    rows : take (length hs) t.rows ++ (staying goes (length hs) t ++ (replicate (length (drop (length hs) (used t)) - length (staying goes (length hs) t)) b ++ drop (max (length hs) t.count) t.rows))
        ≡ (hs ++ kept) ++ replicate (size - length (hs ++ kept)) b
    rows =
        (λ i. first i ++ (stays i ++ (replicate (length (behind i) - length (stays i)) b ++ last i)))
        ∙ ap (λ xs. hs ++ (kept ++ xs)) (more (length gs - length kept) rest ∙ ap (λ j. replicate j b) zeros) ∙ sym (append_assoc hs kept (replicate (size - length (hs ++ kept)) b))

module _ (q : ℕ) (s : State) (sounds : T (sound kinds s)) (k : Kind) where
  abbrev here : Sound s k
  here = sound_for kinds s sounds k (every_kind k)

  -- from as many rows on as there are reservations, those that the requester owns
  pub close_withdraws : close_to (owned_by q) (s.held k).count (blank_row k) (s.owners k) ≡ filled row_limit (blank_row k) (without q s k)
  close_withdraws =
      (λ i. close_to (owned_by q) (sym (held_length s k here) i) (blank_row k) (sym (owners_filled s k here) i))
      ∙ close_filled (owned_by q) row_limit (blank_row k) (held_of s k) (granted_in s k) (omega (arith, owners_length s k here, here.owners.tidied.within))

  pub close_none : (T (holds_grant q s k) → ⊥) → close_to (owned_by q) (s.held k).count (blank_row k) (s.owners k) ≡ s.owners k
  close_none u = close_withdraws ∙ without_none s k here q u

  pub close_shorter : T (holds_grant q s k) → (close_to (owned_by q) (s.held k).count (blank_row k) (s.owners k)).count < (s.owners k).count
  close_shorter t = rw close_withdraws (without_shorter s k here q t)
