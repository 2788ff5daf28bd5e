-- Soundness of the state: the fresh state is sound, and every call, accepted or refused, leaves sound what it judged. Assumes nothing.
use Rattle.std.specs.Prelude.{◌≡◌, refl, Bool, true, false, ◌&&◌, ℕ, ◌+◌, ◌≤◌, length, leb}
use Rattle.std.proofs.Common.{sym, ap, ◌∙◌, arith, leb→le}
use Rattle.std.proofs.Math.Bool.{not}
use mathlib.Core.List.{List, [], ◌∷◌, ◌++◌, Memᴰ}
use Rattle.std.proofs.Math.Dec.{T}
use Rattle.definition.specs.Base.{all_of, pairs_of, malformed, Said, silence, tell, Answer, accepted, refused, require, ◌then◌}
use Rattle.definition.proofs.BaseLaws.{and_l, and_r, and_i, and_false, T_false, →not_T, not_T→, all_in, all_from}
use Rattle.definition.specs.Tables.{pool_limit, row_limit, Kind, nature, same_kind, Span, same_span, Row, same_row, meets, clash, Table, used, blank_span, blank_row, fits_span, floored, good_row, good_span, begins, in_order, sound_pool, sound_held, sound_owners}
use Rattle.definition.specs.Pools.{In, spans, Pool, entered, admit, Claim, rows_of, ◌⊕◌, Hold, held_rows, reserve}
use Rattle.definition.specs.Request.{Request, Use, automatic, fixed, kinds_of, resolve}
use Rattle.definition.specs.Calls.{State, fresh, pools_of, held_of, owners_of, given_at, sound_at, given, sound, saying, holding, granting, starting, stored, same_use, pooling, entering, Call, pool, hold, start, want, settle, serve}
use Rattle.definition.proofs.RowLaws.{same_kind_equal, row_refl, span_refl, clash_meets, meets_sym}
use Rattle.definition.proofs.ClaimLaws.{other_kind, apart_kinds, goods_added, pairs_added, fits_one}
use Rattle.definition.proofs.RequestLaws.{required, SoundRows}
use Rattle.definition.proofs.ResolveLaws.{Ground, Resolved, resolved, rows_kept}
use Rattle.definition.proofs.TableLaws.{SoundTable, table_says, says_table, table_length, table_grown, table_fresh, stored_sound}
use Rattle.definition.proofs.PoolLaws.{SoundSpans, entered_sound, Admitted, admit_says, spans_apart, Reserved, reserve_says, held_apart}

-- ---- what the tests say

abbrev pub SoundPool : Kind → Table Span → Type 0
SoundPool k = SoundTable pool_limit (same_span blank_span) (good_span k) in_order

abbrev pub SoundHeld : Kind → Table Row → Type 0
SoundHeld k = SoundTable row_limit (same_row (blank_row k)) (good_row k) (λ a b. not (meets a b))

abbrev pub SoundOwners : Kind → Table Row → Type 0
SoundOwners k = SoundTable row_limit (same_row (blank_row k)) (good_row k) (λ a b. not (clash a b))

-- the pools and the reservations of one kind are sound
pub record Given (s : State) (k : Kind) : Type 0 where
  pub pools : (u : Use) → SoundPool k (s.pools u k)
  pub held : SoundHeld k (s.held k)

-- .. and its owners
pub record Sound (s : State) (k : Kind) : Type 0 where
  pub given : Given s k
  pub owners : SoundOwners k (s.owners k)
  pub begin : T (begins (held_of s k) (owners_of s k))

module _ (s : State) (k : Kind) where
  pub given_says : T (given_at s k) → Given s k
  unfolding given_at
  given_says t =
      let t₁ : T (sound_pool k (s.pools automatic k)) = search (and_l, and_r) in
      let t₂ : T (sound_pool k (s.pools fixed k)) = search (and_l, and_r) in
      let t₃ : T (sound_held k (s.held k)) = search (and_l, and_r) in
      record { pools = both t₁ t₂; held = table_says row_limit (same_row (blank_row k)) (good_row k) (λ a b. not (meets a b)) (s.held k) t₃ }
    where
      both : T (sound_pool k (s.pools automatic k)) → T (sound_pool k (s.pools fixed k)) → (u : Use) → SoundPool k (s.pools u k)
      both t₁ t₂ automatic = table_says pool_limit (same_span blank_span) (good_span k) in_order (s.pools automatic k) t₁
      both t₁ t₂ fixed = table_says pool_limit (same_span blank_span) (good_span k) in_order (s.pools fixed k) t₂

  pub says_given : Given s k → T (given_at s k)
  unfolding given_at
  says_given g =
      let t₁ : T (sound_pool k (s.pools automatic k)) = says_table pool_limit (same_span blank_span) (good_span k) in_order (s.pools automatic k) (g.pools automatic) in
      let t₂ : T (sound_pool k (s.pools fixed k)) = says_table pool_limit (same_span blank_span) (good_span k) in_order (s.pools fixed k) (g.pools fixed) in
      let t₃ : T (sound_held k (s.held k)) = says_table row_limit (same_row (blank_row k)) (good_row k) (λ a b. not (meets a b)) (s.held k) g.held in
      search (and_i)

  pub sound_says : T (sound_at s k) → Sound s k
  unfolding sound_at
  sound_says t =
      let t₁ : T (given_at s k) = search (and_l, and_r) in
      let t₂ : T (sound_owners k (s.owners k)) = search (and_l, and_r) in
      record { given = given_says t₁; owners = table_says row_limit (same_row (blank_row k)) (good_row k) (λ a b. not (clash a b)) (s.owners k) t₂; begin = search (and_l, and_r) }

  pub says_sound : Sound s k → T (sound_at s k)
  unfolding sound_at
  says_sound h =
      let t₁ : T (given_at s k) = says_given h.given in
      let t₂ : T (sound_owners k (s.owners k)) = says_table row_limit (same_row (blank_row k)) (good_row k) (λ a b. not (clash a b)) (s.owners k) h.owners in
      let t₃ : T (begins (held_of s k) (owners_of s k)) = h.begin in
      search (and_i)

-- the five numbers beside the tables are not judged
pub given_saying : (w : Said) (s : State) (k : Kind) → Given s k → Given (saying w s) k
given_saying w s k g = record { pools = g.pools; held = g.held }

pub sound_saying : (w : Said) (s : State) (k : Kind) → Sound s k → Sound (saying w s) k
sound_saying w s k h = record { given = given_saying w s k h.given; owners = h.owners; begin = h.begin }

-- of the kinds judged
abbrev pub GivenFor : List Kind → State → Type 0
GivenFor ks s = (k : Kind) → Memᴰ k ks → Given s k

abbrev pub SoundFor : List Kind → State → Type 0
SoundFor ks s = (k : Kind) → Memᴰ k ks → Sound s k

pub given_for : (ks : List Kind) (s : State) → T (given ks s) → GivenFor ks s
unfolding given
given_for ks s t k m = given_says s k (all_in (given_at s) m t)

pub for_given : (ks : List Kind) (s : State) → GivenFor ks s → T (given ks s)
unfolding given
for_given ks s g = all_from (given_at s) ks (λ k m. says_given s k (g k m))

pub sound_for : (ks : List Kind) (s : State) → T (sound ks s) → SoundFor ks s
unfolding sound
sound_for ks s t k m = sound_says s k (all_in (sound_at s) m t)

pub for_sound : (ks : List Kind) (s : State) → SoundFor ks s → T (sound ks s)
unfolding sound
for_sound ks s g = all_from (sound_at s) ks (λ k m. says_sound s k (g k m))

-- ---- the fresh state

pub fresh_sound : (ks : List Kind) → T (sound ks fresh)
unfolding begins
fresh_sound ks = for_sound ks fresh (λ k m. record {
  given = record {
    pools = λ u. table_fresh pool_limit (same_span blank_span) (good_span k) in_order blank_span (span_refl blank_span);
    held = table_fresh row_limit (same_row (blank_row k)) (good_row k) (λ a b. not (meets a b)) (blank_row k) (row_refl (blank_row k));
  };
  owners = table_fresh row_limit (same_row (blank_row k)) (good_row k) (λ a b. not (clash a b)) (blank_row k) (row_refl (blank_row k));
  begin = tt;
})

-- ---- adding pool ranges

chosen : (b : Bool) (x y : Table Span) (Q : Table Span → Type 0) → (T b → Q x) → Q y → Q (elim b [ true ↦ x | false ↦ y ])
chosen true x y Q f g = f tt
chosen false x y Q f g = g

pub pool_spans : (k : Kind) (t : Table Span) → SoundPool k t → SoundSpans k (used t)
pool_spans k t s = record {
  few = omega (arith, table_length pool_limit (same_span blank_span) (good_span k) in_order t s, s.tidied.within);
  goods = s.goods;
  order = s.pairs;
}

pooling_given : (u : Use) (j : Kind) (ps : List Span) (s : State) (k : Kind) → Given s k → (T (same_kind k j) → SoundSpans k ps) → Given (pooling u j ps s) k
pooling_given u j ps s k g f = record { pools = λ v. go v u; held = g.held }
  where
    new : T (same_kind k j) → SoundPool k (stored ps)
    new t = stored_sound k ps (f t).few (f t).goods (f t).order

    go : (v w : Use) → SoundPool k (elim (same_use v w && same_kind k j) [ true ↦ stored ps | false ↦ s.pools v k ])
    go automatic automatic = chosen (same_kind k j) (stored ps) (s.pools automatic k) (SoundPool k) new (g.pools automatic)
    go automatic fixed = g.pools automatic
    go fixed automatic = g.pools fixed
    go fixed fixed = chosen (same_kind k j) (stored ps) (s.pools fixed k) (SoundPool k) new (g.pools fixed)

-- the tables of the other kinds are as they were
pub pooling_other : (u : Use) (j : Kind) (ps : List Span) (s : State) (v : Use) (k : Kind) → (k ≡ j → ⊥) → (pooling u j ps s).pools v k ≡ s.pools v k
pooling_other u j ps s v k n =
    ap (λ (b : Bool). elim b [ true ↦ stored ps | false ↦ s.pools v k ]) (ap (λ b. same_use v u && b) (T_false (same_kind k j) (λ t. n (same_kind_equal k j t))) ∙ and_false (same_use v u))

-- pools change, and nothing else
pub record Pooled (ks : List Kind) (s s' : State) : Type 0 where
  pub given : GivenFor ks s'
  pub held : s'.held ≡ s.held
  pub owners : s'.owners ≡ s.owners

pub entering_given : (ks : List Kind) (u : Use) (cs : List (In Span)) (s : State) → T (pairs_of other_kind cs) → Admitted (pools_of s u) cs → GivenFor ks s → Pooled ks s (entering u cs s)
unfolding entering pairs_of
entering_given ks u [] s a o g = record { given = λ k m. given_saying silence s k (g k m); held = refl; owners = refl }
entering_given ks u (c ∷ cs) s a o g =
    let below : Pooled ks next (entering u cs next) = entering_given ks u cs next a₂ rest (λ k m. pooling_given u c.kind rows s k (g k m) (λ t. here k m (same_kind_equal k c.kind t))) in
    record { given = below.given; held = below.held; owners = below.owners }
  where
    rows : List Span
    rows = entered c.row (used (s.pools u c.kind))

    next : State
    next = pooling u c.kind rows s

    a₁ : T (all_of (other_kind c) cs)
    a₁ = and_l (all_of (other_kind c) cs) (pairs_of other_kind cs) a

    a₂ : T (pairs_of other_kind cs)
    a₂ = and_r (all_of (other_kind c) cs) (pairs_of other_kind cs) a

    here : (k : Kind) → Memᴰ k ks → k ≡ c.kind → SoundSpans k rows
    here k m z =
        let h : SoundPool c.kind (s.pools u c.kind) = rw z at ((g k m).pools u) in
        rw z (entered_sound c.kind c.row (used (s.pools u c.kind)) (pool_spans c.kind (s.pools u c.kind) h) (o.goods c (Memᴰ.head refl)) (o.places c (Memᴰ.head refl)))

    -- the other ranges find their tables as they were
    rest : Admitted (pools_of next u) cs
    rest = record {
      goods = λ d m. o.goods d (Memᴰ.tail m);
      places = λ d m. rw (pooling_other u c.kind rows s u d.kind (λ z. apart_kinds c d (all_in (other_kind c) m a₁) (sym z))) (o.places d (Memᴰ.tail m));
    }

-- .. whatever the answer
pub admitted_given : (ks : List Kind) (u : Use) (p : Pool) (s : State) → GivenFor ks s → Pooled ks s (settle s (admit (pools_of s u) (spans p) then λ cs. accepted (entering u cs s)))
admitted_given ks u p s g = go (admit (pools_of s u) (spans p)) refl
  where
    go : (a : Answer (List (In Span))) → admit (pools_of s u) (spans p) ≡ a → Pooled ks s (settle s (a then λ cs. accepted (entering u cs s)))
    go (refused x) e = record { given = λ k m. given_saying (tell 0 x) s k (g k m); held = refl; owners = refl }
    go (accepted cs) e =
        let (z, o) = admit_says (pools_of s u) (spans p) cs e in
        rw (← z) (entering_given ks u (spans p) s (spans_apart p) o g)

-- ---- adding reservations

pub holding_given : (s : State) (cs : List Claim) → T (pairs_of other_kind cs) → Reserved (held_of s) cs → (k : Kind) → Given s k → Given (holding cs s) k
holding_given s cs a r k g = record {
  pools = g.pools;
  held = (table_grown row_limit (same_row (blank_row k)) (good_row k) (λ x y. not (meets x y)) (s.held k) (rows_of k cs) g.held
      (fits_one (held_of s) k cs (omega (arith, table_length row_limit (same_row (blank_row k)) (good_row k) (λ x y. not (meets x y)) (s.held k) g.held, g.held.tidied.within)) a r.has_room)
      (goods_added good_row (held_of s) cs k g.held.goods r.goods)
      (pairs_added (λ x y. not (meets x y)) (held_of s) cs k g.held.pairs a (λ c m x n. →not_T (meets x c.row) (λ t. r.unmet c m x n (meets_sym x c.row t))))).0;
}

-- ---- start

pairs_weaken : {A : Type 0} (p q : A → A → Bool) → ((x y : A) → T (p x y) → T (q x y)) → (xs : List A) → T (pairs_of p xs) → T (pairs_of q xs)
unfolding pairs_of
pairs_weaken p q f [] t = tt
pairs_weaken p q f (x ∷ xs) t =
    let t₁ : T (all_of (p x) xs) = search (and_l) in
    let t₂ : T (pairs_of p xs) = search (and_r) in
    and_i (all_of (q x) xs) (pairs_of q xs) (all_from (q x) xs (λ y m. f x y (all_in (p x) m t₁))) (pairs_weaken p q f xs t₂)

pub begins_refl : (rs : List Row) → T (begins rs rs)
unfolding begins
begins_refl [] = tt
begins_refl (r ∷ rs) = and_i (same_row r r) (begins rs rs) (row_refl r) (begins_refl rs)

pub begins_append : (hs rs ys : List Row) → T (begins hs rs) → T (begins hs (rs ++ ys))
unfolding begins
begins_append [] rs ys t = tt
begins_append (h ∷ hs) [] ys t = absurd t
begins_append (h ∷ hs) (r ∷ rs) ys t =
    and_i (same_row h r) (begins hs (rs ++ ys)) (and_l (same_row h r) (begins hs rs) t) (begins_append hs rs ys (and_r (same_row h r) (begins hs rs) t))

-- sound reservations are sound owners
pub start_sound : (s : State) (k : Kind) → Given s k → Sound (starting s) k
start_sound s k g = record {
  given = record { pools = g.pools; held = g.held };
  owners = record {
    tidied = g.held.tidied;
    goods = g.held.goods;
    pairs = pairs_weaken (λ a b. not (meets a b)) (λ a b. not (clash a b)) (λ a b t. →not_T (clash a b) (λ c. not_T→ (meets a b) t (clash_meets a b c))) (held_of s k) g.held.pairs;
  };
  begin = begins_refl (held_of s k);
}

-- ---- requests

pub sound_ground : (s : State) (k : Kind) → Sound s k → Ground (pools_of s) (owners_of s) k
unfolding good_span fits_span floored
sound_ground s k h = (
  record {
    high = λ p m.
        let g : T (good_span k p) = all_in (good_span k) m (h.given.pools automatic).goods in
        let l : T (leb p.end (nature k).top) = search (and_l, and_r) in
        leb→le p.end (nature k).top l;
    low = λ u p m.
        let g : T (good_span k p) = all_in (good_span k) m (h.given.pools u).goods in
        let l : T (leb (nature k).floor p.start) = search (and_l, and_r) in
        leb→le (nature k).floor p.start l;
  },
  (h.owners.goods, h.owners.pairs),
)

pub sound_fits : (s : State) (k : Kind) → Sound s k → length (owners_of s k) ≤ row_limit
sound_fits s k h = omega (arith, table_length row_limit (same_row (blank_row k)) (good_row k) (λ x y. not (clash x y)) (s.owners k) h.owners, h.owners.tidied.within)

-- rows added to sound owner tables that stay sound
pub granting_sound : (s : State) (cs : List Claim) (k : Kind) → Sound s k → length (owners_of s k) + length (rows_of k cs) ≤ row_limit → SoundRows k ((owners_of s ⊕ cs) k)
    → Sound (granting cs s) k × (owners_of (granting cs s) k ≡ (owners_of s ⊕ cs) k)
unfolding ◌⊕◌
granting_sound s cs k h few (g, p) =
    let (t, e) = table_grown row_limit (same_row (blank_row k)) (good_row k) (λ x y. not (clash x y)) (s.owners k) (rows_of k cs) h.owners few g p in (
      record {
        given = record { pools = h.given.pools; held = h.given.held };
        owners = t;
        begin = rw e (begins_append (held_of s k) (owners_of s k) (rows_of k cs) h.begin);
      },
      e,
    )

-- ---- every call

pub settle_malformed : (b : Bool) (s : State) (a : Answer State) → (T b → ⊥) → settle s (require b malformed a) ≡ saying (tell 0 malformed) s
unfolding require
settle_malformed true s a u = absurd (u tt)
settle_malformed false s a u = refl

-- pools and reservations stay sound under every call
pub serve_given : (ks : List Kind) (c : Call) (s : State) → GivenFor ks s → GivenFor ks (serve ks c s)
unfolding serve require
serve_given ks c s g = go c
  where
    held_go : (o : ℕ) (h : Hold) (a : Answer (List Claim)) → reserve (held_of s) (held_rows o h) ≡ a → GivenFor ks (settle s (a then λ cs. accepted (holding cs s)))
    held_go o h (refused x) e k m = given_saying (tell 0 x) s k (g k m)
    held_go o h (accepted cs) e k m =
        let (z, r) = reserve_says (held_of s) (held_rows o h) cs e in
        rw (← z) (holding_given s (held_rows o h) (held_apart o h) r k (g k m))

    want_go : (a : Answer (List Claim)) → GivenFor ks (settle s (a then λ cs. accepted (granting cs s)))
    want_go (refused x) k m = given_saying (tell 0 x) s k (g k m)
    want_go (accepted cs) k m = record { pools = (g k m).pools; held = (g k m).held }

    wants : (b : Bool) (a : Answer (List Claim)) → GivenFor ks (settle s (require b malformed (a then λ cs. accepted (granting cs s))))
    wants true a = want_go a
    wants false a = λ k m. given_saying (tell 0 malformed) s k (g k m)

    go : (d : Call) → GivenFor ks (serve ks d s)
    go (pool u p) = rw (required (given ks s) malformed (admit (pools_of s u) (spans p) then λ cs. accepted (entering u cs s)) (for_given ks s g)) (admitted_given ks u p s g).given
    go (hold o h) = rw (required (given ks s) malformed (reserve (held_of s) (held_rows o h) then λ cs. accepted (holding cs s)) (for_given ks s g)) (held_go o h (reserve (held_of s) (held_rows o h)) refl)
    go start = rw (required (given ks s) malformed (accepted (starting s)) (for_given ks s g)) (λ k m. record { pools = (g k m).pools; held = (g k m).held })
    go (want r) = wants (sound ks s) (resolve (pools_of s) (owners_of s) r)

-- adding a pool range or an MSI domain leaves a sound state sound
pub pool_sound : (ks : List Kind) (u : Use) (p : Pool) (s : State) → SoundFor ks s → SoundFor ks (serve ks (pool u p) s)
unfolding serve
pool_sound ks u p s h =
    let g : GivenFor ks s = λ k m. (h k m).given in
    let a : Pooled ks s (settle s (admit (pools_of s u) (spans p) then λ cs. accepted (entering u cs s))) = admitted_given ks u p s g in
    rw (required (given ks s) malformed (admit (pools_of s u) (spans p) then λ cs. accepted (entering u cs s)) (for_given ks s g))
    (λ k m. record { given = a.given k m; owners = rw a.owners (h k m).owners; begin = rw (a.owners, a.held) (h k m).begin })

-- start makes a sound state of sound pools and reservations, whatever the owner tables held
pub started_sound : (ks : List Kind) (s : State) → GivenFor ks s → SoundFor ks (serve ks start s)
unfolding serve
started_sound ks s g = rw (required (given ks s) malformed (accepted (starting s)) (for_given ks s g)) (λ k m. start_sound s k (g k m))

-- a request, accepted or refused, leaves a sound state sound, where the kinds that it needs are among those judged
pub want_sound : (ks : List Kind) (r : Request) (s : State) → ((k : Kind) → Memᴰ k (kinds_of r.want) → Memᴰ k ks) → SoundFor ks s → SoundFor ks (serve ks (want r) s)
unfolding serve
want_sound ks r s cover h =
    rw (required (sound ks s) malformed (resolve (pools_of s) (owners_of s) r then λ cs. accepted (granting cs s)) (for_sound ks s h)) (go (resolve (pools_of s) (owners_of s) r) refl)
  where
    go : (a : Answer (List Claim)) → resolve (pools_of s) (owners_of s) r ≡ a → SoundFor ks (settle s (a then λ cs. accepted (granting cs s)))
    go (refused x) e k m = sound_saying (tell 0 x) s k (h k m)
    go (accepted cs) e k m =
        let a : Resolved (pools_of s) (owners_of s) r cs = resolved (pools_of s) (owners_of s) r cs (λ j n. sound_ground s j (h j (cover j n))) e in
        (granting_sound s cs k (h k m) (fits_one (owners_of s) k cs (sound_fits s k (h k m)) a.apart a.has_room)
        (rows_kept (pools_of s) (owners_of s) r cs k a (sound_ground s k (h k m)).1)).0
