-- What an accepted answer says of the tables, and when the same numbers, asked for by name, are accepted again. Assumes nothing.
use Rattle.std.specs.Prelude.{◌≡◌, Bool, true, false, ◌&&◌, ℕ, zero, suc, ◌+◌, ◌≤◌, ◌<◌, leb}
use Rattle.std.proofs.Math.Path.{refl}
use Rattle.std.proofs.Common.{◌∙◌, zero-add, eqb→eq, lt→ltb}
use mathlib.Core.List.{List, Memᴰ}
use Rattle.std.proofs.Math.Option.{Option, none, some}
use native.Mathlib.Omega.{arith}
use Rattle.std.specs.Int.Count.{ones_in}
use Rattle.std.proofs.Math.Dec.{T, leb→le, le→leb}
use Rattle.definition.specs.Base.{any_of, all_of, Refusal, fixed_not_allowed, Answer, accepted, refused, require, ◌then◌}
use Rattle.definition.proofs.BaseLaws.{and_l, and_r, and_i, eq→eqb, any_in, in_any, all_in, LeastAll, none_at_all, least_of_all}
use Rattle.definition.specs.Tables.{top, last_trigger, shared, Dom, same_dom, within, pool_dom, Kind, input, kinds, nature, Span, Row, fits, ends, if_wired, floored, good_row}
use Rattle.definition.specs.Pools.{Holders}
use Rattle.definition.specs.Request.{Choice, auto, at, one_bit, Need, row_at, aligned, holds, free, allowed, obstacle, found, unopposed, Use, automatic, fixed, Pools, place, need, input_need}
use Rattle.definition.specs.Plan.{pin_choice}
use Rattle.definition.proofs.RowLaws.{every_kind, dom_trans, clash_meets, Beside, beside_clear, Apart, obstacle_beside, good_fits}
use Rattle.definition.proofs.SearchLaws.{IsFree, free_says, lowest_says}

-- ---- answers

pub not_accepted : {A : Type 0} {r : Refusal} {x : A} → ◌≡◌ {A = Answer A} (refused r) (accepted x) → ⊥
not_accepted e = let z : ◌≡◌ {A = ℕ} 0 1 = cc in omega arith

pub then_accepted : {A B : Type 0} (a : Answer A) (f : A → Answer B) {x : B} → (a then f) ≡ accepted x → (y : A) × (a ≡ accepted y) × (f y ≡ accepted x)
then_accepted (accepted y) f e = (y, refl, e)
then_accepted (refused r) f e = absurd (not_accepted e)

pub require_accepted : {A : Type 0} (t : Bool) (r : Refusal) (a : Answer A) {x : A} → require t r a ≡ accepted x → T t × (a ≡ accepted x)
unfolding require
require_accepted true r a e = (tt, e)
require_accepted false r a e = absurd (not_accepted e)

pub required : {A : Type 0} (t : Bool) (r : Refusal) (a : Answer A) → T t → require t r a ≡ a
unfolding require
required true r a t = refl
required false r a t = absurd t

-- ---- pools

pub record Inside (p q : Span) : Type 0 where
  pub dom : T (same_dom p.dom q.dom)
  pub low : q.start ≤ p.start
  pub high : p.end ≤ q.end

-- demand 3's condition: each range of the automatic pools lies inside one range of the fixed pools of its kind and domain
abbrev pub AutoInFixed : Pools → Type 0
AutoInFixed P = (k : Kind) (p : Span) → Memᴰ p (P automatic k) → (q : Span) × Memᴰ q (P fixed k) × Inside p q

-- .. as a test
unfoldable pub inside_one : Span → Span → Bool
inside_one p q = same_dom p.dom q.dom && (leb q.start p.start && leb p.end q.end)

unfoldable pub auto_in_fixed : Pools → Bool
auto_in_fixed P = all_of (λ k. all_of (λ p. any_of (inside_one p) (P fixed k)) (P automatic k)) kinds

pub inside_says : (P : Pools) → T (auto_in_fixed P) → AutoInFixed P
unfolding auto_in_fixed inside_one
inside_says P t k p m =
    let t₁ : T (all_of (λ p. any_of (inside_one p) (P fixed k)) (P automatic k)) = all_in (λ k. all_of (λ p. any_of (inside_one p) (P fixed k)) (P automatic k)) (every_kind k) t in
    let t₂ : T (any_of (inside_one p) (P fixed k)) = all_in (λ p. any_of (inside_one p) (P fixed k)) m t₁ in
    let (q, n, h) = any_in (inside_one p) (P fixed k) t₂ in
    let h₁ : T (leb q.start p.start) = search (and_l, and_r) in
    let h₂ : T (leb p.end q.end) = search (and_l, and_r) in
    (q, n, record { dom = search (and_l, and_r); low = leb→le q.start p.start h₁; high = leb→le p.end q.end h₂ })

-- no automatic range passes its kind's width, and no range starts below its kind's floor: so it is on sound tables
pub record Bounded (P : Pools) (k : Kind) : Type 0 where
  pub high : (p : Span) → Memᴰ p (P automatic k) → p.end ≤ (nature k).top
  pub low : (u : Use) (p : Span) → Memᴰ p (P u k) → (nature k).floor ≤ p.start

-- the rows of each table are good, and no two of them clash: so it is on sound tables
abbrev pub SoundRows : Kind → List Row → Type 0
SoundRows k rows = T (all_of (good_row k) rows) × Apart rows

-- ---- one run of numbers

-- above the floor and within the width, what is asked for makes a good row
abbrev pub Makes : Need → Type 0
Makes n = (b : ℕ) → (nature n.kind).floor ≤ b → b + n.size ≤ (nature n.kind).top → T (good_row n.kind (row_at n b))

-- what an accepted row says
pub record Placed (P : Pools) (S : Holders) (n : Need) (c : Choice) (r : Row) : Type 0 where
  pub beside : Beside (S n.kind) r
  pub pins : pin_choice c r.start ≡ at r.start
  pub good : T (good_row n.kind r)
  pub low : r.start ≤ (nature n.kind).top
  pub again : AutoInFixed P → (S' : Holders) → Beside (S' n.kind) r → place P S' n (at r.start) ≡ accepted r

module _ (P : Pools) (n : Need) (bounded : Bounded P n.kind) (makes : Makes n) where
  -- a base that the fixed pools allow is granted wherever its row clashes with nothing
  grants : (b : ℕ) → T (allowed (P fixed n.kind) n b) → (S : Holders) → Beside (S n.kind) (row_at n b) → place P S n (at b) ≡ accepted (row_at n b)
  unfolding place unopposed
  grants b t S h = required (allowed (P fixed n.kind) n b) (fixed_not_allowed (nature n.kind).namespace) _ t ∙ rw (beside_clear (row_at n b) (S n.kind) h)

  auto_allowed : (S : List Row) (b : ℕ) → IsFree (P automatic n.kind) S n b → AutoInFixed P → T (allowed (P fixed n.kind) n b)
  unfolding allowed aligned holds
  auto_allowed S b f inside =
      let (q, m, i) = inside n.kind f.pool f.in_pools in
      let w : f.pool.end ≤ (nature n.kind).top = bounded.high f.pool f.in_pools in
      let d : T (same_dom (pool_dom n.dom) q.dom) = dom_trans (pool_dom n.dom) f.pool.dom q.dom f.dom i.dom in
      let l₁ : q.start ≤ b = omega arith in
      let l₂ : b + n.size ≤ q.end = omega arith in
      let l₃ : b + n.size ≤ (nature n.kind).top = omega arith in
      let h : T (holds n b q) = search (and_i, le→leb) in
      let k : T (any_of (holds n b) (P fixed n.kind)) = in_any (holds n b) m h in
      search (and_i, le→leb, eq→eqb)

  made : (S : Holders) (c : Choice) (b : ℕ) → pin_choice c b ≡ at b → (nature n.kind).floor ≤ b → b + n.size ≤ (nature n.kind).top → (AutoInFixed P → T (allowed (P fixed n.kind) n b)) → Beside (S n.kind) (row_at n b) → Placed P S n c (row_at n b)
  unfolding row_at
  made S c b pins low high t h = record { beside = h; pins = pins; good = makes b low high; low = omega arith; again = λ i. grants b (t i) }

  -- a free base is a good answer, however it was chosen
  pub placed_free : (S : Holders) (b : ℕ) (r : Row) → T (free (P automatic n.kind) (S n.kind) n b) → found n (some b) ≡ accepted r → Placed P S n auto r
  unfolding found
  placed_free S b r t e =
      let f : IsFree (P automatic n.kind) (S n.kind) n b = free_says (P automatic n.kind) (S n.kind) n b t in
      let q : row_at n b ≡ r = cc in
      let l : f.pool.end ≤ (nature n.kind).top = bounded.high f.pool f.in_pools in
      let m : (nature n.kind).floor ≤ f.pool.start = bounded.low automatic f.pool f.in_pools in
      rw q at (made S auto b refl (omega arith) (omega arith) (auto_allowed (S n.kind) b f) (λ x m w. f.clear x m (clash_meets (row_at n b) x w)))

  placed_auto : (S : Holders) (r : Row) {o : Option ℕ} → LeastAll (free (P automatic n.kind) (S n.kind) n) o → found n o ≡ accepted r → Placed P S n auto r
  unfolding found
  placed_auto S r (none_at_all u) e = absurd (not_accepted e)
  placed_auto S r (least_of_all b t u) e = placed_free S b r t e

  allowed_high : (ps : List Span) (b : ℕ) → T (allowed ps n b) → b + n.size ≤ (nature n.kind).top
  unfolding allowed
  allowed_high ps b t = let l : T (leb (b + n.size) (nature n.kind).top) = search (and_l, and_r) in leb→le (b + n.size) (nature n.kind).top l

  allowed_low : (b : ℕ) → T (allowed (P fixed n.kind) n b) → (nature n.kind).floor ≤ b
  unfolding allowed holds
  allowed_low b t =
      let t₁ : T (any_of (holds n b) (P fixed n.kind)) = search (and_l, and_r) in
      let (q, m, h) = any_in (holds n b) (P fixed n.kind) t₁ in
      let l : T (leb q.start b) = search (and_l, and_r) in
      omega (arith, bounded.low fixed q m, leb→le q.start b l)

  placed_fixed : (S : Holders) (b : ℕ) (r : Row) (o : Option Row) → SoundRows n.kind (S n.kind) → T (allowed (P fixed n.kind) n b) → obstacle (row_at n b) (S n.kind) ≡ o
      → unopposed n (row_at n b) o ≡ accepted r → Placed P S n (at b) r
  unfolding unopposed
  placed_fixed S b r (some x) s t eo e = absurd (not_accepted e)
  placed_fixed S b r none s t eo e =
      let q : row_at n b ≡ r = cc in
      let high : b + n.size ≤ (nature n.kind).top = allowed_high (P fixed n.kind) b t in
      let f : T (fits n.kind (row_at n b)) = good_fits n.kind (row_at n b) (makes b (allowed_low b t) high) in
      rw q at (made S (at b) b refl (allowed_low b t) high (λ i. t) (obstacle_beside n.kind (row_at n b) (S n.kind) f s.0 s.1 eo))

  pub placed : (S : Holders) (c : Choice) (r : Row) → SoundRows n.kind (S n.kind) → 0 < n.alignment → place P S n c ≡ accepted r → Placed P S n c r
  unfolding place
  placed S auto r s pos e = placed_auto S r (lowest_says (P automatic n.kind) (S n.kind) n pos) e
  placed S (at b) r s pos e = let (t, e') = require_accepted (allowed (P fixed n.kind) n b) _ _ e in placed_fixed S b r (obstacle (row_at n b) (S n.kind)) s t refl e'

-- ---- the needs of good requests make good rows

pub ones_zero : (w : ℕ) → ones_in w 0 ≡ 0
unfolding ones_in
ones_zero zero = refl
ones_zero (suc w) = zero-add (ones_in w 0) ∙ ones_zero w

pub one_bit_pos : (w a : ℕ) → T (one_bit w a) → 0 < a
unfolding one_bit
one_bit_pos w zero t = let e : ones_in w 0 ≡ 1 = eqb→eq (ones_in w 0) 1 t in let z : ones_in w 0 ≡ 0 = ones_zero w in omega arith
one_bit_pos w (suc a) t = omega arith

pub range_made : (k : Kind) (d : Dom) (s a q : ℕ) → (nature k).wired ≡ false → T (within d (nature k).dom_top) → 0 < s → 0 < q → q ≤ top 32 → Makes (need k d s a q)
unfolding row_at good_row fits floored
range_made k d s a q plain w pos own least b low high =
    let l₁ : b ≤ (nature k).top = omega arith in
    let l₂ : b < b + s = omega arith in
    let e : T (ends (nature k).wired (nature k).top (row_at (need k d s a q) b)) = rw plain (le→leb (b + s) (nature k).top high) in
    let c : T (leb 0 (if_wired (nature k).wired last_trigger)) = rw plain tt in
    let h : T (leb 0 (if_wired (nature k).wired shared)) = rw plain tt in
    search (and_i, le→leb, lt→ltb) depth 10

pub input_made : (c t h q : ℕ) → c ≤ top 32 → t ≤ last_trigger → h ≤ shared → 0 < q → q ≤ top 32 → Makes (input_need c t h q)
unfolding row_at good_row fits floored within
input_made c t h q lc lt lh own least b low high =
    let l₁ : b ≤ (nature input).top = omega arith in
    let l₂ : b < b + 1 = omega arith in
    let e : b + 1 ≡ suc b = omega arith in
    search (and_i, le→leb, lt→ltb, eq→eqb) depth 12
