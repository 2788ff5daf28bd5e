-- Laws of the walk over a text's lines: what is done, and what the rest of the text gives behind it, are the pinned text. Assumes nothing.
use mathlib.Core.Path.{◌≡◌, refl, sym, subst, ◌∙◌, ap}
use mathlib.Core.Bool.{Bool, true, false}
use mathlib.Core.List.{List, [], ◌∷◌, ◌++◌, append_assoc, append-nil}
use Prim.Native.Nat.{ℕ, suc, ◌+◌, ◌*◌, ◌≤◌, ◌<◌}
use native.Mathlib.Omega.{arith}
use lib.ListN.{length, drop, length-append, length-drop}
use lib.Dec.{eqb}
use Rattle.definition.specs.Tables.{record_size}
use Rattle.lines.specs.Base.{newline, pick, grow, split}
use Rattle.lines.specs.Output.{field}
use Rattle.lines.proofs.PartLaws.{split_some}
use Rattle.writers.specs.declared.put.Page.{Page}
use Rattle.writers.specs.Put.{Room, Puts}
use Rattle.writers.proofs.PutLaws.{puts_length, puts_then, room_first, room_then}
use Rattle.write_back.specs.Bytes.{is_want, pinned_bytes, Pinnable, used_by, back_bytes, wants_of, Plain, Tidy}
use Rattle.write_back.proofs.LineLaws.{pinned_short, used_one}

-- ---- a closed line, whatever comes behind it

used_dropped : (p rs : List ℕ) → elim (is_want p) [ true ↦ drop record_size rs | false ↦ rs ] ≡ drop (used_by p) rs
unfolding used_by
used_dropped p rs = go (is_want p)
  where
    go : (b : Bool) → elim b [ true ↦ drop record_size rs | false ↦ rs ] ≡ drop (elim b [ true ↦ record_size | false ↦ 0 ]) rs
    go true = refl
    go false = refl

module _ (p xs : List ℕ) where
  back_more : (rs : List ℕ) → back_bytes (p ∷ split newline xs) rs ≡ pinned_bytes p rs ++ (newline ∷ back_bytes (split newline xs) (drop (used_by p) rs))
  unfolding back_bytes
  back_more rs =
      let (q, qs, e) = split_some newline xs in
      rw (e, ← used_dropped p rs)

  wants_more : record_size * wants_of (p ∷ split newline xs) ≡ used_by p + record_size * wants_of (split newline xs)
  unfolding wants_of used_by
  wants_more =
      let (q, qs, e) = split_some newline xs in
      rw e (go (is_want p) (wants_of (q ∷ qs)))
    where
      go : (b : Bool) (n : ℕ) → record_size * elim b [ true ↦ suc n | false ↦ n ] ≡ elim b [ true ↦ record_size | false ↦ 0 ] + record_size * n
      go true n = omega arith
      go false n = omega arith

  tidy_more : Tidy (p ∷ split newline xs) → Plain p × Tidy (split newline xs)
  unfolding Tidy
  tidy_more h =
      let (q, qs, e) = split_some newline xs in
      rw e (rw e at h)

-- ---- how far the walk has come

-- a line grows by at most three numbers and its newline
abbrev growth : ℕ
growth = 3 * field + 2

-- rest is still to be gone over, with the records rs'; what it gives, behind what is done, is the whole
pub record Walked (text rs rest rs' done : List ℕ) : Type 0 where
  pub left : record_size * wants_of (split newline rest) ≤ length rs'
  pub tidy : Tidy (split newline rest)
  pub small : length done + growth * length rest ≤ growth * length text
  pub comes : done ++ back_bytes (split newline rest) rs' ≡ back_bytes (split newline text) rs

-- one line more: it can be written, there is room for it, and what is then done
pub record Turn (text rs rest rs' done line behind : List ℕ) : Type 0 where
  pub shorter : length behind < length rest
  pub pinnable : Pinnable line rs'
  pub used : used_by line ≤ length rs'
  pub then : List ℕ
  pub long : length then ≡ length done + length (pinned_bytes line rs') + 1
  pub goes : Walked text rs behind (drop (used_by line) rs') then
  pub line_room : (page q : Page) → Room page (back_bytes (split newline text) rs) → Puts page done q → Room q (pinned_bytes line rs')
  pub close_room : (page q r : Page) → Room page (back_bytes (split newline text) rs) → Puts page done q → Puts q (pinned_bytes line rs') r → Room r (newline ∷ [])
  pub puts : (page q r s : Page) → Puts page done q → Puts q (pinned_bytes line rs') r → Puts r (newline ∷ []) s → Puts page then s

pub walk_starts : (text rs : List ℕ) → record_size * wants_of (split newline text) ≤ length rs → Tidy (split newline text) → Walked text rs text rs []
walk_starts text rs few tidy = record { left = few; tidy = tidy; small = omega arith; comes = refl }

-- ---- parts are as long as the whole

total : List (List ℕ) → ℕ
total [] = 0
total (p ∷ ps) = suc (length p) + total ps

total_split : (c : ℕ) (s : List ℕ) → total (split c s) ≡ suc (length s)
unfolding split total grow
total_split c [] = refl
total_split c (x ∷ xs) =
    let (p, ps, e) = split_some c xs in
    let below : total (p ∷ ps) ≡ suc (length xs) = ap total (sym e) ∙ total_split c xs in
    rw e (go (eqb x c) p ps below)
  where
    go : (t : Bool) (p : List ℕ) (ps : List (List ℕ)) → total (p ∷ ps) ≡ suc (length xs) → total (pick t ([] ∷ p ∷ ps) (grow x (p ∷ ps))) ≡ suc (suc (length xs))
    go true p ps h = omega (arith, h)
    go false p ps h = omega (arith, h)

cut_lengths : (c : ℕ) (s p q : List ℕ) → split c s ≡ p ∷ split c q → length s ≡ length p + 1 + length q
unfolding total
cut_lengths c s p q e = omega (arith, total_split c s, ap total e, total_split c q)

module _ (text rs rest rs' done : List ℕ) (w : Walked text rs rest rs' done) where
  -- no newline comes: all is done
  pub walk_ends : split newline rest ≡ rest ∷ [] → done ≡ back_bytes (split newline text) rs
  unfolding back_bytes
  walk_ends e =
      let none_left : back_bytes (split newline rest) rs' ≡ [] = rw e in
      sym (append-nil done) ∙ ap (λ (b : List ℕ). done ++ b) (sym none_left) ∙ w.comes

  module _ (line behind : List ℕ) (parts : split newline rest ≡ line ∷ split newline behind) where
    abbrev pinned : List ℕ
    pinned = pinned_bytes line rs'

    abbrev more : List ℕ
    more = back_bytes (split newline behind) (drop (used_by line) rs')

    plain : Plain line × Tidy (split newline behind)
    plain = tidy_more line behind (subst Tidy parts w.tidy)

    wants_left : used_by line + record_size * wants_of (split newline behind) ≤ length rs'
    wants_left = omega (arith, w.left, ap wants_of parts, wants_more line behind)

    here : back_bytes (split newline rest) rs' ≡ pinned ++ (newline ∷ more)
    here = ap (λ (ps : List (List ℕ)). back_bytes ps rs') parts ∙ back_more line behind rs'

    fits : length done + length pinned + 1 ≤ length (back_bytes (split newline text) rs)
    fits = omega (arith, ap length w.comes, length-append done (back_bytes (split newline rest) rs'), ap length here, length-append pinned (newline ∷ more))

    can : Pinnable line rs'
    can auto = let (wanted, long) = plain.0 auto in (long, omega (arith, wants_left, used_one line wanted))

    abbrev written : List ℕ
    written = pinned ++ (newline ∷ [])

    grown : length (done ++ written) ≡ length done + length pinned + 1
    grown = omega (arith, length-append done written, length-append pinned (newline ∷ []))

    walked : Walked text rs behind (drop (used_by line) rs') (done ++ written)
    walked = record {
      left = omega (arith, wants_left, length-drop (used_by line) rs');
      tidy = plain.1;
      small = omega (arith, w.small, grown, pinned_short line rs', cut_lengths newline rest line behind parts);
      comes = simp append_assoc (ap (λ (b : List ℕ). done ++ b) (sym here) ∙ w.comes);
    }

    pinned_room : (page q : Page) → Room page (back_bytes (split newline text) rs) → Puts page done q → Room q (pinned ++ (newline ∷ []))
    pinned_room page q room a = omega (arith, room, a.put.0, puts_length page done q a, fits, length-append pinned (newline ∷ []))

    line_fits : (page q : Page) → Room page (back_bytes (split newline text) rs) → Puts page done q → Room q pinned
    line_fits page q room a = room_first q pinned (newline ∷ []) (pinned_room page q room a)

    close_fits : (page q r : Page) → Room page (back_bytes (split newline text) rs) → Puts page done q → Puts q pinned r → Room r (newline ∷ [])
    close_fits page q r room a b = room_then q pinned r b (newline ∷ []) (pinned_room page q room a)

    put : (page q r s : Page) → Puts page done q → Puts q pinned r → Puts r (newline ∷ []) s → Puts page (done ++ written) s
    put page q r s a b c = puts_then page done q a written s (puts_then q pinned r b (newline ∷ []) s c)

    pub walk_turn : Turn text rs rest rs' done line behind
    walk_turn = record {
      shorter = omega (arith, cut_lengths newline rest line behind parts);
      pinnable = can;
      used = omega (arith, wants_left);
      then = done ++ written;
      long = grown;
      goes = walked;
      line_room = line_fits;
      close_room = close_fits;
      puts = put;
    }
