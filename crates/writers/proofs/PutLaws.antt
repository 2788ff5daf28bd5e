-- Laws of bytes put into a buffer: bytes behind bytes, one turn of each writer, and the parts of a line. Assumes nothing.
use mathlib.Core.Path.{◌≡◌, refl, sym, ◌∙◌, ap, subst}
use mathlib.Core.Bool.{Bool, true, false}
use mathlib.Core.List.{List, [], ◌∷◌, ◌++◌, map, append-nil, append_assoc}
use Prim.Native.Nat.{ℕ, suc, ◌+◌, ◌-◌, ◌%◌, ◌/◌, ◌<◌, ◌≤◌}
use native.Mathlib.Omega.{arith}
use native.Mathlib.Numerals.{add-one}
use lib.Dec.{eqb, leb}
use lib.ListN.{length, take-append-drop, take, drop, get_or, set, length-append}
use lib.Seq.{sets, sets-eq, length-sets, take-suc, length-take-le, drop-drop}
use borrow.Author.Tests.{leb-true, leb-false, le-leb, lt-leb}
use borrow.Rule.Slice.PartMut.{put_mid}
use Rattle.std.proofs.Math.Nat.{mod-eq_of_lt}
use Rattle.definition.specs.Tables.{top}
use Rattle.lines.specs.Base.{bytes, tab, newline, pick}
use Rattle.lines.specs.Numbers.{digits}
use Rattle.lines.specs.Line.{behind, line_with}
use Rattle.lines.specs.Output.{carries, carried_by, got_line}
use Rattle.writers.specs.Put.{Put, Room, Puts}
use Rattle.writers.specs.declared.put.Page.{Page}
use Rattle.lines.proofs.DigitLaws.{digits_small, digits_more}

-- ---- stores in a row

-- stores of a row and then of a second behind it are stores of both
sets_append : (l : List ℕ) (i : ℕ) (a b : List ℕ) → sets (sets l i a) (i + length a) b ≡ sets l i (a ++ b)
sets_append l i [] b = let e : i + 0 ≡ i = omega arith in rw e
sets_append l i (x ∷ a) b =
    let e : i + suc (length a) ≡ suc i + length a = omega arith in
    rw e (sets_append (set l i x) (suc i) a b)

-- one byte more of a row
pub sets_more : (l : List ℕ) (at : ℕ) (w : List ℕ) (i : ℕ) → i < length w → set (sets l at (take i w)) (at + i) (get_or w i 0) ≡ sets l at (take (i + 1) w)
sets_more l at w i h =
    let e : length (take i w) ≡ i = length-take-le i w (omega arith) in
    let f : at + i ≡ at + length (take i w) = omega (arith, e) in
    rw (add-one, take-suc w i 0 h, f) (sets_append l at (take i w) (get_or w i 0 ∷ []))

-- ---- bytes that were put

module _ (l : List ℕ) (at : ℕ) (a : List ℕ) (p : ℕ) (l₁ : List ℕ) (h : Put l at a p l₁) where
  -- exactly those bytes, and the rest untouched
  pub put_exact : at + length a ≤ length l → l₁ ≡ take at l ++ a ++ drop (at + length a) l
  put_exact room = h.1 ∙ sets-eq a l at room

  pub put_length : length l₁ ≡ length l
  put_length = ap length h.1 ∙ length-sets l at a

  -- bytes behind bytes
  pub put_then : (b : List ℕ) (q : ℕ) (l₂ : List ℕ) → Put l₁ p b q l₂ → Put l at (a ++ b) q l₂
  put_then b q l₂ k = (omega (arith, h.0, k.0, length-append a b), k.1 ∙ rw (h.1, h.0) (sets_append l at a b))

-- .. of pages
module _ (p : Page) (b : List ℕ) (q : Page) (h : Puts p b q) where
  pub puts_length : length q.out.now ≡ length p.out.now
  puts_length = put_length p.out.now p.at b q.at q.out.now h.put

  pub puts_then : (c : List ℕ) (r : Page) → Puts q c r → Puts p (b ++ c) r
  puts_then c r k = record { same = k.same ∙ h.same; put = put_then p.out.now p.at b q.at q.out.now h.put c r.at r.out.now k.put }

  -- what is left of the room
  pub room_then : (c : List ℕ) → Room p (b ++ c) → Room q c
  room_then c l = omega (arith, l, length-append b c, h.put.0, puts_length)

pub room_first : (p : Page) (b c : List ℕ) → Room p (b ++ c) → Room p b
room_first p b c l = omega (arith, l, length-append b c)

pub puts_none : (p : Page) → Puts p [] p
puts_none p = record { same = refl; put = (omega arith, refl) }

pub put_one : (l : List ℕ) (at b : ℕ) → Put l at (b ∷ []) (at + 1) (set l at b)
put_one l at b = (omega arith, refl)

-- a slice copied into its place
pub put_part : (a k : ℕ) (l w part : List ℕ) → a + length w ≤ length l → k ≡ length w → part ≡ w → put_mid a k l part ≡ sets l a w
put_part a k l w part room e same =
    let far : a + k ≡ a + length w = omega (arith, e) in
    ap (λ z. take a l ++ (z ++ drop k (drop a l))) same ∙ ap (λ z. take a l ++ (w ++ z)) (drop-drop k a l ∙ ap (λ j. drop j l) far) ∙ sym (append_assoc (take a l) w (drop (a + length w) l)) ∙ sym (sets-eq w l a room)

-- ---- the digits of a number: those of a tenth, where there are more than one, and the last

abbrev pub front : ℕ → List ℕ
front n = elim (leb 10 n) [ true ↦ digits (n / 10) | false ↦ [] ]

pub digits_split : (n : ℕ) → n ≤ top 64 → digits n ≡ front n ++ ((48 + n % 10) ∷ [])
digits_split n fits = go (leb 10 n) refl
  where
    go : (b : Bool) → leb 10 n ≡ b → digits n ≡ (elim b [ true ↦ digits (n / 10) | false ↦ [] ]) ++ ((48 + n % 10) ∷ [])
    go true e = digits_more n (leb-true 10 n e) fits
    go false e = let l : n < 10 = leb-false 10 n e in digits_small n l ∙ ap (λ (k : ℕ). (48 + k) ∷ []) (sym (mod-eq_of_lt l))

front_more : (n : ℕ) → 10 ≤ n → front n ≡ digits (n / 10)
front_more n l = ap {B = List ℕ} (λ (b : Bool). elim b [ true ↦ digits (n / 10) | false ↦ [] ]) (le-leb 10 n l)

pub front_put : (p q r : Page) (n : ℕ) → 10 ≤ n → Puts p (digits (n / 10)) q → r ≡ q → Puts p (front n) r
front_put p q r n l a e = rw (front_more n l, e) a

pub front_none : (p r : Page) (n : ℕ) → n < 10 → r ≡ p → Puts p (front n) r
front_none p r n l e = rw (ap {B = List ℕ} (λ (b : Bool). elim b [ true ↦ digits (n / 10) | false ↦ [] ]) (lt-leb 10 n l), e) (puts_none p)

module _ (p : Page) (n : ℕ) (fits : n ≤ top 64) (room : Room p (digits n)) where
  split_room : Room p (front n ++ ((48 + n % 10) ∷ []))
  split_room = subst (Room p) (digits_split n fits) room

  pub tenth_room : 10 ≤ n → Room p (digits (n / 10))
  tenth_room l = subst (Room p) (front_more n l) (room_first p (front n) ((48 + n % 10) ∷ []) split_room)

  module _ (q : Page) (a : Puts p (front n) q) where
    pub last_room : Room q ((48 + n % 10) ∷ [])
    last_room = room_then p (front n) q a ((48 + n % 10) ∷ []) split_room

    pub puts_digits : (r : Page) → Puts q ((48 + n % 10) ∷ []) r → Puts p (digits n) r
    puts_digits r b = rw (digits_split n fits) (puts_then p (front n) q a ((48 + n % 10) ∷ []) r b)

-- ---- fields after tabs

pub behind_append : (a b : List (List ℕ)) → behind (a ++ b) ≡ behind a ++ behind b
unfolding behind
behind_append [] b = refl
behind_append (x ∷ a) b = rw (behind_append a b, append_assoc)

-- each number after a tab
abbrev pub tabbed : List ℕ → List ℕ
tabbed xs = behind (map digits xs)

map_append : (a b : List ℕ) → map digits (a ++ b) ≡ map digits a ++ map digits b
map_append [] b = refl
map_append (x ∷ a) b = rw (map_append a b)

tabbed_append : (a b : List ℕ) → tabbed (a ++ b) ≡ tabbed a ++ tabbed b
tabbed_append a b = rw (map_append a b) (behind_append (map digits a) (map digits b))

-- one number more
tabbed_more : (xs : List ℕ) (i : ℕ) → i < length xs → tabbed (take (i + 1) xs) ≡ tabbed (take i xs) ++ (tab ∷ digits (get_or xs i 0))
unfolding behind
tabbed_more xs i l = rw (add-one, take-suc xs i 0 l, tabbed_append, append-nil)

-- a front part is no longer than the whole
tabbed_part : (xs : List ℕ) (k : ℕ) → length (tabbed (take k xs)) ≤ length (tabbed xs)
tabbed_part xs k =
    let e : tabbed (take k xs) ++ tabbed (drop k xs) ≡ tabbed xs = sym (tabbed_append (take k xs) (drop k xs)) ∙ ap (λ (z : List ℕ). tabbed z) (take-append-drop k xs) in
    omega (arith, length-append (tabbed (take k xs)) (tabbed (drop k xs)), ap length e)

pub tabbed_room : (xs : List ℕ) (i : ℕ) → i < length xs → length (tabbed (take i xs)) + (1 + length (digits (get_or xs i 0))) ≤ length (tabbed xs)
tabbed_room xs i l =
    omega (arith, tabbed_part xs (i + 1), ap length (tabbed_more xs i l), length-append (tabbed (take i xs)) (tab ∷ digits (get_or xs i 0)))

-- before the first number, and one more
pub numbers_none : (p : Page) (xs : List ℕ) → Puts p (tabbed (take 0 xs)) p
unfolding behind
numbers_none p xs = puts_none p

module _ (p : Page) (xs : List ℕ) (room : Room p (tabbed xs)) (i : ℕ) (l : i < length xs) (q : Page) (a : Puts p (tabbed (take i xs)) q) where
  both_room : Room q ((tab ∷ []) ++ digits (get_or xs i 0))
  both_room = omega (arith, room, tabbed_room xs i l, a.put.0, puts_length p (tabbed (take i xs)) q a)

  pub tab_room : Room q (tab ∷ [])
  tab_room = room_first q (tab ∷ []) (digits (get_or xs i 0)) both_room

  module _ (r : Page) (b : Puts q (tab ∷ []) r) where
    pub number_room : Room r (digits (get_or xs i 0))
    number_room = room_then q (tab ∷ []) r b (digits (get_or xs i 0)) both_room

    pub numbers_turn : (s : Page) → Puts r (digits (get_or xs i 0)) s → Puts p (tabbed (take (i + 1) xs)) s
    numbers_turn s c = rw (tabbed_more xs i l) (puts_then p (tabbed (take i xs)) q a (tab ∷ digits (get_or xs i 0)) s (puts_then q (tab ∷ []) r b (digits (get_or xs i 0)) s c))

-- ---- a word, numbers behind it, and the newline

module _ (p : Page) (w xs : List ℕ) where
  abbrev closed : List ℕ
  closed = tabbed xs ++ (newline ∷ [])

  module _ (room : Room p (line_with w (map digits xs))) where
    pub word_room : Room p w
    unfolding line_with
    word_room = room_first p w closed room

    module _ (q : Page) (a : Puts p w q) where
      pub numbers_room : Room q (tabbed xs)
      unfolding line_with
      numbers_room = room_first q (tabbed xs) (newline ∷ []) (room_then p w q a closed room)

      pub close_room : (r : Page) → Puts q (tabbed xs) r → Room r (newline ∷ [])
      unfolding line_with
      close_room r b = room_then q (tabbed xs) r b (newline ∷ []) (room_then p w q a closed room)

  pub puts_line : (q r s : Page) → Puts p w q → Puts q (tabbed xs) r → Puts r (newline ∷ []) s → Puts p (line_with w (map digits xs)) s
  unfolding line_with
  puts_line q r s a b c = puts_then p w q a closed s (puts_then q (tabbed xs) r b (newline ∷ []) s c)

-- ---- a `got` line, in the order in which it is written

abbrev kind : List ℕ → ℕ
kind r = get_or r 0 0

-- the numbers that the record's kind carries
abbrev pub own : List ℕ → List ℕ
own r = take (carried_by (kind r)).count (drop 3 r)

-- .. as the code reads them
pub own_read : (r : List ℕ) (n : ℕ) → n ≡ (carried_by (kind r)).count → take (3 + n - 3) (drop 3 r) ≡ own r
own_read r n e = let q : 3 + n - 3 ≡ (carried_by (kind r)).count = omega arith in rw q

-- no kind carries more than the record has
pub carried_few : (k : ℕ) → (carried_by k).count ≤ 6
unfolding carried_by
carried_few k = go (eqb k 1) (eqb k 2) (eqb k 3) (eqb k 4)
  where
    go : (a b c d : Bool) → (pick a (carries "mmio" 2) (pick b (carries "pio" 2) (pick c (carries "input" 4) (pick d (carries "host" 1) (carries "msi" 6))))).count ≤ 6
    go true b c d = omega arith
    go false true c d = omega arith
    go false false true d = omega arith
    go false false false true = omega arith
    go false false false false = omega arith

abbrev got_parts : List ℕ → List ℕ
got_parts r = bytes "got" ++ (tabbed (take 2 (drop 1 r)) ++ ((tab ∷ (carried_by (kind r)).word) ++ (tabbed (own r) ++ (newline ∷ []))))

got_is : (r : List ℕ) → 3 ≤ length r → got_line r ≡ got_parts r
unfolding got_line line_with behind
got_is [] l = absurd (omega arith)
got_is (a ∷ []) l = absurd (omega arith)
got_is (a ∷ b ∷ []) l = absurd (omega arith)
got_is (a ∷ b ∷ c ∷ r) l = simp (append_assoc, append-nil)

pub got_length : (r : List ℕ) → 3 ≤ length r → length (got_line r) ≡ 3 + (length (tabbed (take 2 (drop 1 r))) + (suc (length (carried_by (kind r)).word) + (length (tabbed (own r)) + 1)))
got_length r l =
    ap length (got_is r l)
    ∙ omega (
      arith,
      length-append (tabbed (take 2 (drop 1 r))) ((tab ∷ (carried_by (kind r)).word) ++ (tabbed (own r) ++ (newline ∷ []))),
      length-append (carried_by (kind r)).word (tabbed (own r) ++ (newline ∷ [])),
      length-append (tabbed (own r)) (newline ∷ []),
    )

module _ (r : List ℕ) (l : 3 ≤ length r) (p : Page) where
  abbrev places : List ℕ
  places = tabbed (take 2 (drop 1 r))

  abbrev word : List ℕ
  word = tab ∷ (carried_by (kind r)).word

  abbrev closed_own : List ℕ
  closed_own = tabbed (own r) ++ (newline ∷ [])

  module _ (room : Room p (got_line r)) where
    got_room : Room p (got_parts r)
    got_room = subst (Room p) (got_is r l) room

    pub got_word_room : Room p (bytes "got")
    got_word_room = room_first p (bytes "got") (places ++ (word ++ closed_own)) got_room

    module _ (q : Page) (a : Puts p (bytes "got") q) where
      from_places : Room q (places ++ (word ++ closed_own))
      from_places = room_then p (bytes "got") q a (places ++ (word ++ closed_own)) got_room

      pub places_room : Room q places
      places_room = room_first q places (word ++ closed_own) from_places

      module _ (s : Page) (b : Puts q places s) where
        from_kind : Room s (word ++ closed_own)
        from_kind = room_then q places s b (word ++ closed_own) from_places

        pub kind_room : Room s word
        kind_room = room_first s word closed_own from_kind

        module _ (t : Page) (c : Puts s word t) where
          from_own : Room t closed_own
          from_own = room_then s word t c closed_own from_kind

          pub own_room : Room t (tabbed (own r))
          own_room = room_first t (tabbed (own r)) (newline ∷ []) from_own

          pub got_close_room : (u : Page) → Puts t (tabbed (own r)) u → Room u (newline ∷ [])
          got_close_room u d = room_then t (tabbed (own r)) u d (newline ∷ []) from_own

  pub puts_got : (q s t u v : Page) → Puts p (bytes "got") q → Puts q places s → Puts s word t → Puts t (tabbed (own r)) u → Puts u (newline ∷ []) v → Puts p (got_line r) v
  puts_got q s t u v a b c d e =
      rw (got_is r l) (puts_then p (bytes "got") q a (places ++ (word ++ closed_own)) v (puts_then q places s b (word ++ closed_own) v (puts_then s word t c closed_own v (puts_then t (tabbed (own r)) u d (newline ∷ []) v e))))
