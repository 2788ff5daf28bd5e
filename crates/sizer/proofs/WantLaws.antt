-- Laws of the requests' lines: the parts of one, and one after the other. Assumes nothing.
use mathlib.Core.Path.{◌≡◌, refl, ap, subst, ◌∙◌}
use mathlib.Core.List.{List, [], ◌∷◌, ◌++◌, append_assoc, append-nil}
use Prim.Native.Nat.{ℕ, suc, ◌+◌, ◌*◌, ◌≤◌, ◌<◌}
use native.Mathlib.Omega.{arith}
use lib.ListN.{length, take, drop, get_or, length-append}
use Rattle.flat.specs.Flat.{request_size}
use Rattle.lines.specs.Base.{bytes, tab, newline}
use Rattle.lines.specs.Line.{behind, line_with}
use Rattle.lines.specs.Output.{carried_by}
use Rattle.writers.specs.declared.put.Page.{Page}
use Rattle.writers.specs.Put.{Room, Puts}
use Rattle.writers.proofs.PutLaws.{tabbed, puts_then, room_then, room_first}
use Rattle.writers.proofs.EachLaws.{lines_none, lines_room, lines_turn}
use Rattle.sizer.specs.Code.{ask_line, ask_lines}

-- ---- a line, in the order in which it is written

abbrev kind : List ℕ → List ℕ
kind r = tab ∷ (carried_by (get_or r 0 0)).word

abbrev auto : List ℕ
auto = tab ∷ (bytes "auto" ++ (newline ∷ []))

abbrev parts : List ℕ → List ℕ
parts r = bytes "want" ++ (tabbed (take 2 (drop 1 r)) ++ (kind r ++ (tabbed (take 2 (drop 3 r)) ++ auto)))

ask_is : (r : List ℕ) → request_size ≤ length r → ask_line r ≡ parts r
unfolding ask_line line_with behind
ask_is [] l = absurd (omega arith)
ask_is (a ∷ []) l = absurd (omega arith)
ask_is (a ∷ b ∷ []) l = absurd (omega arith)
ask_is (a ∷ b ∷ c ∷ []) l = absurd (omega arith)
ask_is (a ∷ b ∷ c ∷ d ∷ []) l = absurd (omega arith)
ask_is (a ∷ b ∷ c ∷ d ∷ e ∷ r) l = simp (append_assoc, append-nil)

module _ (r : List ℕ) (l : request_size ≤ length r) where
  abbrev places : List ℕ
  places = tabbed (take 2 (drop 1 r))

  abbrev sizes : List ℕ
  sizes = tabbed (take 2 (drop 3 r))

  pub ask_length : length (ask_line r) ≡ 4 + (length places + (suc (length (carried_by (get_or r 0 0)).word) + (length sizes + 6)))
  ask_length =
      ap length (ask_is r l)
      ∙ omega (
        arith,
        length-append places (kind r ++ (sizes ++ auto)),
        length-append (carried_by (get_or r 0 0)).word (sizes ++ auto),
        length-append sizes auto,
      )

  module _ (p : Page) where
    -- the room of each part, behind those before it
    module _ (room : Room p (ask_line r)) where
      from_want : Room p (parts r)
      from_want = subst (Room p) (ask_is r l) room

      pub want_room : Room p (bytes "want")
      want_room = room_first p (bytes "want") (places ++ (kind r ++ (sizes ++ auto))) from_want

      module _ (q : Page) (a : Puts p (bytes "want") q) where
        from_places : Room q (places ++ (kind r ++ (sizes ++ auto)))
        from_places = room_then p (bytes "want") q a (places ++ (kind r ++ (sizes ++ auto))) from_want

        pub places_room : Room q places
        places_room = room_first q places (kind r ++ (sizes ++ auto)) from_places

        module _ (s : Page) (b : Puts q places s) where
          from_kind : Room s (kind r ++ (sizes ++ auto))
          from_kind = room_then q places s b (kind r ++ (sizes ++ auto)) from_places

          pub kind_room : Room s (kind r)
          kind_room = room_first s (kind r) (sizes ++ auto) from_kind

          module _ (t : Page) (c : Puts s (kind r) t) where
            from_sizes : Room t (sizes ++ auto)
            from_sizes = room_then s (kind r) t c (sizes ++ auto) from_kind

            pub sizes_room : Room t sizes
            sizes_room = room_first t sizes auto from_sizes

            pub auto_room : (u : Page) → Puts t sizes u → Room u auto
            auto_room u d = room_then t sizes u d auto from_sizes

    pub puts_want : (q s t u v : Page) → Puts p (bytes "want") q → Puts q places s → Puts s (kind r) t → Puts t sizes u → Puts u auto v → Puts p (ask_line r) v
    puts_want q s t u v a b c d e =
        rw (ask_is r l) (puts_then p (bytes "want") q a (places ++ (kind r ++ (sizes ++ auto))) v (puts_then q places s b (kind r ++ (sizes ++ auto)) v (puts_then s (kind r) t c (sizes ++ auto) v (puts_then t sizes u d auto v e))))

-- ---- one after the other

none : (rs : List ℕ) → ask_lines 0 rs ≡ []
unfolding ask_lines
none rs = refl

next : (n : ℕ) (rs : List ℕ) → ask_lines (suc n) rs ≡ ask_line rs ++ ask_lines n (drop request_size rs)
unfolding ask_lines
next n rs = refl

pub asks_none : (p : Page) (rs : List ℕ) → Puts p (ask_lines 0 rs) p
asks_none = lines_none ask_line request_size ask_lines none next

pub asks_room : (p : Page) (rs : List ℕ) (i : ℕ) (q : Page) → Puts p (ask_lines i rs) q → (n : ℕ) → i < n → Room p (ask_lines n rs) → Room q (ask_line (drop (request_size * i) rs))
asks_room = lines_room ask_line request_size ask_lines none next

pub asks_turn : (p : Page) (rs : List ℕ) (i : ℕ) (q : Page) → Puts p (ask_lines i rs) q → (r : Page) → Puts q (ask_line (drop (request_size * i) rs)) r → Puts p (ask_lines (i + 1) rs) r
asks_turn = lines_turn ask_line request_size ask_lines none next
