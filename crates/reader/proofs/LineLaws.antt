-- Laws of a line's first fields, as the code cuts them off. Assumes nothing.
use mathlib.Core.Path.{◌≡◌, refl, ◌∙◌}
use mathlib.Core.List.{List, [], ◌∷◌}
use mathlib.Core.Option.{none, some}
use Prim.Native.Nat.{ℕ, ◌<◌, ◌≤◌}
use lib.ListN.{length}
use borrow.Author.Tests.{le-leb, lt-leb}
use Rattle.definition.specs.Request.{Use}
use Rattle.lines.specs.Base.{line_limit, tab, split, when, ◌and_then◌}
use Rattle.lines.specs.Numbers.{number}
use Rattle.lines.specs.Forms.{n32, pool_forms, hold_forms, want_forms, tries}
use Rattle.lines.specs.Line.{use_of, behind_pool, behind_hold, behind_want, by_word, by_fields, read_line}
use Rattle.lines.proofs.PartLaws.{split_some}

-- ---- a whole line: its first field w and the rest r of it, x and r', y and r''

pub line_long : (l : List ℕ) → line_limit < length l → read_line l ≡ none
unfolding read_line when
line_long l h = rw (lt-leb (length l) line_limit h)

module _ (l : List ℕ) (short : length l ≤ line_limit) where
  line_short : read_line l ≡ by_fields (split tab l)
  unfolding read_line when
  line_short = rw (le-leb (length l) line_limit short)

  pub one_field : split tab l ≡ l ∷ [] → read_line l ≡ none
  unfolding by_fields
  one_field a = line_short ∙ rw a

  module _ (w r : List ℕ) (a : split tab l ≡ w ∷ split tab r) where
    pub two_fields : split tab r ≡ r ∷ [] → read_line l ≡ none
    unfolding by_fields
    two_fields b = line_short ∙ rw (a, b)

    module _ (x r' : List ℕ) (b : split tab r ≡ x ∷ split tab r') where
      pub three_fields : split tab r' ≡ r' ∷ [] → read_line l ≡ none
      unfolding by_fields
      three_fields c = line_short ∙ rw (a, b, c)

      pub more_fields : (y r'' : List ℕ) → split tab r' ≡ y ∷ split tab r'' → read_line l ≡ by_word w x y (split tab r'')
      unfolding by_fields
      more_fields y r'' c =
          let (f, fs, d) = split_some tab r'' in
          line_short ∙ rw (a, b, c, d)

-- ---- behind `pool` and behind `hold`

module _ (x k : List ℕ) (fs : List (List ℕ)) where
  pub pool_no_use : use_of x ≡ none → behind_pool x k fs ≡ none
  unfolding behind_pool ◌and_then◌
  pool_no_use e = rw (e, ◌and_then◌)

  pub pool_said : (u : Use) → use_of x ≡ some u → behind_pool x k fs ≡ tries (pool_forms u) k fs
  unfolding behind_pool ◌and_then◌
  pool_said u e = rw (e, ◌and_then◌)

  pub hold_no_owner : number n32 x ≡ none → behind_hold x k fs ≡ none
  unfolding behind_hold ◌and_then◌
  hold_no_owner e = rw (e, ◌and_then◌)

  pub hold_said : (o : ℕ) → number n32 x ≡ some o → behind_hold x k fs ≡ tries (hold_forms o) k fs
  unfolding behind_hold ◌and_then◌
  hold_said o e = rw (e, ◌and_then◌)

-- ---- behind `want`

module _ (x y : List ℕ) where
  pub want_no_requester : (fs : List (List ℕ)) → number n32 x ≡ none → behind_want x y fs ≡ none
  unfolding behind_want ◌and_then◌
  want_no_requester [] e = refl
  want_no_requester (k ∷ []) e = refl
  want_no_requester (k ∷ f ∷ fs) e = rw (e, ◌and_then◌)

  module _ (q : ℕ) (e : number n32 x ≡ some q) where
    pub want_no_slot : (fs : List (List ℕ)) → number n32 y ≡ none → behind_want x y fs ≡ none
    unfolding behind_want ◌and_then◌
    want_no_slot [] h = refl
    want_no_slot (k ∷ []) h = refl
    want_no_slot (k ∷ f ∷ fs) h = rw (e, h, ◌and_then◌)

    module _ (rest : List ℕ) where
      pub want_alone : split tab rest ≡ rest ∷ [] → behind_want x y (split tab rest) ≡ none
      unfolding behind_want
      want_alone h = rw h

      pub want_said : (s : ℕ) (k r : List ℕ) → number n32 y ≡ some s → split tab rest ≡ k ∷ split tab r → behind_want x y (split tab rest) ≡ tries (want_forms q s) k (split tab r)
      unfolding behind_want ◌and_then◌
      want_said s k r h c =
          let (f, fs, d) = split_some tab r in
          rw (c, d, e, h, ◌and_then◌)
