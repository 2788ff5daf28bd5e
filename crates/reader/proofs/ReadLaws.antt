-- Laws of the fields behind a kind's word: what the code reads by a form is what the table's form says. Assumes nothing.
use mathlib.Core.Path.{◌≡◌, refl, sym, ◌∙◌, ap}
use mathlib.Core.Bool.{true, false}
use mathlib.Core.List.{List, [], ◌∷◌, map}
use mathlib.Core.Option.{Option, none, some}
use Prim.Native.Nat.{ℕ, zero, suc, ◌-◌, ◌<◌}
use native.Mathlib.Omega.{arith}
use Rattle.std.specs.Prelude.{None, Some, get_or, set, MatchOption}
use Rattle.std.specs.Prelude as code
use Rattle.std.specs.List.{AllWithin, HoldsAt}
use Rattle.definition.specs.Request as D
use Rattle.definition.specs.Request.{Use, auto, at}
use Rattle.choose.specs.declared.Choice.{Choice}
use Rattle.choose.specs.declared.Choice.TheVariants as C
use Rattle.choose.specs.Told.{choice_of}
use Rattle.definition.specs.Base.{all_of}
use Rattle.lines.specs.Base.{same, when, ◌or_else◌}
use Rattle.lines.specs.declared.form.Field.{Field}
use Rattle.lines.specs.Forms.{numbers, form, tries, ◌gives◌, pool_forms, hold_forms, want_forms}
use Rattle.lines.specs.Code.{field_says, field_code, numbers_by, Within, row_of}
use Rattle.lines.specs.declared.form.Field.TheVariants.{Auto}
use Rattle.lines.proofs.FormLaws.{counts, numbers_coded}
use Rattle.lines.proofs.SpellLaws.{same_eq}
use Rattle.reader.specs.declared.kind.Kind.{Kind}
use Rattle.reader.specs.declared.kind.Kind.TheVariants.{Mmio, Pio, Host, Input, Device, Event, Lpi, Msi}
use Rattle.reader.specs.Kinds.{word_of, kinds, auto_last, ChosenAs, Chosen}

pub row_some : (o : Option (List ℕ)) (ns : List ℕ) → Some ns ≡ row_of o → o ≡ some ns
row_some none ns e = absurd (let z : ◌≡◌ {A = ℕ} 0 1 = cc in omega arith)
row_some (some xs) ns e = let p : ns ≡ xs = cc in rw p

row_none : (o : Option (List ℕ)) → None ≡ row_of o → o ≡ none
row_none none e = refl
row_none (some xs) e = absurd (let z : ◌≡◌ {A = ℕ} 0 1 = cc in omega arith)

module _ (form : List Field) (fs : List (List ℕ)) (coded : all_of counts form ≡ true) where
  read_here : (ns : List ℕ) → Some ns ≡ row_of (numbers_by field_says form fs) → numbers (map field_code form) fs ≡ some ns
  read_here ns e = sym (numbers_coded form fs coded) ∙ row_some (numbers_by field_says form fs) ns e

  read_none : None ≡ row_of (numbers_by field_says form fs) → numbers (map field_code form) fs ≡ none
  read_none e = sym (numbers_coded form fs coded) ∙ row_none (numbers_by field_says form fs) e

  module _ {A : Type 0} (f : (ℕ → ℕ) → A) (o : Option A) where
    -- the form is tried, and says what it says
    pub form_here : (ns : List ℕ) → Some ns ≡ row_of (numbers_by field_says form fs) → some (f (λ i. get_or ns i 0)) ≡ ((numbers (map field_code form) fs gives f) or_else o)
    unfolding ◌gives◌ ◌or_else◌
    form_here ns e = rw (read_here ns e, ◌gives◌, ◌or_else◌)

    -- .. or is past
    pub form_past : None ≡ row_of (numbers_by field_says form fs) → o ≡ ((numbers (map field_code form) fs gives f) or_else o)
    unfolding ◌gives◌ ◌or_else◌
    form_past e = rw (read_none e, ◌gives◌, ◌or_else◌)

-- ---- the kind of a word

-- none is known of it
abbrev pub Unknown : List ℕ → Type 0
Unknown w = (k : Kind) → same w (word_of k) ≡ false

pub kind_found : (w : List ℕ) (r : code.Option Kind)
    → MatchOption r (AllWithin (λ k. same w (word_of k) ≡ false) kinds 0 8) (λ k. (same w (word_of k) ≡ true) × (i : ℕ) × (i < 8) × HoldsAt (λ y. y ≡ k) kinds i × AllWithin (λ k. same w (word_of k) ≡ false) kinds 0 i)
    → MatchOption r (Unknown w) (λ k. w ≡ word_of k)
kind_found w (Some k) h = same_eq w (word_of k) h.0
kind_found w None h = go
  where
    go : (k : Kind) → same w (word_of k) ≡ false
    go Mmio = h 0 Mmio (omega arith) (omega arith)
    go Pio = h 1 Mmio (omega arith) (omega arith)
    go Host = h 2 Mmio (omega arith) (omega arith)
    go Input = h 3 Mmio (omega arith) (omega arith)
    go Device = h 4 Mmio (omega arith) (omega arith)
    go Event = h 5 Mmio (omega arith) (omega arith)
    go Lpi = h 6 Mmio (omega arith) (omega arith)
    go Msi = h 7 Mmio (omega arith) (omega arith)

-- no form is tried then
module _ (w : List ℕ) (fs : List (List ℕ)) (h : Unknown w) where
  pub no_pool : (u : Use) → tries (pool_forms u) w fs ≡ none
  unfolding tries form when ◌gives◌ ◌or_else◌
  no_pool u = rw (h Mmio, h Pio, h Host, h Input, h Msi)

  pub no_hold : (o : ℕ) → tries (hold_forms o) w fs ≡ none
  unfolding tries form when ◌gives◌ ◌or_else◌
  no_hold o = rw (h Mmio, h Pio, h Host, h Input, h Lpi, h Device, h Event)

  pub no_want : (q s : ℕ) → tries (want_forms q s) w fs ≡ none
  unfolding tries form when ◌gives◌ ◌or_else◌
  no_want q s = rw (h Mmio, h Pio, h Host, h Input, h Msi)

-- ---- `auto` for a form's last number

pub within_auto : (k i : ℕ) (xs : List Field) (ns : List ℕ) → Within i (set xs k Auto) ns → Within i xs ns
within_auto k i [] ns w = tt
within_auto zero i (x ∷ xs) ns w = (omega (arith, w.0), w.1)
within_auto (suc k) i (x ∷ xs) ns w = (w.0, within_auto k (suc i) xs ns w.1)

module _ (n : ℕ) (form : List Field) (fs : List (List ℕ)) (coded : all_of counts form ≡ true) (coded' : all_of counts (auto_last n form) ≡ true) {A : Type 0} (f : (ℕ → ℕ) → D.Choice → A) where
  -- the two forms that differ in it are tried, and say what they say
  abbrev both : Option A
  both = (numbers (map field_code (auto_last n form)) fs gives (λ m. f m auto)) or_else ((numbers (map field_code form) fs gives (λ m. f m (at (m (n - 1))))) or_else none)

  choice_by : (ns : List ℕ) (c : Choice ℕ) → ChosenAs n form fs ns c → some (f (λ i. get_or ns i 0) (choice_of c)) ≡ both
  choice_by ns C.Auto e = form_here (auto_last n form) fs coded' (λ m. f m auto) _ ns (ap row_of e)
  choice_by ns (C.Fixed b) (p, q, r) =
      rw r (form_here form fs coded (λ m. f m (at (m (n - 1)))) none ns (ap row_of q))
      ∙ form_past (auto_last n form) fs coded' (λ m. f m auto) _ (ap row_of p)

  pub choice_here : (ns : List ℕ) (c : Choice ℕ) → Chosen n form fs ns c → some (f (λ i. get_or ns i 0) (choice_of c)) ≡ both
  choice_here ns c h = choice_by ns c h.says

  pub choice_past : (none ≡ numbers_by field_says (auto_last n form) fs) × (none ≡ numbers_by field_says form fs) → none ≡ both
  choice_past (p, q) =
      form_past form fs coded (λ m. f m (at (m (n - 1)))) none (ap row_of q)
      ∙ form_past (auto_last n form) fs coded' (λ m. f m auto) _ (ap row_of p)
