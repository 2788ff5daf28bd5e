-- The form that spells a call: it is in the table, and no form before it reads its fields. Assumes nothing.
use mathlib.Core.Path.{◌≡◌, refl}
use mathlib.Core.Bool.{Bool, true, false, not, ◌&&◌, ◌||◌}
use mathlib.Core.List.{List, [], ◌∷◌}
use mathlib.Core.Option.{Option, none, some}
use Prim.Native.Nat.{ℕ, zero, suc}
use native.Mathlib.Omega.{arith}
use lib.Dec.{eqb}
use lib.ListN.{take, drop, get_or}
use borrow.Author.Tests.{eqb-true}
use Rattle.definition.specs.Base.{all_of}
use Rattle.definition.proofs.BaseLaws.{true_T}
use Rattle.definition.specs.Pools.{Pool, mmio_pool, pio_pool, host_pool, input_pool, msi_pool, Hold, mmio_hold, pio_hold, host_hold, input_hold, device_hold, event_hold, lpi_hold, pair_hold}
use Rattle.definition.specs.Request.{auto, at, Want, mmio_want, pio_want, input_want, host_want, msi_want, Use}
use Rattle.definition.specs.Calls.{Call, pool, hold, want}
use Rattle.lines.specs.Base.{bytes, same, when, pick, ◌and_then◌, ◌or_else◌}
use Rattle.lines.specs.Numbers.{digits}
use Rattle.lines.specs.Forms.{the_auto, Form, pool_forms, hold_forms, want_forms, entry, numbers, form, ◌gives◌, tries, field_of, fields_of, Spelling, pool_spelling, hold_spelling, want_spelling}
use Rattle.lines.specs.Line.{numbers_fit}
use Rattle.lines.proofs.FormLaws.{and_both}
use Rattle.lines.proofs.SpellLaws.{same_refl, auto_no_digits, narrow, numbers_of}

-- ---- forms that read no fields of one another

-- a field is `auto` in the first, and a number in the second
unfoldable pub unlike : List ℕ → List ℕ → Bool
unlike [] ms = false
unlike (l ∷ ls) [] = false
unlike (l ∷ ls) (m ∷ ms) = (eqb l the_auto && not (eqb m the_auto)) || unlike ls ms

unlike_numbers : (ls ms : List ℕ) (n : ℕ → ℕ) → unlike ls ms ≡ true → numbers ls (fields_of ms n) ≡ none
unfolding unlike numbers fields_of field_of ◌and_then◌
unlike_numbers [] ms n e = absurd (true_T false e)
unlike_numbers (l ∷ ls) [] n e = absurd (true_T false e)
unlike_numbers (l ∷ ls) (m ∷ ms) n e = go (eqb l the_auto) (eqb m the_auto) refl e (unlike_numbers ls ms (λ i. n (suc i)))
  where
    rest : Option (List ℕ)
    rest = numbers ls (fields_of ms (λ i. n (suc i)))

    past_first : (o : Option ℕ) → rest ≡ none → (o and_then λ v. rest and_then λ vs. some (v ∷ vs)) ≡ none
    past_first none h = refl
    past_first (some v) h = rw h

    go : (s t : Bool) → eqb l the_auto ≡ s → ((s && not t) || unlike ls ms) ≡ true → (unlike ls ms ≡ true → rest ≡ none)
        → (entry l (pick t (bytes "auto") (digits (n 0))) and_then λ v. rest and_then λ vs. some (v ∷ vs)) ≡ none
    go true false p q below = rw (eqb-true l the_auto p, auto_no_digits (n 0), ◌and_then◌)
    go true true p q below = past_first (entry l (bytes "auto")) (below q)
    go false t p q below = past_first (entry l (pick t (bytes "auto") (digits (n 0)))) (below q)

-- g reads no fields of f
abbrev pub apart : Form → Form → Bool
apart g f = not (same (bytes f.word) (bytes g.word)) || unlike g.fields f.fields

apart_none : (g f : Form) (n : ℕ → ℕ) → apart g f ≡ true → form (bytes g.word) g.fields (bytes f.word) (fields_of f.fields n) ≡ none
unfolding form when
apart_none g f n e = go (same (bytes f.word) (bytes g.word)) e
  where
    go : (t : Bool) → (not t || unlike g.fields f.fields) ≡ true → when t (numbers g.fields (fields_of f.fields n)) ≡ none
    go true q = unlike_numbers g.fields f.fields n q
    go false q = refl

-- f is one of the forms, and none before it reads its fields
pub data Among (f : Form) : List Form → Type 0 where
  here : {forms : List Form} → Among f (f ∷ forms)
  past : {g : Form} {forms : List Form} → apart g f ≡ true → Among f forms → Among f (g ∷ forms)

pub tries_among : {f : Form} {forms : List Form} → Among f forms → (vs : List ℕ) → narrow f.fields ≡ true → numbers_fit f.fields vs ≡ true
    → tries forms (bytes f.word) (fields_of f.fields (λ i. get_or vs i 0)) ≡ some (f.says (λ i. get_or vs i 0))
unfolding tries form when ◌gives◌ ◌or_else◌
tries_among {f} here vs small inside = rw (same_refl (bytes f.word), numbers_of f.fields vs small inside, ◌gives◌, ◌or_else◌)
tries_among {f} (past {g} {forms} e a) vs small inside = rw (apart_none g f (λ i. get_or vs i 0) e, ◌gives◌, ◌or_else◌) (tries_among a vs small inside)

pub among_all : {f : Form} {forms : List Form} (p : Form → Bool) → Among f forms → all_of p forms ≡ true → p f ≡ true
unfolding all_of
among_all p (here {forms}) e = (and_both (p _) (all_of p forms) e).0
among_all p (past {g} {forms} d a) e = among_all p a (and_both (p g) (all_of p forms) e).1

-- the i-th form
found : {f : Form} {rest : List Form} (i : ℕ) (forms : List Form) → drop i forms ≡ f ∷ rest → all_of (λ g. apart g f) (take i forms) ≡ true → Among f forms
unfolding all_of
found zero forms there before = rw there here
found (suc i) [] there before = absurd (let z : ◌≡◌ {A = ℕ} 0 1 = cc in omega arith)
found {f} (suc i) (g ∷ forms) there before =
    let (p, q) = and_both (apart g f) (all_of (λ h. apart h f) (take i forms)) before in
    past p (found i forms there q)

-- ---- THE TABLE: the form that spells a call is one of the forms, and says the call of the call's numbers

pub record Spelled (forms : List Form) (c : Call) (s : Spelling) : Type 0 where
  pub among : Among s.form forms
  pub back : s.form.says (λ i. get_or s.numbers i 0) ≡ c

abbrev pub Spells : List Form → Call → Option Spelling → Type 0
Spells forms c none = Unit
Spells forms c (some s) = Spelled forms c s

spells : {forms rest : List Form} {c : Call} {s : Spelling} (i : ℕ) → drop i forms ≡ s.form ∷ rest → all_of (λ g. apart g s.form) (take i forms) ≡ true → s.form.says (λ i. get_or s.numbers i 0) ≡ c → Spelled forms c s
spells {forms} i there before e = record { among = found i forms there before; back = e }

pub pool_spells : (u : Use) (p : Pool) → Spells (pool_forms u) (pool u p) (pool_spelling u p)
unfolding all_of same unlike
pool_spells u (mmio_pool s e) = spells 0 refl refl refl
pool_spells u (pio_pool s e) = spells 1 refl refl refl
pool_spells u (host_pool s e) = spells 2 refl refl refl
pool_spells u (input_pool c s e) = spells 3 refl refl refl
pool_spells u (msi_pool c i ds de es ee ls le) = spells 4 refl refl refl

pub hold_spells : (o : ℕ) (h : Hold) → Spells (hold_forms o) (hold o h) (hold_spelling o h)
unfolding all_of same unlike
hold_spells o (mmio_hold s e) = spells 0 refl refl refl
hold_spells o (pio_hold s e) = spells 1 refl refl refl
hold_spells o (host_hold s e) = spells 2 refl refl refl
hold_spells o (input_hold c number t sharing) = spells 3 refl refl refl
hold_spells o (lpi_hold c s e) = spells 4 refl refl refl
hold_spells o (device_hold c i s e) = spells 5 refl refl refl
hold_spells o (event_hold c i device s e) = spells 6 refl refl refl
hold_spells o (pair_hold c number t irq) = tt

pub want_spells : (q s : ℕ) (w : Want) → Spells (want_forms q s) (want (record { requester = q; slot = s; want = w })) (want_spelling q s w)
unfolding all_of same unlike
want_spells q s (mmio_want size a auto) = spells 0 refl refl refl
want_spells q s (pio_want size a auto) = spells 1 refl refl refl
want_spells q s (host_want auto) = spells 2 refl refl refl
want_spells q s (input_want c t sharing auto) = spells 3 refl refl refl
want_spells q s (msi_want c i count auto auto auto) = spells 4 refl refl refl
want_spells q s (mmio_want size a (at b)) = spells 5 refl refl refl
want_spells q s (pio_want size a (at b)) = spells 6 refl refl refl
want_spells q s (host_want (at b)) = spells 7 refl refl refl
want_spells q s (input_want c t sharing (at b)) = spells 8 refl refl refl
want_spells q s (msi_want c i count (at d) (at e) (at l)) = spells 9 refl refl refl
want_spells q s (msi_want c i count auto auto (at l)) = tt
want_spells q s (msi_want c i count auto (at e) auto) = tt
want_spells q s (msi_want c i count auto (at e) (at l)) = tt
want_spells q s (msi_want c i count (at d) auto auto) = tt
want_spells q s (msi_want c i count (at d) auto (at l)) = tt
want_spells q s (msi_want c i count (at d) (at e) auto) = tt
