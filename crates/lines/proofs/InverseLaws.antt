-- The line of a call and the call of a line are inverse to each other; a line fits, and holds no newline. Assumes nothing.
use mathlib.Core.Path.{◌≡◌, refl, ◌∙◌, ap}
use mathlib.Core.Bool.{Bool, true, false, not, ◌&&◌}
use mathlib.Core.List.{List, [], ◌∷◌, ◌++◌, map}
use mathlib.Core.Option.{Option, none, some}
use Prim.Native.Nat.{ℕ, ◌≤◌}
use Prim.Native.String.{String}
use native.Mathlib.Omega.{arith}
use lib.Dec.{eqb, leb}
use lib.ListN.{length, get_or}
use borrow.Author.Tests.{leb-true, le-leb}
use Rattle.definition.specs.Base.{all_of}
use Rattle.definition.proofs.BaseLaws.{true_T}
use Rattle.definition.specs.Request.{Use, automatic, fixed}
use Rattle.definition.specs.Calls.{Call, pool, hold, start, want}
use Rattle.lines.specs.Base.{line_limit, bytes, tab, newline, same, split, when, pick, ◌and_then◌, ◌or_else◌}
use Rattle.lines.specs.Numbers.{number, digits}
use Rattle.lines.specs.Forms.{n32, Form, pool_forms, hold_forms, want_forms, numbers, form, ◌gives◌, tries, fields_of, Spelling, pool_spelling, hold_spelling, want_spelling}
use Rattle.lines.specs.Line.{behind, use_word, use_of, behind_pool, behind_hold, behind_want, by_word, by_fields, read_line, line_from, line_of, numbers_fit, spellable, sayable}
use Rattle.lines.proofs.RoundTrip.{number_digits}
use Rattle.lines.proofs.FormLaws.{when_some, and_both, number_within}
use Rattle.lines.proofs.SpellLaws.{same_eq, and_then_some, number_back, narrow, numbers_back, numbers_within, values_of, values_within, fields_joined}
use Rattle.lines.proofs.FoundLaws.{pool_spells, hold_spells, want_spells}
use Rattle.lines.proofs.FrameLaws.{Opens, Fits, nothing_fits, made_fits, made_said, pool_frame, hold_frame, want_frame}

-- ---- THE TABLE: a form's call is spelled by that form

abbrev spelled : Form → (ℕ → ℕ) → Spelling
spelled f n = record { form = f; numbers = values_of f.fields n }

-- the line of a call, and whether a line says it
record Written : Type 0 where
  line : List ℕ
  fits : Bool

abbrev of_call : Call → Written
of_call c = record { line = line_of c; fits = sayable c }

-- .. as they are spelled behind a word and heads; ok is what else the call's numbers ask
abbrev of_form : String → List (List ℕ) → (Bool → Bool) → (ℕ → ℕ) → Form → Written
of_form word heads ok n f = record { line = line_from word heads (some (spelled f n)); fits = ok (numbers_fit f.fields (values_of f.fields n)) }

abbrev want_fits : ℕ → ℕ → Bool → Bool
want_fits q s b = leb q n32 && (leb s n32 && b)

abbrev Told : String → List (List ℕ) → (Bool → Bool) → List Form → Type 0
Told word heads ok forms = (n : ℕ → ℕ) → map (λ f. of_call (f.says n)) forms ≡ map (of_form word heads ok n) forms

pools_told : (u : Use) → Told "pool" (use_word u ∷ []) (λ b. b) (pool_forms u)
unfolding line_of sayable values_of
pools_told u n = refl

holds_told : (o : ℕ) → Told "hold" (digits o ∷ []) (λ b. leb o n32 && b) (hold_forms o)
unfolding line_of sayable values_of
holds_told o n = refl

wants_told : (q s : ℕ) → Told "want" (digits q ∷ digits s ∷ []) (want_fits q s) (want_forms q s)
unfolding line_of sayable values_of
wants_told q s n = refl

-- ---- a call that was read is spelled as it stood

abbrev narrow_form : Form → Bool
narrow_form f = narrow f.fields

record Said (c : Call) (l : List ℕ) (b : Bool) : Type 0 where
  line : line_of c ≡ l
  fits : sayable c ≡ b

module _ (word : String) (heads : List (List ℕ)) (ok : Bool → Bool) where
  form_said : (f : Form) (k : List ℕ) (fs : List (List ℕ)) (vs : List ℕ) → let n : ℕ → ℕ = λ i. get_or vs i 0 in
      of_call (f.says n) ≡ of_form word heads ok n f → narrow_form f ≡ true → form (bytes f.word) f.fields k fs ≡ some vs
      → Said (f.says n) (bytes word ++ behind (heads ++ (k ∷ fs))) (ok true)
  unfolding form line_from
  form_said f k fs vs told small e =
      let (s, t) = when_some (same k (bytes f.word)) (numbers f.fields fs) vs e in
      let here : k ≡ bytes f.word = same_eq k (bytes f.word) s in
      let inside : numbers_fit f.fields vs ≡ true = numbers_within f.fields fs vs t in
      let values : values_of f.fields (λ i. get_or vs i 0) ≡ vs = values_within f.fields vs inside in
      let back : fields_of f.fields (λ i. get_or vs i 0) ≡ fs = numbers_back f.fields fs vs small t in
      record { line = ap (λ (w : Written). w.line) told ∙ rw (values, back, here); fits = ap (λ (w : Written). w.fits) told ∙ rw (values, inside) }

  tries_said : (forms : List Form) → Told word heads ok forms → all_of narrow_form forms ≡ true → (k : List ℕ) (fs : List (List ℕ)) (c : Call) → tries forms k fs ≡ some c
      → Said c (bytes word ++ behind (heads ++ (k ∷ fs))) (ok true)
  unfolding tries ◌gives◌ ◌or_else◌ all_of
  tries_said [] told small k fs c e = absurd (let z : ◌≡◌ {A = ℕ} 0 1 = cc in omega arith)
  tries_said (f ∷ forms) told small k fs c e =
      let (p, q) = and_both (narrow_form f) (all_of narrow_form forms) small in
      go p (tries_said forms (λ n. let h = told n in cc) q k fs c) (form (bytes f.word) f.fields k fs) refl e
    where
      go : narrow_form f ≡ true → (tries forms k fs ≡ some c → Said c (bytes word ++ behind (heads ++ (k ∷ fs))) (ok true)) → (o : Option (List ℕ))
          → form (bytes f.word) f.fields k fs ≡ o → (o gives f.says or_else tries forms k fs) ≡ some c → Said c (bytes word ++ behind (heads ++ (k ∷ fs))) (ok true)
      go p below none q r = below r
      go p below (some vs) q r =
          let there : f.says (λ i. get_or vs i 0) ≡ c = cc in
          rw (← there) (form_said f k fs vs (let h = told (λ i. get_or vs i 0) in cc) p q)

use_said : (x : List ℕ) (u : Use) → use_of x ≡ some u → x ≡ use_word u
unfolding use_of when ◌or_else◌
use_said x u e = go (same x (bytes "auto")) (same x (bytes "fixed")) refl refl e
  where
    go : (a b : Bool) → same x (bytes "auto") ≡ a → same x (bytes "fixed") ≡ b → (when a (some automatic) or_else when b (some fixed)) ≡ some u → x ≡ use_word u
    go true b p q r = let v : automatic ≡ u = cc in rw (← v) (same_eq x (bytes "auto") p)
    go false true p q r = let v : fixed ≡ u = cc in rw (← v) (same_eq x (bytes "fixed") q)
    go false false p q r = absurd (let z : ◌≡◌ {A = ℕ} 0 1 = cc in omega arith)

pool_said : (x y : List ℕ) (fs : List (List ℕ)) (c : Call) → behind_pool x y fs ≡ some c → Said c (bytes "pool" ++ behind (x ∷ y ∷ fs)) true
unfolding behind_pool all_of
pool_said x y fs c e =
    let (u, p, q) = and_then_some (use_of x) (λ u. tries (pool_forms u) y fs) c e in
    rw (use_said x u p) (tries_said "pool" (use_word u ∷ []) (λ b. b) (pool_forms u) (pools_told u) refl y fs c q)

hold_said : (x y : List ℕ) (fs : List (List ℕ)) (c : Call) → behind_hold x y fs ≡ some c → Said c (bytes "hold" ++ behind (x ∷ y ∷ fs)) true
unfolding behind_hold all_of
hold_said x y fs c e =
    let (o, p, q) = and_then_some (number n32 x) (λ o. tries (hold_forms o) y fs) c e in
    let l : leb o n32 ≡ true = le-leb o n32 (number_within n32 x o p) in
    let s = tries_said "hold" (digits o ∷ []) (λ b. leb o n32 && b) (hold_forms o) (holds_told o) refl y fs c q in
    rw (number_back n32 x o (omega arith) p, l) at s

want_said : (x y : List ℕ) (fs : List (List ℕ)) (c : Call) → behind_want x y fs ≡ some c → Said c (bytes "want" ++ behind (x ∷ y ∷ fs)) true
unfolding behind_want all_of
want_said x y [] c e = absurd (let z : ◌≡◌ {A = ℕ} 0 1 = cc in omega arith)
want_said x y (k ∷ []) c e = absurd (let z : ◌≡◌ {A = ℕ} 0 1 = cc in omega arith)
want_said x y (k ∷ f ∷ fs) c e =
    let (q, p, r) = and_then_some (number n32 x) (λ q. number n32 y and_then λ s. tries (want_forms q s) k (f ∷ fs)) c e in
    let (s, t, h) = and_then_some (number n32 y) (λ s. tries (want_forms q s) k (f ∷ fs)) c r in
    let l : leb q n32 ≡ true = le-leb q n32 (number_within n32 x q p) in
    let m : leb s n32 ≡ true = le-leb s n32 (number_within n32 y s t) in
    let w = tries_said "want" (digits q ∷ digits s ∷ []) (want_fits q s) (want_forms q s) (wants_told q s) refl k (f ∷ fs) c h in
    rw (number_back n32 x q (omega arith) p, number_back n32 y s (omega arith) t, l, m) at w

word_said : (w x y : List ℕ) (fs : List (List ℕ)) (c : Call) → by_word w x y fs ≡ some c → Said c (w ++ behind (x ∷ y ∷ fs)) true
unfolding by_word
word_said w x y fs c e = go (same w (bytes "pool")) (same w (bytes "hold")) (same w (bytes "want")) refl refl refl e
  where
    go : (a b d : Bool) → same w (bytes "pool") ≡ a → same w (bytes "hold") ≡ b → same w (bytes "want") ≡ d
        → pick a (behind_pool x y fs) (pick b (behind_hold x y fs) (pick d (behind_want x y fs) none)) ≡ some c → Said c (w ++ behind (x ∷ y ∷ fs)) true
    go true b d p q r h = rw (same_eq w (bytes "pool") p) (pool_said x y fs c h)
    go false true d p q r h = rw (same_eq w (bytes "hold") q) (hold_said x y fs c h)
    go false false true p q r h = rw (same_eq w (bytes "want") r) (want_said x y fs c h)
    go false false false p q r h = absurd (let z : ◌≡◌ {A = ℕ} 0 1 = cc in omega arith)

fields_said : (l : List ℕ) (ps : List (List ℕ)) (c : Call) → split tab l ≡ ps → by_fields ps ≡ some c → Said c l true
unfolding by_fields
fields_said l [] c p e = absurd (let z : ◌≡◌ {A = ℕ} 0 1 = cc in omega arith)
fields_said l (w ∷ []) c p e = absurd (let z : ◌≡◌ {A = ℕ} 0 1 = cc in omega arith)
fields_said l (w ∷ x ∷ []) c p e = absurd (let z : ◌≡◌ {A = ℕ} 0 1 = cc in omega arith)
fields_said l (w ∷ x ∷ y ∷ []) c p e = absurd (let z : ◌≡◌ {A = ℕ} 0 1 = cc in omega arith)
fields_said l (w ∷ x ∷ y ∷ f ∷ fs) c p e = rw (fields_joined l w (x ∷ y ∷ f ∷ fs) p) at (word_said w x y (f ∷ fs) c e)

read_said : (l : List ℕ) (c : Call) → read_line l ≡ some c → Said c l true
unfolding read_line
read_said l c e = fields_said l (split tab l) c refl (when_some (leb (length l) line_limit) (by_fields (split tab l)) c e).1

-- THE CALL OF A LINE: its line is that line, and it is sayable
pub line_said : (l : List ℕ) (c : Call) → read_line l ≡ some c → line_of c ≡ l
line_said l c e = (read_said l c e).line

pub read_sayable : (l : List ℕ) (c : Call) → read_line l ≡ some c → sayable c ≡ true
read_sayable l c e = (read_said l c e).fits

-- ---- a line that is written is read

pool_opens : (u : Use) → Opens "pool" (use_word u ∷ []) (pool_forms u)
unfolding by_fields by_word behind_pool use_of same when ◌or_else◌ ◌and_then◌
pool_opens automatic k f fs = refl
pool_opens fixed k f fs = refl

hold_opens : (o : ℕ) → leb o n32 ≡ true → Opens "hold" (digits o ∷ []) (hold_forms o)
unfolding by_fields by_word behind_hold same ◌and_then◌
hold_opens o e k f fs =
    let l : o ≤ n32 = leb-true o n32 e in
    rw (number_digits n32 o (omega arith) l)

want_opens : (q s : ℕ) → leb q n32 ≡ true → leb s n32 ≡ true → Opens "want" (digits q ∷ digits s ∷ []) (want_forms q s)
unfolding by_fields by_word behind_want same ◌and_then◌
want_opens q s d e k f fs =
    let l : q ≤ n32 = leb-true q n32 d in
    let m : s ≤ n32 = leb-true s n32 e in
    rw (number_digits n32 q (omega arith) l, ◌and_then◌, number_digits n32 s (omega arith) m)

-- THE LINE OF A CALL: where a line says the call, it is read as that call
pub said_line : (c : Call) → sayable c ≡ true → read_line (line_of c) ≡ some c
unfolding line_of sayable
said_line (pool u p) e = made_said (pool_frame u) (pool_opens u) (pool u p) (pool_spelling u p) (pool_spells u p) e
said_line (hold o h) e =
    let (l, t) = and_both (leb o n32) (spellable (hold_spelling o h)) e in
    made_said (hold_frame o) (hold_opens o l) (hold o h) (hold_spelling o h) (hold_spells o h) t
said_line start e = absurd (true_T false e)
said_line (want r) e =
    let q : ℕ = r.requester in
    let s : ℕ = r.slot in
    let o : Option Spelling = want_spelling q s r.want in
    let (l, t) = and_both (leb q n32) (leb s n32 && spellable o) e in
    let (m, h) = and_both (leb s n32) (spellable o) t in
    made_said (want_frame q s) (want_opens q s l m) (want r) o (want_spells q s r.want) h

line_fits : (c : Call) → Fits (line_of c)
unfolding line_of
line_fits (pool u p) = made_fits (pool_frame u) (pool u p) (pool_spelling u p) (pool_spells u p)
line_fits (hold o h) = made_fits (hold_frame o) (hold o h) (hold_spelling o h) (hold_spells o h)
line_fits start = nothing_fits
line_fits (want r) = made_fits (want_frame r.requester r.slot) (want r) (want_spelling r.requester r.slot r.want) (want_spells r.requester r.slot r.want)

-- .. it is no longer than a line may be
pub line_short : (c : Call) → length (line_of c) ≤ line_limit
line_short c = (line_fits c).short

-- .. and no newline is in it
pub line_closed : (c : Call) → all_of (λ b. not (eqb b newline)) (line_of c) ≡ true
line_closed c = (line_fits c).closed
