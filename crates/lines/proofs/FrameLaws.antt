-- A line that is written of a form: it fits, no tab or newline is in its fields, and it is read as the form's call. Assumes nothing.
use mathlib.Core.Path.{◌≡◌, refl, ◌∙◌, ap}
use mathlib.Core.Bool.{Bool, true, false, not, ◌&&◌}
use mathlib.Core.List.{List, [], ◌∷◌, ◌++◌}
use mathlib.Core.Option.{Option, none, some}
use Prim.Native.Nat.{ℕ, suc, ◌+◌, ◌*◌, ◌≤◌}
use Prim.Native.String.{String}
use native.Mathlib.Omega.{arith}
use lib.Dec.{eqb, leb, ltb}
use lib.ListN.{length, get_or, length-append}
use borrow.Author.Tests.{leb-true, ltb-true, lt-ltb, le-leb, ne_eqb}
use Rattle.definition.specs.Base.{all_of}
use Rattle.definition.proofs.BaseLaws.{true_T}
use Rattle.definition.specs.Request.{Use, automatic, fixed}
use Rattle.definition.specs.Calls.{Call}
use Rattle.lines.specs.Base.{line_limit, bytes, tab, newline, split, when, pick}
use Rattle.lines.specs.Numbers.{digit, digit_limit, digits}
use Rattle.lines.specs.Forms.{the_auto, Form, pool_forms, hold_forms, want_forms, tries, field_of, fields_of, Spelling}
use Rattle.lines.specs.Line.{behind, use_word, by_fields, read_line, line_from, spellable}
use Rattle.lines.specs.Output.{field}
use Rattle.lines.proofs.DigitLaws.{digits_length}
use Rattle.lines.proofs.RoundTrip.{all_append, digits_digits}
use Rattle.lines.proofs.FormLaws.{and_both}
use Rattle.lines.proofs.SpellLaws.{digit_between, narrow, without, fields_parted, behind_append}
use Rattle.lines.proofs.FoundLaws.{tries_among, among_all, Spelled, Spells}

-- ---- fields have no tab and no newline: all their bytes come behind these

abbrev printed : List ℕ → Bool
printed l = all_of (ltb newline) l

-- what passes one test passes the other
all_pass : {A : Type 0} (p q : A → Bool) → ((a : A) → p a ≡ true → q a ≡ true) → (l : List A) → all_of p l ≡ true → all_of q l ≡ true
unfolding all_of
all_pass p q h [] e = refl
all_pass p q h (x ∷ xs) e = let (s, t) = and_both (p x) (all_of p xs) e in rw (h x s) (all_pass p q h xs t)

digit_printed : (b : ℕ) → digit b ≡ true → ltb newline b ≡ true
digit_printed b e = let (low, high) = digit_between b e in lt-ltb newline b (omega arith)

digits_printed : (n : ℕ) → printed (digits n) ≡ true
digits_printed n = all_pass digit (ltb newline) digit_printed (digits n) (digits_digits n)

field_printed : (m v : ℕ) → printed (field_of m v) ≡ true
unfolding field_of all_of
field_printed m v = go (eqb m the_auto)
  where
    go : (t : Bool) → printed (pick t (bytes "auto") (digits v)) ≡ true
    go true = refl
    go false = digits_printed v

fields_printed : (ms : List ℕ) (n : ℕ → ℕ) → all_of printed (fields_of ms n) ≡ true
unfolding fields_of all_of
fields_printed [] n = refl
fields_printed (m ∷ ms) n = rw (field_printed m (n 0)) (fields_printed ms (λ i. n (suc i)))

-- so they are without either
module _ (c : ℕ) (low : c ≤ newline) where
  byte_without : (b : ℕ) → ltb newline b ≡ true → not (eqb b c) ≡ true
  byte_without b e = rw (ne_eqb b c (λ q. omega (arith, ltb-true newline b e)))

  printed_without : (l : List ℕ) → printed l ≡ true → without c l ≡ true
  printed_without l e = all_pass (ltb newline) (λ b. not (eqb b c)) byte_without l e

behind_closed : (fs : List (List ℕ)) → all_of printed fs ≡ true → without newline (behind fs) ≡ true
unfolding behind all_of
behind_closed [] e = refl
behind_closed (f ∷ fs) e =
    let (p, q) = and_both (printed f) (all_of printed fs) e in
    all_append (λ b. not (eqb b newline)) f (behind fs) (printed_without newline (omega arith) f p) (behind_closed fs q)

-- ---- fields are short

field_length : (m v : ℕ) → length (field_of m v) ≤ digit_limit
unfolding field_of
field_length m v = go (eqb m the_auto)
  where
    go : (t : Bool) → length (pick t (bytes "auto") (digits v)) ≤ digit_limit
    go true = omega arith
    go false = digits_length v

fields_length : (ms : List ℕ) (n : ℕ → ℕ) → length (behind (fields_of ms n)) ≤ length ms * field
unfolding fields_of behind
fields_length [] n = omega arith
fields_length (m ∷ ms) n =
    let rest : List ℕ = behind (fields_of ms (λ i. n (suc i))) in
    omega (arith, length-append (field_of m (n 0)) rest, field_length m (n 0), fields_length ms (λ i. n (suc i)))

-- ---- the line of a form, behind a word and heads

-- what a form of the table is, behind so many bytes: its numbers have at most 64 bits, it has a field, its word has no tab or newline, its line fits
abbrev fair : ℕ → Form → Bool
fair before f =
    narrow f.fields
    && (ltb 0 (length f.fields) && (printed (bytes f.word) && leb (before + (1 + (length (bytes f.word) + length f.fields * field))) line_limit))

record Fair (before : ℕ) (f : Form) : Type 0 where
  small : narrow f.fields ≡ true
  some_field : ltb 0 (length f.fields) ≡ true
  clear : printed (bytes f.word) ≡ true
  short : before + (1 + (length (bytes f.word) + length f.fields * field)) ≤ line_limit

is_fair : (before : ℕ) (f : Form) → fair before f ≡ true → Fair before f
is_fair before f e =
    let width : ℕ = before + (1 + (length (bytes f.word) + length f.fields * field)) in
    let (s, p) = and_both (narrow f.fields) _ e in
    let (t, q) = and_both (ltb 0 (length f.fields)) _ p in
    let (u, r) = and_both (printed (bytes f.word)) _ q in
    record { small = s; some_field = t; clear = u; short = leb-true width line_limit r }

-- what a line has before the kind's word, and the forms from there on
pub record Frame (word : String) (heads : List (List ℕ)) (forms : List Form) : Type 0 where
  size : ℕ  -- no more bytes come before the kind's word
  before : length (bytes word) + length (behind heads) ≤ size
  word_printed : printed (bytes word) ≡ true
  heads_printed : all_of printed heads ≡ true
  forms_fair : all_of (fair size) forms ≡ true

-- a line that is no longer than a line may be, with no newline in it
pub record Fits (l : List ℕ) : Type 0 where
  pub short : length l ≤ line_limit
  pub closed : without newline l ≡ true

pub nothing_fits : Fits []
unfolding all_of
nothing_fits = record { short = omega arith; closed = refl }

-- the fields behind the heads are read by the forms
abbrev pub Opens : String → List (List ℕ) → List Form → Type 0
Opens word heads forms = (k f : List ℕ) (fs : List (List ℕ)) → by_fields (bytes word ∷ (heads ++ (k ∷ f ∷ fs))) ≡ tries forms k (f ∷ fs)

module _ {word : String} {heads : List (List ℕ)} {forms : List Form} (F : Frame word heads forms) where
  module _ {c : Call} {s : Spelling} (S : Spelled forms c s) where
    abbrev own : List (List ℕ)
    own = fields_of s.form.fields (λ i. get_or s.numbers i 0)

    abbrev all : List (List ℕ)
    all = heads ++ (bytes s.form.word ∷ own)

    form_fair : Fair F.size s.form
    form_fair = is_fair F.size s.form (among_all (fair F.size) S.among F.forms_fair)

    all_printed : all_of printed all ≡ true
    unfolding all_of
    all_printed = all_append printed heads (bytes s.form.word ∷ own) F.heads_printed (rw form_fair.clear (fields_printed s.form.fields (λ i. get_or s.numbers i 0)))

    all_parted : split tab (bytes word ++ behind all) ≡ bytes word ∷ all
    all_parted =
        let tabs : tab ≤ newline = omega arith in
        fields_parted (bytes word) all (printed_without tab tabs (bytes word) F.word_printed) (all_pass printed (without tab) (printed_without tab tabs) all all_printed)

    all_fits : Fits (bytes word ++ behind all)
    unfolding behind
    all_fits =
        record {
          short =
              omega (
                arith,
                length-append (bytes word) (behind all),
                ap length (behind_append heads (bytes s.form.word ∷ own)) ∙ length-append (behind heads) (behind (bytes s.form.word ∷ own)),
                length-append (bytes s.form.word) (behind own),
                fields_length s.form.fields (λ i. get_or s.numbers i 0),
                form_fair.short,
                F.before,
              );
          closed = all_append (λ b. not (eqb b newline)) (bytes word) (behind all) (printed_without newline (omega arith) (bytes word) F.word_printed) (behind_closed all all_printed);
        }

  pub made_fits : (c : Call) (o : Option Spelling) → Spells forms c o → Fits (line_from word heads o)
  unfolding line_from
  made_fits c none S = nothing_fits
  made_fits c (some s) S = all_fits S

  opened : Opens word heads forms → (k : List ℕ) (ms : List ℕ) (n : ℕ → ℕ) → ltb 0 (length ms) ≡ true → by_fields (bytes word ∷ (heads ++ (k ∷ fields_of ms n))) ≡ tries forms k (fields_of ms n)
  unfolding fields_of
  opened O k [] n e = absurd (true_T false e)
  opened O k (m ∷ ms) n e = O k (field_of m (n 0)) (fields_of ms (λ i. n (suc i)))

  pub made_said : Opens word heads forms → (c : Call) (o : Option Spelling) → Spells forms c o → spellable o ≡ true → read_line (line_from word heads o) ≡ some c
  unfolding read_line line_from when
  made_said O c none S e = absurd (true_T false e)
  made_said O c (some s) S e =
      let n : ℕ → ℕ = λ i. get_or s.numbers i 0 in
      let h : Fair F.size s.form = form_fair S in
      rw (le-leb (length (bytes word ++ behind (all S))) line_limit (all_fits S).short, all_parted S, opened O (bytes s.form.word) s.form.fields n h.some_field)
      (tries_among S.among s.numbers h.small e ∙ ap some S.back)

-- ---- the three words

pub pool_frame : (u : Use) → Frame "pool" (use_word u ∷ []) (pool_forms u)
unfolding behind all_of
pool_frame automatic = record { size = 10; before = omega arith; word_printed = refl; heads_printed = refl; forms_fair = refl }
pool_frame fixed = record { size = 10; before = omega arith; word_printed = refl; heads_printed = refl; forms_fair = refl }

pub hold_frame : (o : ℕ) → Frame "hold" (digits o ∷ []) (hold_forms o)
unfolding behind all_of
hold_frame o = record { size = 4 + field; before = omega (arith, length-append (digits o) [], digits_length o); word_printed = refl; heads_printed = rw (digits_printed o); forms_fair = refl }

pub want_frame : (q s : ℕ) → Frame "want" (digits q ∷ digits s ∷ []) (want_forms q s)
unfolding behind all_of
want_frame q s =
    record {
      size = 4 + 2 * field;
      before = omega (arith, length-append (digits q) (tab ∷ (digits s ++ [])), length-append (digits s) [], digits_length q, digits_length s);
      word_printed = refl;
      heads_printed = rw (digits_printed q, digits_printed s);
      forms_fair = refl;
    }
