-- Laws of the program's output: what is read and answered is the definition's output, which has its longest; and no more of an input is needed than its limit. Assumes nothing.
use mathlib.Core.Path.{◌≡◌, refl, sym, ap, ◌∙◌}
use mathlib.Core.Bool.{◌&&◌}
use mathlib.Core.List.{List, [], ◌∷◌, ◌++◌, map, append_assoc, append-nil}
use mathlib.Core.Option.{Option, none, some}
use Prim.Native.Nat.{ℕ, zero, suc, ◌+◌, ◌*◌, ◌/◌, ◌-◌, ◌≤◌, ◌<◌}
use native.Mathlib.Omega.{arith}
use lib.Dec.{eqb, leb}
use lib.ListN.{length, take, drop, get_or, replicate, length-append}
use lib.Seq.{take_at}
use borrow.Author.Tests.{le-leb}
use Rattle.definition.specs.Base.{Refusal, bad_line, says, tell, Answer, accepted, refused}
use Rattle.definition.proofs.PlanLaws.{tell_number}
use Rattle.definition.specs.Request.{auto, mmio_want, pio_want, Request}
use Rattle.definition.specs.Calls.{want}
use Rattle.definition.specs.Plan.{written}
use Rattle.definition.specs.Registers.{register_count}
use Rattle.definition.proofs.RegisterLaws.{registers_says}
use Rattle.definition.proofs.RegisterFairLaws.{Ranges, end, mmio, pio, Fair, registers_fair}
use Rattle.flat.specs.Flat.{request_size, numbers_of, numbers_of_all}
use Rattle.flat.proofs.NumbersLaws.{length_numbers}
use Rattle.std.specs.Prelude.{None, Some}
use Rattle.lines.specs.Base.{bytes, tab, newline, split, ◌and_then◌}
use Rattle.lines.specs.Numbers.{digits}
use Rattle.lines.specs.Forms.{field_of, fields_of}
use Rattle.lines.specs.Line.{behind, line_with, line_from, line_of}
use Rattle.lines.specs.Output.{carried_by, got_limit, no_line, no_numbers}
use Rattle.lines.specs.Code.{row_of}
use Rattle.lines.proofs.FormLaws.{when_some}
use Rattle.lines.proofs.Longest.{behind_length}
use Rattle.writers.specs.declared.put.Page.{Page}
use Rattle.writers.specs.Put.{Room, Puts}
use Rattle.writers.proofs.PutLaws.{puts_length, put_exact}
use Rattle.registers.specs.Sizing.{Sized, sized, sizing, registers_into}
use Rattle.sizer.specs.Words.{size_text_limit, word, fields, field_count, line_by, words_of}
use Rattle.sizer.specs.Sizes.{sizes_of, want_lines, answer_lines, sizes_output}
use Rattle.sizer.specs.Code.{capped_word, ask_line, ask_lines, sizes_limit}
use Rattle.sizer.proofs.LineLaws.{line_long}
use Rattle.sizer.proofs.WantLaws.{ask_length}
use Rattle.sizer.proofs.CapLaws.{sizes_capped}

-- ---- the lines of requests, from their numbers

-- one line, whatever numbers stand behind the request's own
module _ (r : Request) (zs : List ℕ) where
  abbrev Spelled : Type 0
  Spelled = (ask_line (numbers_of r ++ zs) ≡ line_of (want r) ++ (newline ∷ [])) × (drop request_size (numbers_of r ++ zs) ≡ zs)

mmio_spelled : (q slot size a : ℕ) (zs : List ℕ) → Spelled (record { requester = q; slot = slot; want = mmio_want size a auto }) zs
unfolding ask_line numbers_of line_with line_of line_from fields_of field_of carried_by
mmio_spelled q slot size a zs = (sym (append_assoc (bytes "want") (behind (digits q ∷ digits slot ∷ bytes "mmio" ∷ digits size ∷ digits a ∷ bytes "auto" ∷ [])) (newline ∷ [])), refl)

pio_spelled : (q slot size a : ℕ) (zs : List ℕ) → Spelled (record { requester = q; slot = slot; want = pio_want size a auto }) zs
unfolding ask_line numbers_of line_with line_of line_from fields_of field_of carried_by
pio_spelled q slot size a zs = (sym (append_assoc (bytes "want") (behind (digits q ∷ digits slot ∷ bytes "pio" ∷ digits size ∷ digits a ∷ bytes "auto" ∷ [])) (newline ∷ [])), refl)

-- all lines
step : (r : Request) (rs : List Request) (zs : List ℕ) → Spelled r (numbers_of_all rs ++ zs) → ask_lines (length rs) (numbers_of_all rs ++ zs) ≡ want_lines rs
    → ask_lines (suc (length rs)) (numbers_of_all (r ∷ rs) ++ zs) ≡ want_lines (r ∷ rs)
unfolding ask_lines want_lines numbers_of_all
step r rs zs s below = rw (append_assoc (numbers_of r) (numbers_of_all rs) zs, s.0, s.1, below) (append_assoc (line_of (want r)) (newline ∷ []) (want_lines rs))

wants_are : (rs : List Request) (zs : List ℕ) → Ranges rs → ask_lines (length rs) (numbers_of_all rs ++ zs) ≡ want_lines rs
unfolding ask_lines want_lines
wants_are _ zs end = refl
wants_are _ zs (mmio {q} {slot} {size} {a} {rs} below) = step _ rs zs (mmio_spelled q slot size a (numbers_of_all rs ++ zs)) (wants_are rs zs below)
wants_are _ zs (pio {q} {slot} {size} {a} {rs} below) = step _ rs zs (pio_spelled q slot size a (numbers_of_all rs ++ zs)) (wants_are rs zs below)

-- ---- how long they are

ask_limit : (k q slot size a : ℕ) (zs : List ℕ) → 7 ≤ length zs → length (carried_by k).word ≤ 5 → length (ask_line (k ∷ q ∷ slot ∷ size ∷ a ∷ zs)) ≤ got_limit
ask_limit k q slot size a zs l w = omega (arith, ask_length (k ∷ q ∷ slot ∷ size ∷ a ∷ zs) (omega arith), behind_length (q ∷ slot ∷ []), behind_length (size ∷ a ∷ []))

module _ (q slot size a : ℕ) where
  mmio_limit : length (ask_line (numbers_of (record { requester = q; slot = slot; want = mmio_want size a auto }) ++ [])) ≤ got_limit
  unfolding numbers_of carried_by
  mmio_limit = ask_limit 1 q slot size a (0 ∷ 0 ∷ 0 ∷ 0 ∷ 0 ∷ 0 ∷ 0 ∷ []) (omega arith) (omega arith)

  pio_limit : length (ask_line (numbers_of (record { requester = q; slot = slot; want = pio_want size a auto }) ++ [])) ≤ got_limit
  unfolding numbers_of carried_by
  pio_limit = ask_limit 2 q slot size a (0 ∷ 0 ∷ 0 ∷ 0 ∷ 0 ∷ 0 ∷ 0 ∷ []) (omega arith) (omega arith)

one_longer : (r : Request) (rs : List Request) → Spelled r [] → length (ask_line (numbers_of r ++ [])) ≤ got_limit → length (want_lines rs) ≤ length rs * got_limit
    → length (want_lines (r ∷ rs)) ≤ suc (length rs) * got_limit
unfolding want_lines
one_longer r rs s l below = omega (arith, ap length s.0, length-append (line_of (want r)) (newline ∷ []), length-append (line_of (want r)) (newline ∷ want_lines rs))

wants_length : (rs : List Request) → Ranges rs → length (want_lines rs) ≤ length rs * got_limit
unfolding want_lines
wants_length _ end = omega arith
wants_length _ (mmio {q} {slot} {size} {a} {rs} below) = one_longer _ rs (mmio_spelled q slot size a []) (mmio_limit q slot size a) (wants_length rs below)
wants_length _ (pio {q} {slot} {size} {a} {rs} below) = one_longer _ rs (pio_spelled q slot size a []) (pio_limit q slot size a) (wants_length rs below)

line_length : (w xs : List ℕ) → length (line_with w (map digits xs)) ≡ length w + (length (behind (map digits xs)) + 1)
unfolding line_with
line_length w xs = omega (arith, length-append w (behind (map digits xs) ++ (newline ∷ [])), length-append (behind (map digits xs)) (newline ∷ []))

abbrev Few : Answer (List Request) → Type 0
Few a = (rs : List Request) → a ≡ accepted rs → length rs ≤ register_count

answer_length : (a : Answer (List Request)) → Fair a → Few a → length (answer_lines a) ≤ sizes_limit
unfolding no_line
answer_length (accepted rs) fair few = omega (arith, wants_length rs fair, few rs refl)
answer_length (refused x) fair few = omega (arith, line_length (bytes "no") (no_numbers 0 (tell 0 x)), behind_length (no_numbers 0 (tell 0 x)))

sizes_fair : (o : Option (List ℕ)) → Fair (sizes_of o)
sizes_fair none = refl
sizes_fair (some ns) = registers_fair (get_or ns register_count 0) (take register_count ns) register_count

sizes_few : (o : Option (List ℕ)) → Few (sizes_of o)
sizes_few none rs e = absurd (let z : ◌≡◌ {A = ℕ} 0 1 = cc in omega arith)
sizes_few (some ns) rs e = (registers_says (get_or ns register_count 0) (take register_count ns) register_count rs e).room

-- THE THEOREM: whatever the input, the output has at most so many bytes
pub sizes_length : (text : List ℕ) → length (sizes_output text) ≤ sizes_limit
unfolding sizes_output
sizes_length text = answer_length (sizes_of (words_of text)) (sizes_fair (words_of text)) (sizes_few (words_of text))

-- ---- what was read

fields_length : (read : List ℕ → Option ℕ) (n : ℕ) (fs : List (List ℕ)) (ns : List ℕ) → fields read n fs ≡ some ns → length ns ≡ n
unfolding fields ◌and_then◌
fields_length read zero [] ns e = let q : [] ≡ ns = cc in sym (ap length q)
fields_length read zero (f ∷ fs) ns e = absurd (let z : ◌≡◌ {A = ℕ} 0 1 = cc in omega arith)
fields_length read (suc n) [] ns e = absurd (let z : ◌≡◌ {A = ℕ} 0 1 = cc in omega arith)
fields_length read (suc n) (f ∷ fs) ns e = first (fields_length read n fs) (read f) e
  where
    rest : ((l : List ℕ) → fields read n fs ≡ some l → length l ≡ n) → (v : ℕ) (o : Option (List ℕ)) → fields read n fs ≡ o → (o and_then λ vs. some (v ∷ vs)) ≡ some ns → length ns ≡ suc n
    rest below v none p q = absurd (let z : ◌≡◌ {A = ℕ} 0 1 = cc in omega arith)
    rest below v (some vs) p q = let s : v ∷ vs ≡ ns = cc in sym (ap length s) ∙ ap suc (below vs p)

    first : ((l : List ℕ) → fields read n fs ≡ some l → length l ≡ n) → (o : Option ℕ) → (o and_then λ v. fields read n fs and_then λ vs. some (v ∷ vs)) ≡ some ns → length ns ≡ suc n
    first below none q = absurd (let z : ◌≡◌ {A = ℕ} 0 1 = cc in omega arith)
    first below (some v) q = rest below v (fields read n fs) refl q

line_count : (read : List ℕ → Option ℕ) (text ns : List ℕ) → line_by read text ≡ some ns → length ns ≡ field_count
unfolding line_by
line_count read text ns e =
    let (t, q) = when_some (leb (length text) size_text_limit && eqb (get_or text (length text - 1) 0) newline) (fields read field_count (split tab (take (length text - 1) text))) ns e in
    fields_length read field_count (split tab (take (length text - 1) text)) ns q

none_by : (o : Option (List ℕ)) → None ≡ row_of o → sizes_of o ≡ refused bad_line
none_by none e = refl
none_by (some ns) e = cc

some_by : (o : Option (List ℕ)) (n : List ℕ) → Some n ≡ row_of o → o ≡ some n
some_by none n e = cc
some_by (some ns) n e = cc

-- ---- what was answered: the requests in front of the list are the answer's, and are put as they stand there ..

abbrev pub written_lines : ℕ → List ℕ → List ℕ
written_lines count list = let xs : List ℕ = take (request_size * count) list in ask_lines (length xs / request_size) xs

record Outcome (a : Answer (List Request)) (count : ℕ) (list : List ℕ) : Type 0 where
  few : count ≤ register_count
  lines : answer_lines a ≡ ask_lines count list
  put : answer_lines a ≡ written_lines count list

outcome : (a : Answer (List Request)) (out list : List ℕ) (count : ℕ) → Fair a → Few a → sized 0 count list ≡ sizing a out → Outcome a count list
outcome (accepted rs) out list count fair few e =
    let c : count ≡ length rs = ap (λ (s : Sized). s.count) e in
    let l : list ≡ written (numbers_of_all rs) out = ap (λ (s : Sized). s.list) e in
    let long : length (numbers_of_all rs) ≡ request_size * count = omega (arith, length_numbers rs, c) in
    let xs : take (request_size * count) list ≡ numbers_of_all rs = ap (take (request_size * count)) l ∙ take_at (numbers_of_all rs) (drop (length (numbers_of_all rs)) out) (request_size * count) long in
    let n : length (numbers_of_all rs) / request_size ≡ length rs = omega (arith, length_numbers rs) in
    record {
      few = omega (arith, few rs refl, c);
      lines = rw (c, l) (sym (wants_are rs (drop (length (numbers_of_all rs)) out) fair));
      put = sym (rw (xs, n) (ap (ask_lines (length rs)) (sym (append-nil (numbers_of_all rs))) ∙ wants_are rs [] fair));
    }
outcome (refused x) out list count fair few e = absurd (tell_number 0 x (sym (ap (λ (s : Sized). s.number) e)))

-- .. or the number is its refusal's
no_outcome : (a : Answer (List Request)) (out list : List ℕ) (y : Refusal) → Fair a → sized (tell 0 y).number 0 list ≡ sizing a out → answer_lines a ≡ no_line 0 (says 0 (tell 0 y).number 0 0 0)
no_outcome (accepted rs) out list y fair e = absurd (tell_number 0 y (ap (λ (s : Sized). s.number) e))
no_outcome (refused x) out list y fair e = let n : (tell 0 y).number ≡ (tell 0 x).number = ap (λ (s : Sized). s.number) e in rw n (ap (no_line 0) fair)

module _ (text : List ℕ) where
  output_is : sizes_output text ≡ answer_lines (sizes_of (line_by capped_word text))
  unfolding sizes_output
  output_is = ap answer_lines (sym (sizes_capped text))

  pub no_line_said : None ≡ row_of (line_by capped_word text) → sizes_output text ≡ no_line 0 (says 0 10 0 0 0)
  no_line_said e = output_is ∙ ap answer_lines (none_by (line_by capped_word text) e)

  -- the numbers that were read, and what is written for them
  module _ (n : List ℕ) (is : Some n ≡ row_of (line_by capped_word text)) where
    abbrev fresh : List ℕ
    fresh = replicate (register_count * request_size) 0

    abbrev answer : Answer (List Request)
    answer = sizes_of (line_by capped_word text)

    answer_is : registers_into n (get_or n register_count 0) fresh ≡ sizing answer fresh
    unfolding registers_into
    answer_is =
        let o : line_by capped_word text ≡ some n = some_by (line_by capped_word text) n is in
        let l : length n ≡ field_count = line_count capped_word text n o in
        rw (le-leb register_count (length n) (omega arith)) (ap (λ x. sizing (sizes_of x) fresh) (sym o))

    module _ (count : ℕ) (list : List ℕ) (s : sized 0 count list ≡ registers_into n (get_or n register_count 0) fresh) where
      answered : Outcome answer count list
      answered = outcome answer fresh list count (sizes_fair (line_by capped_word text)) (sizes_few (line_by capped_word text)) (s ∙ answer_is)

      pub few_wants : count ≤ register_count
      few_wants = answered.few

      pub put_lines_is : sizes_output text ≡ written_lines count list
      put_lines_is = output_is ∙ answered.put

      pub written_is : written_lines count list ≡ ask_lines count list
      written_is = sym answered.put ∙ answered.lines

    pub want_lines_is : (number count : ℕ) (list : List ℕ) → sized number count list ≡ registers_into n (get_or n register_count 0) fresh → number ≡ 0 → sizes_output text ≡ ask_lines count list
    want_lines_is number count list s e = output_is ∙ (answered count list (ap (λ (k : ℕ). sized k count list) (sym e) ∙ s)).lines

    pub refusal_line : (y : Refusal) (list : List ℕ) → sized (tell 0 y).number 0 list ≡ registers_into n (get_or n register_count 0) fresh → sizes_output text ≡ no_line 0 (says 0 (tell 0 y).number 0 0 0)
    refusal_line y list s = output_is ∙ no_outcome answer fresh list y (sizes_fair (line_by capped_word text)) (s ∙ answer_is)

-- ---- what is put for it

module _ (text : List ℕ) (b : List ℕ) (is : sizes_output text ≡ b) (p : Page) where
  pub fits_in : p.at + sizes_limit ≤ length p.out.now → Room p b
  fits_in room = omega (arith, room, sizes_length text, ap length is)

  pub puts_it : (q : Page) → Puts p b q → Puts p (sizes_output text) q
  puts_it q h = rw is h

-- ---- what stands in front of the buffer

-- out is the lent buffer before, and out' the one afterwards
module _ (text out : List ℕ) (p q : Page) (front : p.at ≡ 0) (untouched : p.out.now ≡ out) (room : sizes_limit ≤ length out) (h : Puts p (sizes_output text) q) (out' : List ℕ) (is : out' ≡ q.out.now) where
  pub front_inside : q.at ≤ length out'
  front_inside = omega (arith, h.put.0, sizes_length text, puts_length p (sizes_output text) q h, ap length is, ap length untouched)

  pub front_is : take q.at out' ≡ sizes_output text
  front_is =
      let w : List ℕ = sizes_output text in
      let long : p.at + length w ≤ length p.out.now = omega (arith, sizes_length text, ap length untouched) in
      let all : out' ≡ take p.at p.out.now ++ w ++ drop (p.at + length w) p.out.now = is ∙ put_exact p.out.now p.at w q.at q.out.now h.put long in
      let none : take p.at p.out.now ≡ [] = ap (λ k. take k p.out.now) front in
      ap (take q.at) (all ∙ ap (λ xs. xs ++ w ++ drop (p.at + length w) p.out.now) none)
      ∙ take_at w (drop (p.at + length w) p.out.now) q.at (omega (arith, h.put.0))

-- ---- inputs that are too long are answered alike

pub alike_sizes : (a b : List ℕ) → size_text_limit < length a → size_text_limit < length b → sizes_output a ≡ sizes_output b
unfolding sizes_output
alike_sizes a b l m = rw (line_long word a l, line_long word b m)
