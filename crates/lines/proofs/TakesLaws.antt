-- A text is its calls taken in order: what an accepted text says line by line, and the text that is written of calls says those calls. Assumes nothing.
--     takes          the line step over calls
--     ended_takes    an accepted text ends as its calls taken in order, and each of its lines says a call
--     feed_lines, ended_lines, calls_lines, closed_lines    the text of calls, each on its own line
use mathlib.Core.Path.{◌≡◌, refl, sym, ◌∙◌, ap, subst}
use mathlib.Core.Logic.{◌⊎◌, inl, inr}
use mathlib.Core.Bool.{Bool, true, false}
use mathlib.Core.List.Memᴰ
use mathlib.Core.List.{List, [], ◌∷◌, ◌++◌, map, Memᴰ}
use mathlib.Core.Option.{Option, none, some}
use Prim.Native.Nat.{ℕ, ◌≤◌}
use native.Mathlib.Omega.{arith}
use lib.Dec.{T, leb}
use lib.ListN.{length}
use borrow.Author.Tests.{leb-true, le-leb}
use Rattle.definition.proofs.BaseLaws.{T_true}
use Rattle.definition.specs.Request.{Request}
use Rattle.definition.specs.Calls.{Call, want}
use Rattle.lines.specs.Base.{text_limit, newline, split}
use Rattle.lines.specs.Line.{read_line, line_of, sayable}
use Rattle.lines.specs.Text.{Sofar, beginning, accepts, take_line, step, fed, feed_parts, feed, unfinished, closed_by, close, overlong, ended}
use Rattle.lines.specs.Back.{and_calls, calls_of, calls, lines_of}
use Rattle.lines.proofs.SpellLaws.{part_closed}
use Rattle.lines.proofs.InverseLaws.{said_line, line_closed}

-- ---- calls taken in order

-- a refusal stands, whatever follows
abbrev pub take_next : Sofar → Option Call → Sofar
take_next t o = elim (accepts t.said) [ true ↦ take_line t o | false ↦ t ]

unfoldable pub takes : Sofar → List Call → Sofar
takes t [] = t
takes t (c ∷ cs) = takes (take_next t (some c)) cs

-- .. and lines, of which some may say no call
unfoldable take_all : Sofar → List (Option Call) → Sofar
take_all t [] = t
take_all t (o ∷ os) = take_all (take_next t o) os

takes_all : (t : Sofar) (cs : List Call) → takes t cs ≡ take_all t (map some cs)
unfolding takes take_all
takes_all t [] = refl
takes_all t (c ∷ cs) = takes_all (take_next t (some c)) cs

all_stands : (t : Sofar) (os : List (Option Call)) → accepts t.said ≡ false → take_all t os ≡ t
unfolding take_all
all_stands t [] e = refl
all_stands t (o ∷ os) e = ap (λ (b : Bool). take_all (elim b [ true ↦ take_line t o | false ↦ t ]) os) e ∙ all_stands t os e

pub takes_stands : (t : Sofar) (cs : List Call) → accepts t.said ≡ false → takes t cs ≡ t
takes_stands t cs e = takes_all t cs ∙ all_stands t (map some cs) e

pub takes_on : (t : Sofar) (c : Call) (cs : List Call) → accepts t.said ≡ true → takes t (c ∷ cs) ≡ takes (take_line t (some c)) cs
unfolding takes
takes_on t c cs e = ap (λ (b : Bool). takes (elim b [ true ↦ take_line t (some c) | false ↦ t ]) cs) e

pub takes_append : (t : Sofar) (cs ds : List Call) → takes t (cs ++ ds) ≡ takes (takes t cs) ds
unfolding takes
takes_append t [] ds = refl
takes_append t (c ∷ cs) ds = takes_append (take_next t (some c)) cs ds

pub off : {A : Type 0} → ◌≡◌ {A = Bool} false true → A
off e = absurd (let z : ◌≡◌ {A = ℕ} 0 1 = cc in omega arith)

all_goes : (t : Sofar) (os : List (Option Call)) → accepts (take_all t os).said ≡ true → accepts t.said ≡ true
all_goes t os a = go (accepts t.said) refl
  where
    go : (b : Bool) → accepts t.said ≡ b → b ≡ true
    go true e = refl
    go false e = off (sym e ∙ ap (λ (u : Sofar). accepts u.said) (sym (all_stands t os e)) ∙ a)

-- what was accepted in the end was accepted at each call
pub takes_goes : (t : Sofar) (cs : List Call) → accepts (takes t cs).said ≡ true → accepts t.said ≡ true
takes_goes t cs a = all_goes t (map some cs) (ap (λ (u : Sofar). accepts u.said) (sym (takes_all t cs)) ∙ a)

-- ---- an accepted text

-- every part but the last is a line
unfoldable pub closed_of : List (List ℕ) → List (List ℕ)
closed_of [] = []
closed_of (p ∷ []) = []
closed_of (p ∷ q ∷ ps) = p ∷ closed_of (q ∷ ps)

unfoldable pub last_of : List (List ℕ) → List ℕ
last_of [] = []
last_of (p ∷ []) = p
last_of (p ∷ q ∷ ps) = last_of (q ∷ ps)

unfoldable somes : List (Option Call) → List Call
somes [] = []
somes (o ∷ os) = and_calls o (somes os)

calls_are : (ps : List (List ℕ)) → calls_of ps ≡ somes (map read_line (closed_of ps))
unfolding calls_of closed_of somes
calls_are [] = refl
calls_are (p ∷ []) = refl
calls_are (p ∷ q ∷ ps) = ap (and_calls (read_line p)) (calls_are (q ∷ ps))

parts_are : (t : Sofar) (ps : List (List ℕ)) → feed_parts step t ps ≡ fed (take_all t (map read_line (closed_of ps))) (last_of ps)
unfolding feed_parts closed_of last_of take_all step
parts_are t [] = refl
parts_are t (p ∷ []) = refl
parts_are t (p ∷ q ∷ ps) = parts_are (step t p) (q ∷ ps)

-- a line that says no call, or that no newline ends, leaves a refusal
never_none : {A : Type 0} (t : Sofar) → accepts (take_next t none).said ≡ true → A
never_none t a = go (accepts t.said) refl a
  where
    go : {A : Type 0} (b : Bool) → accepts t.said ≡ b → accepts (elim b as (λ _. Sofar) [ true ↦ take_line t none | false ↦ t ]).said ≡ true → A
    go true e q = off q
    go false e q = off (sym e ∙ q)

all_some : (t : Sofar) (os : List (Option Call)) → accepts (take_all t os).said ≡ true → os ≡ map some (somes os)
unfolding take_all somes
all_some t [] a = refl
all_some t (some c ∷ os) a = ap {B = List (Option Call)} (λ ps. some c ∷ ps) (all_some (take_next t (some c)) os a)
all_some t (none ∷ os) a = never_none t (all_goes (take_next t none) os a)

all_closed : (t : Sofar) (l : List ℕ) → accepts (closed_by t l).said ≡ true → l ≡ []
unfolding unfinished
all_closed t [] a = refl
all_closed t (b ∷ l) a = never_none t a

-- a text that was accepted: it ended as its calls do, each of its lines says a call, and nothing stands behind the last newline
pub record Took (text : List ℕ) : Type 0 where
  pub fits : length text ≤ text_limit
  pub whole : ended text ≡ takes beginning (calls text)
  pub said : map read_line (closed_of (split newline text)) ≡ map some (calls text)
  pub closed : last_of (split newline text) ≡ []

pub ended_takes : (text : List ℕ) → accepts (ended text).said ≡ true → Took text
unfolding ended feed close calls
ended_takes text a = go (leb (length text) text_limit) refl a
  where
    ps : List (List ℕ)
    ps = split newline text

    os : List (Option Call)
    os = map read_line (closed_of ps)

    t : Sofar
    t = take_all beginning os

    go : (b : Bool) → leb (length text) text_limit ≡ b → accepts (elim b as (λ _. Sofar) [ true ↦ close (feed step beginning text) | false ↦ overlong ]).said ≡ true → Took text
    go false e q = off q
    go true e q =
        let comes : close (feed step beginning text) ≡ closed_by t (last_of ps) = ap close (parts_are beginning ps) in
        let shut : last_of ps ≡ [] = all_closed t (last_of ps) (ap (λ (u : Sofar). accepts u.said) (sym comes) ∙ q) in
        let is : close (feed step beginning text) ≡ t = comes ∙ ap (closed_by t) shut in
        let says : os ≡ map some (calls_of ps) = all_some beginning os (ap (λ (u : Sofar). accepts u.said) (sym is) ∙ q) ∙ ap (map some) (sym (calls_are ps)) in
        record {
          fits = leb-true (length text) text_limit e;
          whole = ap (λ (b : Bool). elim b as (λ _. Sofar) [ true ↦ close (feed step beginning text) | false ↦ overlong ]) e ∙ is ∙ ap (take_all beginning) says ∙ sym (takes_all beginning (calls_of ps));
          said = says;
          closed = shut;
        }

-- each of its calls is said by a line
pub call_read : (text : List ℕ) → Took text → (c : Call) → Memᴰ c (calls text) → (l : List ℕ) × Memᴰ l (closed_of (split newline text)) × (read_line l ≡ some c)
call_read text k c m = Memᴰ.of_map read_line (closed_of (split newline text)) (subst (Memᴰ (some c)) (sym k.said) (Memᴰ.map some m))

-- ---- the text of calls

-- a line says each of them
abbrev pub AllSayable : List Call → Type 0
AllSayable cs = (c : Call) → Memᴰ c cs → T (sayable c)

pub sayable_append : (cs ds : List Call) → AllSayable cs → AllSayable ds → AllSayable (cs ++ ds)
sayable_append cs ds f g c m = go (Memᴰ.append_cases cs m)
  where
    go : Memᴰ c cs ⊎ Memᴰ c ds → T (sayable c)
    go (inl n) = f c n
    go (inr n) = g c n

pub sayable_wants : (rs : List Request) → ((r : Request) → Memᴰ r rs → T (sayable (want r))) → AllSayable (map want rs)
sayable_wants rs f c m = let (r, n, e) = Memᴰ.of_map want rs m in subst (λ d. T (sayable d)) e (f r n)

lines_split : (cs : List Call) → split newline (lines_of cs) ≡ map line_of cs ++ ([] ∷ [])
unfolding split lines_of
lines_split [] = refl
lines_split (c ∷ cs) =
    part_closed newline (line_of c) (lines_of cs) (line_closed c) ∙ ap {B = List (List ℕ)} (λ ps. line_of c ∷ ps) (lines_split cs)

closed_all : (ps : List (List ℕ)) (p : List ℕ) → closed_of (ps ++ (p ∷ [])) ≡ ps
unfolding closed_of
closed_all [] p = refl
closed_all (q ∷ []) p = refl
closed_all (q ∷ r ∷ ps) p = ap {B = List (List ℕ)} (λ qs. q ∷ qs) (closed_all (r ∷ ps) p)

last_is : (ps : List (List ℕ)) (p : List ℕ) → last_of (ps ++ (p ∷ [])) ≡ p
unfolding last_of
last_is [] p = refl
last_is (q ∷ []) p = refl
last_is (q ∷ r ∷ ps) p = last_is (r ∷ ps) p

lines_read : (cs : List Call) → AllSayable cs → map read_line (map line_of cs) ≡ map some cs
lines_read [] f = refl
lines_read (c ∷ cs) f = rw (said_line c (T_true (sayable c) (f c (Memᴰ.head refl)))) (ap {B = List (Option Call)} (λ os. some c ∷ os) (lines_read cs (λ d m. f d (Memᴰ.tail m))))

somes_all : (cs : List Call) → somes (map some cs) ≡ cs
unfolding somes
somes_all [] = refl
somes_all (c ∷ cs) = ap {B = List Call} (λ ds. c ∷ ds) (somes_all cs)

module _ (cs : List Call) (each : AllSayable cs) where
  pub closed_lines : closed_of (split newline (lines_of cs)) ≡ map line_of cs
  closed_lines = ap closed_of (lines_split cs) ∙ closed_all (map line_of cs) []

  pub said_lines : map read_line (closed_of (split newline (lines_of cs))) ≡ map some cs
  said_lines = ap (map read_line) closed_lines ∙ lines_read cs each

  pub calls_lines : calls (lines_of cs) ≡ cs
  unfolding calls
  calls_lines = calls_are (split newline (lines_of cs)) ∙ ap somes said_lines ∙ somes_all cs

  pub shut_lines : last_of (split newline (lines_of cs)) ≡ []
  shut_lines = ap last_of (lines_split cs) ∙ last_is (map line_of cs) []

  pub feed_lines : (t : Sofar) → feed step t (lines_of cs) ≡ fed (takes t cs) []
  unfolding feed
  feed_lines t =
      parts_are t (split newline (lines_of cs)) ∙ (λ i. fed (take_all t (said_lines i)) (shut_lines i)) ∙ ap (λ (u : Sofar). fed u []) (sym (takes_all t cs))

  pub ended_lines : length (lines_of cs) ≤ text_limit → ended (lines_of cs) ≡ takes beginning cs
  unfolding ended close
  ended_lines l = rw (le-leb (length (lines_of cs)) text_limit l, ended) (ap close (feed_lines beginning))
