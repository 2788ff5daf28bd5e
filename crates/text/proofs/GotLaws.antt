-- Laws of the `got` lines of several records: one after the other, and none but their own numbers are read. Assumes nothing.
use mathlib.Core.Path.{◌≡◌, refl, sym, ap, ◌∙◌}
use mathlib.Core.List.{List, [], ◌++◌}
use Prim.Native.Nat.{ℕ, zero, suc, ◌+◌, ◌*◌, ◌≤◌, ◌<◌}
use native.Mathlib.Omega.{arith}
use lib.ListN.{length, take, drop, get_or, length-take, length-drop, take-append-drop, get_or-append}
use lib.Seq.{take-append-le, drop-append-le}
use Rattle.definition.specs.Tables.{record_size}
use Rattle.lines.specs.Output.{carried_by, got_line, got_lines}
use Rattle.writers.specs.declared.put.Page.{Page}
use Rattle.writers.specs.Put.{Room, Puts}
use Rattle.writers.proofs.PutLaws.{carried_few}
use Rattle.writers.proofs.EachLaws.{lines_none, lines_room, lines_turn}

-- ---- one after the other

none : (rs : List ℕ) → got_lines 0 rs ≡ []
unfolding got_lines
none rs = refl

next : (n : ℕ) (rs : List ℕ) → got_lines (suc n) rs ≡ got_line rs ++ got_lines n (drop record_size rs)
unfolding got_lines
next n rs = refl

pub gots_none : (p : Page) (rs : List ℕ) → Puts p (got_lines 0 rs) p
gots_none = lines_none got_line record_size got_lines none next

pub gots_room : (p : Page) (rs : List ℕ) (i : ℕ) (q : Page) → Puts p (got_lines i rs) q → (n : ℕ) → i < n → Room p (got_lines n rs) → Room q (got_line (drop (record_size * i) rs))
gots_room = lines_room got_line record_size got_lines none next

pub gots_turn : (p : Page) (rs : List ℕ) (i : ℕ) (q : Page) → Puts p (got_lines i rs) q → (r : Page) → Puts q (got_line (drop (record_size * i) rs)) r → Puts p (got_lines (i + 1) rs) r
gots_turn = lines_turn got_line record_size got_lines none next

-- ---- what stands behind the records is not read

got_front : (r zs : List ℕ) → record_size ≤ length r → got_line (r ++ zs) ≡ got_line r
unfolding got_line
got_front r zs l =
    let n : ℕ = (carried_by (get_or r 0 0)).count in
    let few : n ≤ length (drop 3 r) = omega (arith, carried_few (get_or r 0 0), length-drop 3 r) in
    rw (
      get_or-append r zs 0 0 (omega arith),
      get_or-append r zs 0 1 (omega arith),
      get_or-append r zs 0 2 (omega arith),
      drop-append-le 3 r zs (omega arith),
      take-append-le n (drop 3 r) zs few,
    )

gots_front : (n : ℕ) (rs zs : List ℕ) → record_size * n ≤ length rs → got_lines n (rs ++ zs) ≡ got_lines n rs
unfolding got_lines
gots_front zero rs zs l = refl
gots_front (suc n) rs zs l =
    rw (got_front rs zs (omega arith), drop-append-le record_size rs zs (omega arith), gots_front n (drop record_size rs) zs (omega (arith, length-drop record_size rs)))

pub gots_taken : (n : ℕ) (zs : List ℕ) → record_size * n ≤ length zs → got_lines n (take (record_size * n) zs) ≡ got_lines n zs
gots_taken n zs l =
    sym (gots_front n (take (record_size * n) zs) (drop (record_size * n) zs) (omega (arith, length-take (record_size * n) zs)))
    ∙ ap (got_lines n) (take-append-drop (record_size * n) zs)
