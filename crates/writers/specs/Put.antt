-- Bytes put into a lent buffer. Assumes nothing.
use Rattle.std.specs.Prelude.{◌≡◌, List, ℕ, ◌+◌, ◌≤◌, length}
use Rattle.std.proofs.lemmas.List.Edits.{sets}
use Rattle.writers.specs.declared.put.Page.{Page}

-- the buffer l, after the bytes b were put at `at`, is l', and p is the place behind them; all else is as it was
abbrev pub Put : List ℕ → ℕ → List ℕ → ℕ → List ℕ → Type 0
Put l at b p l' = (p ≡ at + length b) × (l' ≡ sets l at b)

-- there is room for the bytes b from the page's place on
abbrev pub Room : Page → List ℕ → Type 0
Room p b = p.at + length b ≤ length p.out.now

-- the bytes b are put on a page, which stays over the same buffer
pub record Puts (p : Page) (b : List ℕ) (p' : Page) : Type 0 where
  pub same : p'.out.ghost_name ≡ p.out.ghost_name
  pub put : Put p.out.now p.at b p'.at p'.out.now
