-- Adding a pool range, an MSI domain, a reservation, over the used rows of the tables. Assumes nothing.
use Rattle.std.specs.Prelude.{Bool, true, false, ◌&&◌, ◌||◌, List, [], ◌∷◌, ◌++◌, ℕ, suc, min, ltb, length}
use Rattle.std.proofs.Math.Option.{Option, none, some}
use Rattle.definition.specs.Base.{any_of, all_of, first_of, bad_input, bad_owner, empty_range, full, bad_lpi, reserved, Answer, accepted, refused, require}
use Rattle.definition.specs.Tables.{pool_limit, row_limit, dom, Kind, mmio, pio, input, host, device, event, lpi, nature, same_kind, Span, span, same_dom, same_span, Row, range_row, wired_row, meets, fits, fits_span, floored}

pub record In (A : Type 0) : Type 0 where  -- a range or a row, and the kind of its table
  pub kind : Kind
  pub row : A

abbrev pub at_kind : {A : Type 0} → Kind → A → In A
at_kind k r = record { kind = k; row = r }

-- ---- pool ranges
pub data Pool : Type 0 where  -- what a pool call adds; its numbers in the order of the program's line
  mmio_pool pio_pool host_pool : ℕ → ℕ → Pool
  input_pool : ℕ → ℕ → ℕ → Pool
  msi_pool : ℕ → ℕ → ℕ → ℕ → ℕ → ℕ → ℕ → ℕ → Pool

abbrev pub spans : Pool → List (In Span)  -- its ranges: an MSI domain adds devices, then events, then LPIs
spans (mmio_pool s e) = at_kind mmio (span (dom 0 0 0) s e) ∷ []
spans (pio_pool s e) = at_kind pio (span (dom 0 0 0) s e) ∷ []
spans (host_pool s e) = at_kind host (span (dom 0 0 0) s e) ∷ []
spans (input_pool controller s e) = at_kind input (span (dom controller 0 0) s e) ∷ []
spans (msi_pool controller its ds de es ee ls le) =
    at_kind device (span (dom controller its 0) ds de) ∷ at_kind event (span (dom controller its 0) es ee) ∷ at_kind lpi (span (dom controller 0 0) ls le) ∷ []

unfoldable pub insert : Span → List Span → List Span  -- just before the first row of its domain with a greater start, else after the last used row
insert p [] = p ∷ []
insert p (x ∷ xs) = elim (same_dom p.dom x.dom && ltb p.start x.start) [ true ↦ p ∷ x ∷ xs | false ↦ x ∷ insert p xs ]

unfoldable pub there : Span → List Span → Bool  -- an exact duplicate is among the rows
there p ps = any_of (same_span p) ps

unfoldable pub entered : Span → List Span → List Span  -- the rows with the range among them: an exact duplicate adds no row
entered p ps = elim (there p ps) [ true ↦ ps | false ↦ insert p ps ]

unfoldable pub has_place : Span → List Span → Bool  -- .. and so needs none, even in a full table
has_place p ps = there p ps || ltb (length ps) pool_limit

unfoldable pub admit : (Kind → List Span) → List (In Span) → Answer (List (In Span))  -- all of the ranges or none: 2, 4, 12, then 9
admit P cs =
    require (all_of (λ c. fits_span c.kind c.row) cs) bad_input
    (require (all_of (λ c. ltb c.row.start c.row.end) cs) empty_range
    (require (all_of (λ c. floored c.kind c.row.start) cs) bad_lpi
    (require (all_of (λ c. has_place c.row (P c.kind)) cs) full
    (accepted cs))))

-- ---- rows at the ends of tables
abbrev pub Holders : Type 0  -- the used rows of the seven tables, by kind, in table order
Holders = Kind → List Row

abbrev pub Claim : Type 0
Claim = In Row

unfoldable pub rows_of : Kind → List Claim → List Row  -- the rows of one kind, in order
rows_of k [] = []
rows_of k (c ∷ cs) = elim (same_kind c.kind k) [ true ↦ c.row ∷ rows_of k cs | false ↦ rows_of k cs ]

unfoldable pub ◌⊕◌ : Holders → List Claim → Holders  -- the tables with the rows at their ends
◌⊕◌ S cs = λ k. S k ++ rows_of k cs

infixl 60 ◌⊕◌
unfoldable pub room : Holders → List Claim → Bool  -- each table that needs a new row has one free (no call needs two of one table)
room S cs = all_of (λ c. ltb (length (S c.kind)) row_limit) cs

-- ---- reservations
pub data Hold : Type 0 where  -- what a reservation holds; its numbers in the order of the program's line
  mmio_hold pio_hold host_hold : ℕ → ℕ → Hold
  input_hold : ℕ → ℕ → ℕ → ℕ → Hold  -- controller, input, trigger, sharing
  device_hold : ℕ → ℕ → ℕ → ℕ → Hold
  event_hold : ℕ → ℕ → ℕ → ℕ → ℕ → Hold
  lpi_hold : ℕ → ℕ → ℕ → Hold
  pair_hold : ℕ → ℕ → ℕ → ℕ → Hold  -- controller, input, trigger, host IRQ: `reserve_wired_host_irq`

abbrev pub held_rows : ℕ → Hold → List Claim  -- its rows; one host IRQ is a range of one number, which the largest number has not
held_rows o (mmio_hold s e) = at_kind mmio (range_row (dom 0 0 0) s e o) ∷ []
held_rows o (pio_hold s e) = at_kind pio (range_row (dom 0 0 0) s e o) ∷ []
held_rows o (host_hold s e) = at_kind host (range_row (dom 0 0 0) s e o) ∷ []
held_rows o (input_hold controller n trigger sharing) = at_kind input (wired_row controller n trigger sharing o) ∷ []
held_rows o (device_hold controller its s e) = at_kind device (range_row (dom controller its 0) s e o) ∷ []
held_rows o (event_hold controller its v s e) = at_kind event (range_row (dom controller its v) s e o) ∷ []
held_rows o (lpi_hold controller s e) = at_kind lpi (range_row (dom controller 0 0) s e o) ∷ []
held_rows o (pair_hold controller n trigger irq) =
    at_kind input (wired_row controller n trigger 0 o) ∷ at_kind host (range_row (dom 0 0 0) irq (min (suc irq) (nature host).top) o) ∷ []

unfoldable pub unreserved : {A : Type 0} → Option Row → Answer A → Answer A  -- the first reservation that overlaps the row, in table order, names its owner
unreserved none a = a
unreserved (some r) a = refused (reserved r.owner)

unfoldable pub all_unreserved : {A : Type 0} → Holders → List Claim → Answer A → Answer A
all_unreserved R [] a = a
all_unreserved R (c ∷ cs) a = unreserved (first_of (meets c.row) (R c.kind)) (all_unreserved R cs a)

unfoldable pub reserve : Holders → List Claim → Answer (List Claim)  -- all of the rows or none: 2, 3, 4, 12, 5, then 9
reserve R cs =
    require (all_of (λ c. fits c.kind c.row) cs) bad_input
    (require (all_of (λ c. ltb 0 c.row.owner) cs) bad_owner
    (require (all_of (λ c. ltb c.row.start c.row.end) cs) empty_range
    (require (all_of (λ c. floored c.kind c.row.start) cs) bad_lpi
    (all_unreserved R cs
    (require (room R cs) full
    (accepted cs))))))
