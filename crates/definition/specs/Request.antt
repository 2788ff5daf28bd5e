-- The answer to one request, over the used rows of the tables: what is chosen, what is refused. Assumes nothing.
use Rattle.std.specs.Prelude.{Bool, true, false, not, ◌&&◌, List, [], ◌∷◌, ◌++◌, map, ℕ, ◌+◌, ◌-◌, ◌*◌, ◌/◌, ◌%◌, leb, ltb, eqb}
use Rattle.std.proofs.Math.Option.{Option, none, some}
use Rattle.std.specs.Int.Count.{ones_in}
use Rattle.definition.specs.Base.{any_of, first_of, least_of, bad_input, full, fixed_not_allowed, exhausted, conflict, Answer, accepted, refused, require, ◌then◌}
use Rattle.definition.specs.Tables.{top, last_trigger, shared, Dom, dom, same_dom, pool_dom, Kind, mmio, pio, input, host, device, event, lpi, nature, Span, Row, meets, joins}
use Rattle.definition.specs.Pools.{at_kind, Holders, Claim, room}

pub data Choice : Type 0 where
  auto : Choice
  at : ℕ → Choice

pub data Want : Type 0 where
  mmio_want pio_want : ℕ → ℕ → Choice → Want  -- size, alignment
  input_want : ℕ → ℕ → ℕ → Choice → Want  -- controller, trigger, sharing
  host_want : Choice → Want
  msi_want : ℕ → ℕ → ℕ → Choice → Choice → Choice → Want  -- controller, ITS, count; device, event, LPI

pub record Request : Type 0 where
  pub requester : ℕ
  pub slot : ℕ
  pub want : Want

-- ---- 2: size, count or requester 0; alignment without exactly one bit set; a code unknown; a number too large for its field
unfoldable pub good_choice : ℕ → Choice → Bool  -- a number asked for is within the width
good_choice most auto = true
good_choice most (at b) = leb b most

unfoldable pub one_bit : ℕ → ℕ → Bool
one_bit width a = eqb (ones_in width a) 1

unfoldable pub good_want : Want → Bool
good_want (mmio_want size a c) = ltb 0 size && (leb size (top 64) && (leb a (top 64) && (one_bit 64 a && good_choice (nature mmio).top c)))
good_want (pio_want size a c) = ltb 0 size && (leb size (top 16) && (leb a (top 16) && (one_bit 16 a && good_choice (nature pio).top c)))
good_want (input_want controller trigger sharing c) = leb controller (top 32) && (leb trigger last_trigger && (leb sharing shared && good_choice (nature input).top c))
good_want (host_want c) = good_choice (nature host).top c
good_want (msi_want controller its count cd ce cl) =
    leb controller (top 32) && (leb its (top 32) && (ltb 0 count && (leb count (top 32)
    && (good_choice (nature device).top cd && (good_choice (nature event).top ce && good_choice (nature lpi).top cl)))))

unfoldable pub good_request : Request → Bool
good_request request = ltb 0 request.requester && (leb request.requester (top 32) && (leb request.slot (top 32) && good_want request.want))

-- ---- one run of numbers in one table
pub record Need : Type 0 where  -- what a request needs of a table
  pub kind : Kind
  pub dom : Dom
  pub size : ℕ
  pub alignment : ℕ
  pub trigger : ℕ
  pub sharing : ℕ
  pub requester : ℕ

unfoldable pub row_at : Need → ℕ → Row  -- the row that a need gets at a base: its domain, the whole range, its codes, its requester as owner
row_at n b = record { dom = n.dom; start = b; end = b + n.size; trigger = n.trigger; sharing = n.sharing; owner = n.requester }

unfoldable pub aligned : Need → ℕ → Bool
aligned n b = eqb (b % n.alignment) 0

unfoldable pub holds : Need → ℕ → Span → Bool  -- the pool range is of the need's domain and holds the whole run at b
holds n b p = same_dom (pool_dom n.dom) p.dom && (leb p.start b && leb (b + n.size) p.end)

unfoldable pub free : List Span → List Row → Need → ℕ → Bool  -- an automatic request may take b: aligned, in one pool, overlapping no owner row
free pools rows n b = aligned n b && (any_of (holds n b) pools && not (any_of (meets (row_at n b)) rows))

unfoldable pub align_up : ℕ → ℕ → ℕ  -- x, or the next multiple of a above it
align_up a x = (x + (a - 1)) / a * a

unfoldable pub candidates : List Span → List Row → ℕ → List ℕ  -- the least free base begins a pool or follows a row, so no other number need be tried: SearchLaws.antt proves that `lowest` is the least of ALL
candidates pools rows a = map (λ p. align_up a p.start) pools ++ map (λ r. align_up a r.end) rows

unfoldable pub lowest : List Span → List Row → Need → Option ℕ
lowest pools rows n = least_of (free pools rows n) (candidates pools rows n.alignment)

unfoldable pub allowed : List Span → Need → ℕ → Bool  -- a fixed request may ask for b: aligned, its end within the width, held by one fixed range
allowed pools n b = aligned n b && (leb (b + n.size) (nature n.kind).top && any_of (holds n b) pools)

unfoldable pub unjoined : Row → Option Row → Option Row  -- the row, unless both are Shared with one trigger (which only inputs can be)
unjoined w none = none
unjoined w (some r) = elim (joins w r) [ true ↦ none | false ↦ some r ]

unfoldable pub obstacle : Row → List Row → Option Row  -- the first row on the wanted numbers stands in the way, unless they join
obstacle w rows = unjoined w (first_of (meets w) rows)

unfoldable pub detail : Kind → Row → Row → ℕ  -- 1 address ranges overlap, 2 trigger differs, 3 not shareable, 4 host IRQ taken, 5 DeviceID taken, 6 events overlap, 7 LPIs overlap
detail mmio w r = 1
detail pio w r = 1
detail input w r = elim (eqb w.trigger r.trigger) [ false ↦ 2 | true ↦ 3 ]
detail host w r = 4
detail device w r = 5
detail event w r = 6
detail lpi w r = 7

unfoldable pub found : Need → Option ℕ → Answer Row
found n none = refused (exhausted (nature n.kind).namespace)
found n (some b) = accepted (row_at n b)

unfoldable pub unopposed : Need → Row → Option Row → Answer Row
unopposed n w none = accepted w
unopposed n w (some r) = refused (conflict (nature n.kind).namespace r.owner (detail n.kind w r))

pub data Use : Type 0 where  -- the pools of automatic requests, and those that allow fixed ones
  automatic fixed : Use

abbrev pub Pools : Type 0
Pools = Use → Kind → List Span

unfoldable pub place : Pools → Holders → Need → Choice → Answer Row  -- the row that a need is granted: 7; or 6, then 8
place P S n auto = found n (lowest (P automatic n.kind) (S n.kind) n)
place P S n (at b) =
    require (allowed (P fixed n.kind) n b) (fixed_not_allowed (nature n.kind).namespace)
    (unopposed n (row_at n b) (obstacle (row_at n b) (S n.kind)))

-- ---- the needs of each kind of request
abbrev pub need : Kind → Dom → ℕ → ℕ → ℕ → Need  -- kind, domain, size, alignment, and who asks; without codes
need k d size a q = record { kind = k; dom = d; size = size; alignment = a; trigger = 0; sharing = 0; requester = q }

abbrev pub input_need : ℕ → ℕ → ℕ → ℕ → Need  -- one input: controller, trigger, sharing, and who asks
input_need controller trigger sharing q = record { kind = input; dom = dom controller 0 0; size = 1; alignment = 1; trigger = trigger; sharing = sharing; requester = q }

abbrev pub kinds_of : Want → List Kind  -- the kinds whose tables a request needs, one row in each
kinds_of (mmio_want size a c) = mmio ∷ []
kinds_of (pio_want size a c) = pio ∷ []
kinds_of (input_want controller trigger sharing c) = input ∷ []
kinds_of (host_want c) = host ∷ []
kinds_of (msi_want controller its count cd ce cl) = device ∷ event ∷ lpi ∷ []

abbrev pub one : Pools → Holders → Need → Choice → Answer (List Claim)
one P S n c = place P S n c then λ r. accepted (at_kind n.kind r ∷ [])

unfoldable pub claims : Pools → Holders → ℕ → Want → Answer (List Claim)  -- the rows that a request is granted; MSI: device, then event run, then LPI run, each with its refusal before the next is looked at
claims P S q (mmio_want size a c) = one P S (need mmio (dom 0 0 0) size a q) c
claims P S q (pio_want size a c) = one P S (need pio (dom 0 0 0) size a q) c
claims P S q (input_want controller trigger sharing c) = one P S (input_need controller trigger sharing q) c
claims P S q (host_want c) = one P S (need host (dom 0 0 0) 1 1 q) c
claims P S q (msi_want controller its count cd ce cl) =
    place P S (need device (dom controller its 0) 1 1 q) cd then λ rd.
    place P S (need event (dom controller its rd.start) count 1 q) ce then λ re.
    place P S (need lpi (dom controller 0 0) count 1 q) cl then λ rl.
    accepted (at_kind device rd ∷ at_kind event re ∷ at_kind lpi rl ∷ [])

unfoldable pub resolve : Pools → Holders → Request → Answer (List Claim)  -- 2, then 6, 7 or 8, then 9: the answer on sound tables is the rows to add at the ends of their tables
resolve P S request = require (good_request request) bad_input (claims P S request.requester request.want then λ cs. require (room S cs) full (accepted cs))
