-- What the tables hold (the seven kinds, their widths and sizes, each stated here and nowhere else), and when tables are sound. Ranges are half-open. Assumes nothing.
use Rattle.std.specs.Prelude.{Bool, true, false, not, ◌&&◌, ◌||◌, List, [], ◌∷◌, ℕ, suc, ◌-◌, ◌^◌, leb, ltb, eqb, length, take, drop}
use Rattle.definition.specs.Base.{all_of, pairs_of}

-- ---- sizes: rows of a pool table; rows of a reservation or owner table; requests of a plan; numbers of a result
abbrev pub pool_limit : ℕ
pool_limit = 64

abbrev pub row_limit : ℕ
row_limit = 256

abbrev pub plan_limit : ℕ
plan_limit = 256

abbrev pub record_size : ℕ
record_size = 9

-- ---- widths: the largest number of so many bits; the last trigger code; the sharing code Shared; the least LPI
abbrev pub top : ℕ → ℕ
top bits = 2 ^ bits - 1

abbrev pub last_trigger : ℕ
last_trigger = 3

abbrev pub shared : ℕ
shared = 1

abbrev pub first_lpi : ℕ  -- C-12: LPIs start here
first_lpi = 8192

pub record Dom : Type 0 where  -- a domain
  pub controller : ℕ
  pub its : ℕ
  pub device : ℕ

abbrev pub dom : ℕ → ℕ → ℕ → Dom
dom c i v = record { controller = c; its = i; device = v }

unfoldable pub same_dom : Dom → Dom → Bool
same_dom a b = eqb a.controller b.controller && (eqb a.its b.its && eqb a.device b.device)

unfoldable pub within : Dom → Dom → Bool  -- no number of d is above that of most
within d most = leb d.controller most.controller && (leb d.its most.its && leb d.device most.device)

abbrev pub pool_dom : Dom → Dom  -- device and event pools are kept by controller and ITS, LPI pools by controller alone: no pool names a device
pool_dom d = dom d.controller d.its 0

-- ---- kinds: each has an automatic and a fixed pool table, a reservation table and an owner table
pub data Kind : Type 0 where
  mmio pio input host device event lpi : Kind

abbrev pub kinds : List Kind
kinds = mmio ∷ pio ∷ input ∷ host ∷ device ∷ event ∷ lpi ∷ []

pub record Nature : Type 0 where
  pub number : ℕ  -- tells kinds apart
  pub namespace : ℕ  -- that a refusal names: 1 MMIO, 2 PIO, 3 input of a controller, 4 host IRQ, 5 an ITS of a controller, 6 LPI of a controller
  pub wired : Bool  -- its rows are one number with a trigger and a sharing; all other rows hold a range
  pub floor : ℕ  -- the least number at which its ranges may start
  pub top : ℕ  -- the largest number of its width
  pub dom_top : Dom  -- the largest numbers of its rows' domain; a number that it does not use is 0

abbrev pub is : ℕ → ℕ → Bool → ℕ → ℕ → Dom → Nature
is number namespace wired least most d = record { number = number; namespace = namespace; wired = wired; floor = least; top = most; dom_top = d }

abbrev pub nature : Kind → Nature
nature mmio = is 1 1 false 0 (top 64) (dom 0 0 0)
nature pio = is 2 2 false 0 (top 16) (dom 0 0 0)
nature input = is 3 3 true 0 (top 64) (dom (top 32) 0 0)
nature host = is 4 4 false 0 (top 64) (dom 0 0 0)
nature device = is 5 5 false 0 (top 32) (dom (top 32) (top 32) 0)
nature event = is 6 5 false 0 (top 32) (dom (top 32) (top 32) (top 32))
nature lpi = is 7 6 false first_lpi (top 32) (dom (top 32) 0 0)

unfoldable pub same_kind : Kind → Kind → Bool
same_kind j k = eqb (nature j).number (nature k).number

pub record Span : Type 0 where  -- a pool range
  pub dom : Dom
  pub start : ℕ
  pub end : ℕ

abbrev pub span : Dom → ℕ → ℕ → Span
span d s e = record { dom = d; start = s; end = e }

unfoldable pub same_span : Span → Span → Bool
same_span a b = same_dom a.dom b.dom && (eqb a.start b.start && eqb a.end b.end)

pub record Row : Type 0 where  -- a reservation's or an owner's row
  pub dom : Dom
  pub start : ℕ
  pub end : ℕ
  pub trigger : ℕ
  pub sharing : ℕ
  pub owner : ℕ

abbrev pub range_row : Dom → ℕ → ℕ → ℕ → Row  -- a range, whose codes are 0
range_row d s e o = record { dom = d; start = s; end = e; trigger = 0; sharing = 0; owner = o }

abbrev pub wired_row : ℕ → ℕ → ℕ → ℕ → ℕ → Row  -- one input of a controller: controller, input, trigger, sharing, owner
wired_row c n trigger sharing o = record { dom = dom c 0 0; start = n; end = suc n; trigger = trigger; sharing = sharing; owner = o }

unfoldable pub same_row : Row → Row → Bool
same_row a b =
    same_dom a.dom b.dom && (eqb a.start b.start && (eqb a.end b.end
    && (eqb a.trigger b.trigger && (eqb a.sharing b.sharing && eqb a.owner b.owner))))

unfoldable pub overlap : ℕ → ℕ → ℕ → ℕ → Bool  -- the ranges have a number in common
overlap s e s' e' = ltb s e' && ltb s' e

unfoldable pub meets : Row → Row → Bool  -- one domain, and a number in common
meets a b = same_dom a.dom b.dom && overlap a.start a.end b.start b.end

unfoldable pub joins : Row → Row → Bool  -- both Shared, with one trigger
joins a b = eqb a.sharing shared && (eqb b.sharing shared && eqb a.trigger b.trigger)

unfoldable pub clash : Row → Row → Bool  -- the two cannot both be owners: they meet and do not join
clash a b = meets a b && not (joins a b)

-- ---- when tables are sound, in the words and the order of 01's 'Table sizes'
pub record Table (A : Type 0) : Type 0 where  -- a table as it is handed in: the count of its used rows, and all its rows, the used ones first
  pub count : ℕ
  pub rows : List A

abbrev pub used : {A : Type 0} → Table A → List A
used t = take t.count t.rows

abbrev pub blank_span : Span  -- a row of zeros
blank_span = span (dom 0 0 0) 0 0

abbrev pub if_wired : Bool → ℕ → ℕ  -- what only a wired row has, and 0 elsewhere
if_wired true n = n
if_wired false n = 0

abbrev pub blank_row : Kind → Row  -- a wired row stores one number, and its end is one past it
blank_row k = range_row (dom 0 0 0) 0 (if_wired (nature k).wired 1) 0

unfoldable pub tidy : {A : Type 0} → ℕ → (A → Bool) → Table A → Bool  -- counts are within sizes; unused rows are zero
tidy size zero t = eqb (length t.rows) size && (leb t.count size && all_of zero (drop t.count t.rows))

abbrev pub ends : Bool → ℕ → Row → Bool  -- a range within the width; a wired row one past its number
ends true most r = eqb r.end (suc r.start)
ends false most r = leb r.end most

unfoldable pub fits : Kind → Row → Bool  -- used rows keep to their kind's width: domain, numbers, owner, and known codes, which only a wired row has
fits k r =
    within r.dom (nature k).dom_top && (leb r.start (nature k).top && (ends (nature k).wired (nature k).top r
    && (leb r.trigger (if_wired (nature k).wired last_trigger) && (leb r.sharing (if_wired (nature k).wired shared) && leb r.owner (top 32)))))

unfoldable pub fits_span : Kind → Span → Bool
fits_span k p = within p.dom (pool_dom (nature k).dom_top) && (leb p.start (nature k).top && leb p.end (nature k).top)

unfoldable pub floored : Kind → ℕ → Bool  -- no range starts below its kind's floor, wherever it ends
floored k s = leb (nature k).floor s

unfoldable pub good_row : Kind → Row → Bool  -- .. and those that hold a range have start below end, none below its floor; no used reservation or owner row has owner 0
good_row k r = fits k r && (ltb r.start r.end && (floored k r.start && ltb 0 r.owner))

unfoldable pub good_span : Kind → Span → Bool
good_span k p = fits_span k p && (ltb p.start p.end && floored k p.start)

unfoldable pub begins : List Row → List Row → Bool  -- each owner table begins with its reservation table's rows in order
begins [] rs = true
begins (h ∷ hs) [] = false
begins (h ∷ hs) (r ∷ rs) = same_row h r && begins hs rs

unfoldable pub in_order : Span → Span → Bool  -- pool rows are sorted by start within a domain with no exact duplicate
in_order a b = (not (same_dom a.dom b.dom) || leb a.start b.start) && not (same_span a b)

unfoldable pub sound_table : {A : Type 0} → ℕ → (A → Bool) → (A → Bool) → (A → A → Bool) → Table A → Bool  -- a table whose used rows are good, each two of them fit to stand together
sound_table size zero good fit t = tidy size zero t && (all_of good (used t) && pairs_of fit (used t))

abbrev pub sound_pool : Kind → Table Span → Bool
sound_pool k = sound_table pool_limit (same_span blank_span) (good_span k) in_order

abbrev pub sound_held : Kind → Table Row → Bool  -- ranges of one domain are disjoint; a wired input has one reservation at most
sound_held k = sound_table row_limit (same_row (blank_row k)) (good_row k) (λ a b. not (meets a b))

abbrev pub sound_owners : Kind → Table Row → Bool  -- .. and its owner rows are a single row or all Shared with one trigger
sound_owners k = sound_table row_limit (same_row (blank_row k)) (good_row k) (λ a b. not (clash a b))
