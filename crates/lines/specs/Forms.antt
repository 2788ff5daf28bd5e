-- THE TABLE OF FORMS: what a line may say behind its first words, field by field, and the call that it says. A line is read and written by it. Assumes nothing.
use Rattle.std.specs.Prelude.{List, [], ◌∷◌, ℕ, suc, eqb, get_or}
use Rattle.std.proofs.Math.Option.{Option, none, some}
use Prim.Native.String.{String}
use Rattle.definition.specs.Tables.{top}
use Rattle.definition.specs.Pools.{Pool, mmio_pool, pio_pool, host_pool, input_pool, msi_pool, Hold, mmio_hold, pio_hold, host_hold, input_hold, device_hold, event_hold, lpi_hold, pair_hold}
use Rattle.definition.specs.Request.{auto, at, Want, mmio_want, pio_want, input_want, host_want, msi_want, Use}
use Rattle.definition.specs.Calls.{Call, pool, hold, want}
use Rattle.lines.specs.Base.{bytes, same, when, pick, ◌and_then◌, ◌or_else◌}
use Rattle.lines.specs.Numbers.{number, digits}

-- what a field may be: a number of 16, 32 or 64 bits, given by the largest one; or the word `auto`
abbrev pub n16 : ℕ
n16 = top 16

abbrev pub n32 : ℕ
n32 = top 32

abbrev pub n64 : ℕ
n64 = top 64

abbrev pub the_auto : ℕ
the_auto = 0

-- ---- THE FORMS: a kind's word, what each field behind it may be, and the call that the fields' numbers say. Reading tries them in order,
-- writing takes the one that says a call: both are readings of this one table
pub record Form : Type 0 where
  pub word : String
  pub fields : List ℕ
  pub says : (ℕ → ℕ) → Call

abbrev shape : String → List ℕ → ((ℕ → ℕ) → Call) → Form
shape word fields says = record { word = word; fields = fields; says = says }

-- `pool auto|fixed` then `mmio|pio|host start end`, `input controller start end`, or `msi controller its` and six bounds
module _ (u : Use) where
  abbrev pub pool_mmio : Form
  pool_mmio = shape "mmio" (n64 ∷ n64 ∷ []) (λ n. pool u (mmio_pool (n 0) (n 1)))

  abbrev pub pool_pio : Form
  pool_pio = shape "pio" (n16 ∷ n16 ∷ []) (λ n. pool u (pio_pool (n 0) (n 1)))

  abbrev pub pool_host : Form
  pool_host = shape "host" (n64 ∷ n64 ∷ []) (λ n. pool u (host_pool (n 0) (n 1)))

  abbrev pub pool_input : Form
  pool_input = shape "input" (n32 ∷ n64 ∷ n64 ∷ []) (λ n. pool u (input_pool (n 0) (n 1) (n 2)))

  abbrev pub pool_msi : Form
  pool_msi = shape "msi" (n32 ∷ n32 ∷ n32 ∷ n32 ∷ n32 ∷ n32 ∷ n32 ∷ n32 ∷ []) (λ n. pool u (msi_pool (n 0) (n 1) (n 2) (n 3) (n 4) (n 5) (n 6) (n 7)))

  abbrev pub pool_forms_of : List Form  -- those of a controller
  pool_forms_of = pool_input ∷ pool_msi ∷ []

  abbrev pub pool_forms : List Form
  pool_forms = pool_mmio ∷ pool_pio ∷ pool_host ∷ pool_forms_of

-- `hold owner` then `mmio|pio|host start end`, `input controller n trigger sharing`, `device controller its start end`,
-- `event controller its device start end`, `lpi controller start end`
module _ (o : ℕ) where
  abbrev pub hold_mmio : Form
  hold_mmio = shape "mmio" (n64 ∷ n64 ∷ []) (λ n. hold o (mmio_hold (n 0) (n 1)))

  abbrev pub hold_pio : Form
  hold_pio = shape "pio" (n16 ∷ n16 ∷ []) (λ n. hold o (pio_hold (n 0) (n 1)))

  abbrev pub hold_host : Form
  hold_host = shape "host" (n64 ∷ n64 ∷ []) (λ n. hold o (host_hold (n 0) (n 1)))

  abbrev pub hold_input : Form
  hold_input = shape "input" (n32 ∷ n64 ∷ n32 ∷ n32 ∷ []) (λ n. hold o (input_hold (n 0) (n 1) (n 2) (n 3)))

  abbrev pub hold_lpi : Form
  hold_lpi = shape "lpi" (n32 ∷ n32 ∷ n32 ∷ []) (λ n. hold o (lpi_hold (n 0) (n 1) (n 2)))

  abbrev pub hold_device : Form
  hold_device = shape "device" (n32 ∷ n32 ∷ n32 ∷ n32 ∷ []) (λ n. hold o (device_hold (n 0) (n 1) (n 2) (n 3)))

  abbrev pub hold_event : Form
  hold_event = shape "event" (n32 ∷ n32 ∷ n32 ∷ n32 ∷ n32 ∷ []) (λ n. hold o (event_hold (n 0) (n 1) (n 2) (n 3) (n 4)))

  abbrev pub hold_forms_its : List Form  -- those of an ITS
  hold_forms_its = hold_device ∷ hold_event ∷ []

  abbrev pub hold_forms_of : List Form  -- .. of a controller
  hold_forms_of = hold_input ∷ hold_lpi ∷ hold_forms_its

  abbrev pub hold_forms : List Form
  hold_forms = hold_mmio ∷ hold_pio ∷ hold_host ∷ hold_forms_of

-- `want requester slot` then `mmio|pio size alignment`, `input controller trigger sharing`, `host`, or `msi controller its count`,
-- and last `auto` or a number (three for msi)
module _ (q slot : ℕ) where
  abbrev asked : Want → Call
  asked wanted = want (record { requester = q; slot = slot; want = wanted })

  abbrev pub want_mmio : Form
  want_mmio = shape "mmio" (n64 ∷ n64 ∷ the_auto ∷ []) (λ n. asked (mmio_want (n 0) (n 1) auto))

  abbrev pub want_pio : Form
  want_pio = shape "pio" (n16 ∷ n16 ∷ the_auto ∷ []) (λ n. asked (pio_want (n 0) (n 1) auto))

  abbrev pub want_host : Form
  want_host = shape "host" (the_auto ∷ []) (λ n. asked (host_want auto))

  abbrev pub want_input : Form
  want_input = shape "input" (n32 ∷ n32 ∷ n32 ∷ the_auto ∷ []) (λ n. asked (input_want (n 0) (n 1) (n 2) auto))

  abbrev pub want_msi : Form
  want_msi = shape "msi" (n32 ∷ n32 ∷ n32 ∷ the_auto ∷ []) (λ n. asked (msi_want (n 0) (n 1) (n 2) auto auto auto))

  abbrev pub mmio_at : Form
  mmio_at = shape "mmio" (n64 ∷ n64 ∷ n64 ∷ []) (λ n. asked (mmio_want (n 0) (n 1) (at (n 2))))

  abbrev pub pio_at : Form
  pio_at = shape "pio" (n16 ∷ n16 ∷ n16 ∷ []) (λ n. asked (pio_want (n 0) (n 1) (at (n 2))))

  abbrev pub host_at : Form
  host_at = shape "host" (n64 ∷ []) (λ n. asked (host_want (at (n 0))))

  abbrev pub input_at : Form
  input_at = shape "input" (n32 ∷ n32 ∷ n32 ∷ n64 ∷ []) (λ n. asked (input_want (n 0) (n 1) (n 2) (at (n 3))))

  abbrev pub msi_at : Form
  msi_at = shape "msi" (n32 ∷ n32 ∷ n32 ∷ n32 ∷ n32 ∷ n32 ∷ []) (λ n. asked (msi_want (n 0) (n 1) (n 2) (at (n 3)) (at (n 4)) (at (n 5))))

  abbrev pub want_forms_at_of : List Form
  want_forms_at_of = input_at ∷ msi_at ∷ []

  abbrev pub want_forms_at : List Form  -- those with numbers
  want_forms_at = mmio_at ∷ pio_at ∷ host_at ∷ want_forms_at_of

  abbrev pub want_forms_of : List Form
  want_forms_of = want_input ∷ want_msi ∷ want_forms_at

  abbrev pub want_forms : List Form
  want_forms = want_mmio ∷ want_pio ∷ want_host ∷ want_forms_of

-- ---- read

-- `auto` counts as 0
unfoldable pub entry : ℕ → List ℕ → Option ℕ
entry m f = pick (eqb m the_auto) (when (same f (bytes "auto")) (some 0)) (number m f)

-- as many fields as the form says, each what it says
unfoldable pub numbers : List ℕ → List (List ℕ) → Option (List ℕ)
numbers [] [] = some []
numbers [] (f ∷ fs) = none
numbers (m ∷ ms) [] = none
numbers (m ∷ ms) (f ∷ fs) = entry m f and_then λ v. numbers ms fs and_then λ vs. some (v ∷ vs)

-- .. and the kind's word before them
unfoldable pub form : List ℕ → List ℕ → List ℕ → List (List ℕ) → Option (List ℕ)
form w ms k fs = when (same k w) (numbers ms fs)

-- what is made of the numbers, which are counted from 0
unfoldable pub ◌gives◌ : {A : Type 0} → Option (List ℕ) → ((ℕ → ℕ) → A) → Option A
◌gives◌ none make = none
◌gives◌ (some vs) make = some (make (λ i. get_or vs i 0))

infixl 30 ◌gives◌
-- the first form that the kind's word k and the fields fs behind it are of
unfoldable pub tries : List Form → List ℕ → List (List ℕ) → Option Call
tries [] k fs = none
tries (one ∷ forms) k fs = form (bytes one.word) one.fields k fs gives one.says or_else tries forms k fs

-- ---- written

unfoldable pub field_of : ℕ → ℕ → List ℕ
field_of m v = pick (eqb m the_auto) (bytes "auto") (digits v)

-- the fields of a form, with the numbers n
unfoldable pub fields_of : List ℕ → (ℕ → ℕ) → List (List ℕ)
fields_of [] n = []
fields_of (m ∷ ms) n = field_of m (n 0) ∷ fields_of ms (λ i. n (suc i))

-- the form that says a call, and the call's numbers in its fields' order
pub record Spelling : Type 0 where
  pub form : Form
  pub numbers : List ℕ

abbrev by : Form → List ℕ → Option Spelling
by form ns = some (record { form = form; numbers = ns })

abbrev pub pool_spelling : Use → Pool → Option Spelling
pool_spelling u (mmio_pool s e) = by (pool_mmio u) (s ∷ e ∷ [])
pool_spelling u (pio_pool s e) = by (pool_pio u) (s ∷ e ∷ [])
pool_spelling u (host_pool s e) = by (pool_host u) (s ∷ e ∷ [])
pool_spelling u (input_pool c s e) = by (pool_input u) (c ∷ s ∷ e ∷ [])
pool_spelling u (msi_pool c its ds de es ee ls le) = by (pool_msi u) (c ∷ its ∷ ds ∷ de ∷ es ∷ ee ∷ ls ∷ le ∷ [])

abbrev pub hold_spelling : ℕ → Hold → Option Spelling
hold_spelling o (mmio_hold s e) = by (hold_mmio o) (s ∷ e ∷ [])
hold_spelling o (pio_hold s e) = by (hold_pio o) (s ∷ e ∷ [])
hold_spelling o (host_hold s e) = by (hold_host o) (s ∷ e ∷ [])
hold_spelling o (input_hold c number t sharing) = by (hold_input o) (c ∷ number ∷ t ∷ sharing ∷ [])
hold_spelling o (device_hold c its s e) = by (hold_device o) (c ∷ its ∷ s ∷ e ∷ [])
hold_spelling o (event_hold c its device s e) = by (hold_event o) (c ∷ its ∷ device ∷ s ∷ e ∷ [])
hold_spelling o (lpi_hold c s e) = by (hold_lpi o) (c ∷ s ∷ e ∷ [])
hold_spelling o (pair_hold c number t irq) = none  -- no line says a pair

-- an `auto` stands for no number of its own: 0
abbrev pub want_spelling : ℕ → ℕ → Want → Option Spelling
want_spelling q slot (mmio_want size a auto) = by (want_mmio q slot) (size ∷ a ∷ 0 ∷ [])
want_spelling q slot (mmio_want size a (at b)) = by (mmio_at q slot) (size ∷ a ∷ b ∷ [])
want_spelling q slot (pio_want size a auto) = by (want_pio q slot) (size ∷ a ∷ 0 ∷ [])
want_spelling q slot (pio_want size a (at b)) = by (pio_at q slot) (size ∷ a ∷ b ∷ [])
want_spelling q slot (input_want c t sharing auto) = by (want_input q slot) (c ∷ t ∷ sharing ∷ 0 ∷ [])
want_spelling q slot (input_want c t sharing (at b)) = by (input_at q slot) (c ∷ t ∷ sharing ∷ b ∷ [])
want_spelling q slot (host_want auto) = by (want_host q slot) (0 ∷ [])
want_spelling q slot (host_want (at b)) = by (host_at q slot) (b ∷ [])
want_spelling q slot (msi_want c its count auto auto auto) = by (want_msi q slot) (c ∷ its ∷ count ∷ 0 ∷ [])
want_spelling q slot (msi_want c its count (at device) (at event) (at lpi)) = by (msi_at q slot) (c ∷ its ∷ count ∷ device ∷ event ∷ lpi ∷ [])
want_spelling q slot (msi_want c its count auto auto (at lpi)) = none  -- no line mixes them
want_spelling q slot (msi_want c its count auto (at event) auto) = none
want_spelling q slot (msi_want c its count auto (at event) (at lpi)) = none
want_spelling q slot (msi_want c its count (at device) auto auto) = none
want_spelling q slot (msi_want c its count (at device) auto (at lpi)) = none
want_spelling q slot (msi_want c its count (at device) (at event) auto) = none
