-- The code's kinds of lines, and what is read behind them, in the definition's words. Assumes nothing.
use Rattle.std.specs.Prelude.{◌≡◌, ◌-◌, List, [], ◌∷◌, ℕ, length, set, get_or}
use Rattle.std.specs.Prelude as code
use Rattle.std.proofs.Math.Option.{Option, none, some}
use Rattle.definition.specs.Request.{Use as DUse}
use Rattle.definition.specs.Calls.{Call as DCall, pool, hold, want}
use Rattle.choose.specs.declared.Choice.{Choice}
use Rattle.choose.specs.declared.Choice.TheVariants as C
use Rattle.request.specs.declared.Want.{Want}
use Rattle.request.specs.declared.call.Use.{Use}
use Rattle.request.specs.declared.call.PoolRange.{PoolRange}
use Rattle.request.specs.declared.call.Hold.{Hold}
use Rattle.request.specs.declared.call.Call.{Call}
use Rattle.request.specs.Asked.{want_of}
use Rattle.request.specs.Calls.{use_of, pool_call, hold_call, call_of}
use Rattle.lines.specs.declared.form.Field.{Field}
use Rattle.lines.specs.declared.form.Field.TheVariants.{Auto}
use Rattle.lines.specs.Base.{bytes}
use Rattle.lines.specs.Code.{field_says, numbers_by, Within}
use Rattle.reader.specs.declared.kind.Kind.{Kind}
use Rattle.reader.specs.declared.kind.Kind.TheVariants.{Mmio, Pio, Host, Input, Device, Event, Lpi, Msi}

abbrev pub word_of : Kind → List ℕ
word_of Mmio = bytes "mmio"
word_of Pio = bytes "pio"
word_of Host = bytes "host"
word_of Input = bytes "input"
word_of Device = bytes "device"
word_of Event = bytes "event"
word_of Lpi = bytes "lpi"
word_of Msi = bytes "msi"

abbrev pub kinds : List Kind
kinds = Mmio ∷ Pio ∷ Host ∷ Input ∷ Device ∷ Event ∷ Lpi ∷ Msi ∷ []

-- ---- the call that was read

abbrev pub says : code.Option Call → Option DCall
says code.None = none
says (code.Some c) = call_of c

-- .. of what the code read of it, in the definition's words
abbrev pub said_by : {A B : Type 0} → (A → B) → code.Option A → Option B
said_by f code.None = none
said_by f (code.Some x) = some (f x)

abbrev pub use_says : code.Option Use → Option DUse
use_says = said_by use_of

abbrev pub pool_says : DUse → code.Option PoolRange → Option DCall
pool_says u = said_by (λ p. pool u (pool_call p))

abbrev pub hold_says : ℕ → code.Option Hold → Option DCall
hold_says o = said_by (λ h. hold o (hold_call h))

abbrev pub want_says : ℕ → ℕ → code.Option Want → Option DCall
want_says q s = said_by (λ w. want (record { requester = q; slot = s; want = want_of w }))

-- ---- the numbers of a form and the choice that its last one says, read from the fields fs: first with `auto` for the last

abbrev pub auto_last : ℕ → List Field → List Field
auto_last n form = set form (n - 1) Auto

abbrev pub ChosenAs : ℕ → List Field → List (List ℕ) → List ℕ → Choice ℕ → Type 0
ChosenAs n form fs ns C.Auto = some ns ≡ numbers_by field_says (auto_last n form) fs
ChosenAs n form fs ns (C.Fixed b) = (none ≡ numbers_by field_says (auto_last n form) fs) × (some ns ≡ numbers_by field_says form fs) × (b ≡ get_or ns (n - 1) 0)

pub record Chosen (n : ℕ) (form : List Field) (fs : List (List ℕ)) (ns : List ℕ) (c : Choice ℕ) : Type 0 where
  pub says : ChosenAs n form fs ns c
  pub within : Within 0 form ns

abbrev pub Chooses : ℕ → List Field → List (List ℕ) → code.Option (List ℕ × Choice ℕ) → Type 0
Chooses n form fs code.None = (none ≡ numbers_by field_says (auto_last n form) fs) × (none ≡ numbers_by field_says form fs)
Chooses n form fs (code.Some p) = Chosen n form fs p.0 p.1
