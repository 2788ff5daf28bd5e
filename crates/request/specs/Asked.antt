-- What the code's requests and numbers say in the definition's terms. Assumes nothing.
use Rattle.std.specs.Prelude.{Bool, ◌&&◌, ℕ, leb, ltb}
use Rattle.definition.specs.Base.{says}
use Rattle.definition.specs.Base as F
use Rattle.definition.specs.Request.{good_choice, one_bit, mmio_want, pio_want, input_want, host_want, msi_want}
use Rattle.definition.specs.Request as R
use Rattle.choose.specs.Told.{choice_of}
use Rattle.choose.specs.Ids.{device_choice, event_choice, lpi_choice}
use Rattle.request.specs.declared.Want.{Want}
use Rattle.request.specs.declared.Want.TheVariants.{Mmio, Pio, Input, Host, Msi}
use Rattle.request.specs.declared.Request.{Request}
use Rattle.request.specs.declared.Said.{Said}

abbrev pub want_of : Want → R.Want
want_of (Mmio size a c) = mmio_want size a (choice_of c)
want_of (Pio size a c) = pio_want size a (choice_of c)
want_of (Input controller trigger sharing c) = input_want controller trigger sharing (choice_of c)
want_of (Host c) = host_want (choice_of c)
want_of (Msi controller its count cd ce cl) = msi_want controller its count (device_choice cd) (event_choice ce) (lpi_choice cl)

abbrev pub request_of : Request → R.Request
request_of r = record { requester = r.requester; slot = r.slot; want = want_of r.want }

-- the five numbers, the index 0
abbrev pub said_of : Said → F.Said
said_of w = says 0 w.number w.namespace w.owner w.detail

-- what MMIO and PIO ask of a range, at their widths: laws `mmio_good`, `pio_good`
unfoldable pub good_span : ℕ → ℕ → ℕ → R.Choice → Bool
good_span most size a c = ltb 0 size && (leb size most && (leb a most && (one_bit 64 a && good_choice most c)))
