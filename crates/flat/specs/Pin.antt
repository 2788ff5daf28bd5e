-- The granted numbers written back into requests as plain numbers: what was automatic then asks for what it was given. Assumes nothing.
use Rattle.std.specs.Prelude.{Bool, true, false, not, ◌&&◌, List, ℕ, zero, suc, ◌+◌, ◌*◌, ◌/◌, min, eqb, length, get_or, set}
use Rattle.definition.specs.Tables.{record_size}
use Rattle.flat.specs.Flat.{request_size, Form, unknown, mmio, pio, input, host, msi, form_at, number_at, request_at}

abbrev pub if_auto : {A : Type 0} → ℕ → A → A → A
if_auto zero a b = a
if_auto (suc code) a b = b

-- one choice, whose code stands at p: an automatic one is now fixed at the number granted, any other stays
unfoldable pub pin_choice_at : ℕ → ℕ → List ℕ → List ℕ
pin_choice_at p granted rq = if_auto (get_or rq p 0) (set (set rq p 1) (p + 1) granted) rq

-- the choices that a kind uses, of the request that begins at p, each with its place in the nine numbers of the record
abbrev pub pin_form : Form → (ℕ → ℕ) → ℕ → List ℕ → List ℕ
pin_form unknown granted p rq = rq
pin_form mmio granted p rq = pin_choice_at (p + 6) (granted 3) rq
pin_form pio granted p rq = pin_choice_at (p + 6) (granted 3) rq
pin_form input granted p rq = pin_choice_at (p + 6) (granted 4) rq
pin_form host granted p rq = pin_choice_at (p + 6) (granted 3) rq
pin_form msi granted p rq = pin_choice_at (p + 10) (granted 7) (pin_choice_at (p + 8) (granted 6) (pin_choice_at (p + 6) (granted 5) rq))

-- the j-th number of the i-th record
abbrev pub granted_at : List ℕ → ℕ → ℕ → ℕ
granted_at res i j = get_or res (record_size * i + j) 0

-- the choices of the i-th request, from the i-th record
unfoldable pub pin_choices : List ℕ → ℕ → List ℕ → List ℕ
pin_choices res i rq = pin_form (form_at (number_at rq i 0)) (granted_at res i) (request_size * i) rq

-- a record tells of the request of its kind, its requester and its slot. To requester 0 nothing is granted, and what cannot be read is read as one
unfoldable pub tells_of : (ℕ → ℕ) → (kind requester slot : ℕ) → Bool
tells_of granted kind requester slot = not (eqb requester 0) && (eqb (granted 0) kind && (eqb (granted 1) requester && eqb (granted 2) slot))

unfoldable pub own_record : List ℕ → ℕ → List ℕ → Bool
own_record res i rq = tells_of (granted_at res i) (number_at rq i 0) (request_at rq i).requester (request_at rq i).slot

-- the i-th request is pinned where the i-th record is its own: where a plan was refused, the list holds behind its records what no plan wrote
unfoldable pub pin_one : List ℕ → ℕ → List ℕ → List ℕ
pin_one res i rq = elim (own_record res i rq) [ true ↦ pin_choices res i rq | false ↦ rq ]

-- from the i-th on, so many
unfoldable pub pin_from : List ℕ → ℕ → ℕ → List ℕ → List ℕ
pin_from res i zero rq = rq
pin_from res i (suc k) rq = pin_from res (suc i) k (pin_one res i rq)

-- every whole request that has a whole record of its own
unfoldable pub pinned_numbers : List ℕ → List ℕ → List ℕ
pinned_numbers rq res = pin_from res 0 (min (length rq / request_size) (length res / record_size)) rq
