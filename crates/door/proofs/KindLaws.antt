-- What holds of each kind holds of every kind; a kind as the code names it. Assumes nothing.
use mathlib.Core.Path.{◌≡◌, refl}
use lib.Dec.{eqb}
use Rattle.definition.specs.Tables.{Kind, mmio, pio, input, host, device, event, lpi, nature, same_kind}
use Rattle.tables.specs.Views.{kind_of, same_of}
use Rattle.door.specs.Kept.{kind_in}

pub every : (P : Kind → Type 0) → P mmio → P pio → P input → P host → P device → P event → P lpi → (k : Kind) → P k
every P m p i h d e l mmio = m
every P m p i h d e l pio = p
every P m p i h d e l input = i
every P m p i h d e l host = h
every P m p i h d e l device = d
every P m p i h d e l event = e
every P m p i h d e l lpi = l

kind_in_is : (k : Kind) → kind_of (kind_in k) ≡ k
kind_in_is = every _ refl refl refl refl refl refl refl

pub same_in : (j k : Kind) → same_of (kind_in j) (kind_in k) ≡ same_kind j k
unfolding same_kind
same_in j k = λ i. eqb (nature (kind_in_is j i)).number (nature (kind_in_is k i)).number
