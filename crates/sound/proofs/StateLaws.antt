-- The whole state: the definition's tests of it, kind by kind. Assumes nothing.
use mathlib.Core.Path.{◌≡◌, refl, sym, ap}
use mathlib.Core.Bool.{Bool, true, ◌&&◌}
use mathlib.Core.List.{List, [], ◌∷◌}
use Rattle.std.specs.List.{list_all}
use Rattle.definition.specs.Base.{all_of, pairs_of}
use Rattle.definition.specs.Tables.{same_dom, same_row, same_span, Kind, kinds, mmio, pio, input, host, device, event, lpi, tidy, sound_table, begins}
use Rattle.definition.specs.Calls.{fresh, given_at, sound_at, given, sound}
use Rattle.tables.specs.Views.{kind_of, state_view}
use Rattle.tables.specs.declared.Kind as C
use Rattle.tables.specs.declared.Kind.TheVariants as K
use Rattle.tables.specs.declared.State.{State}
use Rattle.sound.specs.Tests.{given_of, set_of}
use Rattle.sound.proofs.KindLaws.{given_ranges_is, set_ranges_is, given_inputs_is, set_inputs_is}

pub given_at_is : (s : State) (k : Kind) → given_at (state_view s) k ≡ given_of s k
given_at_is s mmio = given_ranges_is (state_view s) mmio refl _ _ _ refl refl refl
given_at_is s pio = given_ranges_is (state_view s) pio refl _ _ _ refl refl refl
given_at_is s input = given_inputs_is (state_view s) _ _ _ refl refl refl
given_at_is s host = given_ranges_is (state_view s) host refl _ _ _ refl refl refl
given_at_is s device = given_ranges_is (state_view s) device refl _ _ _ refl refl refl
given_at_is s event = given_ranges_is (state_view s) event refl _ _ _ refl refl refl
given_at_is s lpi = given_ranges_is (state_view s) lpi refl _ _ _ refl refl refl

pub sound_at_is : (s : State) (k : Kind) → sound_at (state_view s) k ≡ set_of s k
sound_at_is s mmio = set_ranges_is (state_view s) mmio refl _ _ _ _ refl refl refl refl
sound_at_is s pio = set_ranges_is (state_view s) pio refl _ _ _ _ refl refl refl refl
sound_at_is s input = set_inputs_is (state_view s) _ _ _ _ refl refl refl refl
sound_at_is s host = set_ranges_is (state_view s) host refl _ _ _ _ refl refl refl refl
sound_at_is s device = set_ranges_is (state_view s) device refl _ _ _ _ refl refl refl refl
sound_at_is s event = set_ranges_is (state_view s) event refl _ _ _ _ refl refl refl refl
sound_at_is s lpi = set_ranges_is (state_view s) lpi refl _ _ _ _ refl refl refl refl

-- a test of all kinds, one after the other, as code names them
abbrev every : List C.Kind
every = K.Mmio ∷ K.Pio ∷ K.Input ∷ K.Host ∷ K.Device ∷ K.Event ∷ K.Lpi ∷ []

all_kinds : (p q : Kind → Bool) → ((k : Kind) → p k ≡ q k) → list_all (λ k. q (kind_of k)) every ≡ all_of p kinds
unfolding all_of
all_kinds p q h = sym (ap (λ (r : Kind → Bool). r mmio && (r pio && (r input && (r host && (r device && (r event && (r lpi && true))))))) (λ i k. h k i))

pub given_is : (s : State) → list_all (λ k. given_of s (kind_of k)) every ≡ given kinds (state_view s)
unfolding given
given_is s = all_kinds (given_at (state_view s)) (given_of s) (given_at_is s)

pub sound_is : (s : State) → list_all (λ k. set_of s (kind_of k)) every ≡ sound kinds (state_view s)
unfolding sound
sound_is s = all_kinds (sound_at (state_view s)) (set_of s) (sound_at_is s)

-- a fresh state is sound
pub fresh_sound : sound kinds fresh ≡ true
unfolding sound sound_at given_at sound_table tidy all_of pairs_of begins same_row same_span same_dom
fresh_sound = refl
