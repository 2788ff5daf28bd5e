-- The tests of one kind's tables are the definition's tests of that kind. Assumes nothing.
use mathlib.Core.Path.{◌≡◌, refl, sym, ◌∙◌, ap, ap₂}
use mathlib.Core.Bool.{Bool, true, false, ◌&&◌}
use Rattle.definition.specs.Tables.{Kind, input, used, sound_held, sound_owners, begins}
use Rattle.definition.specs.Request.{automatic, fixed}
use Rattle.definition.specs.Calls.{State, given_at, sound_at}
use Rattle.tables.specs.Views.{pool_view, ranges_view, inputs_view}
use Rattle.tables.specs.declared.Pool.{Pool}
use Rattle.tables.specs.declared.Ranges.{Ranges}
use Rattle.tables.specs.declared.Inputs.{Inputs}
use Rattle.table_tests.specs.Tests.{limits_of, sound_pool_in, sound_ranges_in, holders_in}
use Rattle.table_tests.proofs.KindLaws.{Ranged, pool_kind, held_kind, owners_kind}
use Rattle.sound.specs.Tests.{sound_inputs, pools_in, given_ranges, set_ranges, given_inputs, set_inputs}

-- ---- inputs

pub held_inputs : (t : Inputs) → sound_held input (inputs_view t) ≡ sound_inputs true t
unfolding sound_inputs
held_inputs t = refl

pub owners_inputs : (t : Inputs) → sound_owners input (inputs_view t) ≡ sound_inputs false t
unfolding sound_inputs
owners_inputs t = refl

-- ---- the tables of one kind of a state

-- code tests the two pools together
together : (a b c : Bool) → a && (b && c) ≡ (a && b) && c
together true b c = refl
together false b c = refl

module _ (s : State) where
  pub given_ranges_is :
      (k : Kind) → Ranged k → (a f : Pool) (h : Ranges)
      → s.pools automatic k ≡ pool_view a → s.pools fixed k ≡ pool_view f → s.held k ≡ ranges_view h
      → given_at s k ≡ given_ranges (limits_of k) a f h
  unfolding given_at given_ranges pools_in
  given_ranges_is k r a f h p q e =
      rw (p, q, e) (ap₂ (λ x y. x && y) (pool_kind k a) (ap₂ (λ x y. x && y) (pool_kind k f) (held_kind k r h)))
      ∙ together (sound_pool_in (limits_of k) a) (sound_pool_in (limits_of k) f) (sound_ranges_in (limits_of k) h)

  pub set_ranges_is :
      (k : Kind) → Ranged k → (a f : Pool) (h o : Ranges)
      → s.pools automatic k ≡ pool_view a → s.pools fixed k ≡ pool_view f → s.held k ≡ ranges_view h → s.owners k ≡ ranges_view o
      → sound_at s k ≡ set_ranges (limits_of k) a f h o
  unfolding sound_at set_ranges given_ranges holders_in
  set_ranges_is k r a f h o p q e d =
      ap₂ (λ x y. x && y) (given_ranges_is k r a f h p q e)
      (ap₂ (λ x y. x && y) (ap (sound_owners k) d ∙ owners_kind k r o) (ap₂ (λ x y. begins (used x) (used y)) e d))
      ∙ sym (together (pools_in (limits_of k) a f) (sound_ranges_in (limits_of k) h) _)

  pub given_inputs_is :
      (a f : Pool) (h : Inputs) → s.pools automatic input ≡ pool_view a → s.pools fixed input ≡ pool_view f → s.held input ≡ inputs_view h
      → given_at s input ≡ given_inputs a f h
  unfolding given_at given_inputs pools_in
  given_inputs_is a f h p q e =
      rw (p, q, e) (ap₂ (λ x y. x && y) (pool_kind input a) (ap₂ (λ x y. x && y) (pool_kind input f) (held_inputs h)))
      ∙ together (sound_pool_in (limits_of input) a) (sound_pool_in (limits_of input) f) (sound_inputs true h)

  pub set_inputs_is :
      (a f : Pool) (h o : Inputs)
      → s.pools automatic input ≡ pool_view a → s.pools fixed input ≡ pool_view f → s.held input ≡ inputs_view h → s.owners input ≡ inputs_view o
      → sound_at s input ≡ set_inputs a f h o
  unfolding sound_at set_inputs
  set_inputs_is a f h o p q e d =
      ap₂ (λ x y. x && y) (given_inputs_is a f h p q e)
      (ap₂ (λ x y. x && y) (ap (sound_owners input) d ∙ owners_inputs o) (ap₂ (λ x y. begins (used x) (used y)) e d))
