-- What the test of a kind's tables gives, and from the core's promise to the call's. Assumes nothing.
use mathlib.Core.Path.{◌≡◌, refl, sym, ◌∙◌, ap}
use mathlib.Core.Bool.{Bool, true}
use mathlib.Core.List.{[], ◌∷◌}
use Prim.Native.Nat.{ℕ, ◌≤◌}
use Rattle.definition.proofs.BaseLaws.{true_T}
use Rattle.definition.specs.Tables.{pool_limit, row_limit, Kind, input, Span, Row, Table, used}
use Rattle.definition.specs.Base.{malformed, bad_input, Said, silence, Answer, require}
use Rattle.definition.specs.Request.{automatic, fixed, one, claims, good_request}
use Rattle.definition.specs.Request as R
use Rattle.definition.specs.Calls.{State, state, pools_of, owners_of, sound, sound_at, want, serve}
use Rattle.definition.proofs.StateLaws.{Sound, sound_says}
use Rattle.tables.specs.Views.{kind_of, pool_view, ranges_view, inputs_view}
use Rattle.tables.specs.declared.Pool.{Pool}
use Rattle.tables.specs.declared.Ranges.{Ranges}
use Rattle.tables.specs.declared.Inputs.{Inputs}
use Rattle.table_tests.specs.Tests.{limits_of}
use Rattle.table_tests.proofs.KindLaws.{Ranged}
use Rattle.sound.specs.Tests.{set_ranges, set_inputs}
use Rattle.sound.proofs.KindLaws.{set_ranges_is, set_inputs_is}
use Rattle.search.specs.Asks.{need_of}
use Rattle.search.specs.Finds.{InOrder}
use Rattle.tables.specs.declared.Kind as K
use Rattle.search.specs.declared.Need.{Need}
use Rattle.choose.specs.Told.{choice_of, told, chosen_in}
use Rattle.choose.specs.Wired.{input_asked}
use Rattle.choose.specs.declared.Choice.{Choice}
use Rattle.choose.specs.declared.wired.InputNeed.{InputNeed}
use Rattle.decide.specs.Outcome.{after}
use Rattle.decide.proofs.AnswerLaws.{claim_of}
use Rattle.decide.proofs.ReadyLaws.{pool_order}
use Rattle.kinds.specs.declared.RangeTables.{RangeTables}
use Rattle.kinds.specs.declared.InputTables.{InputTables}
use Rattle.kinds.specs.Kinds.{RangeAnswer, InputAnswer, pool_as, tables_at, range_state, input_state, answer_of, asked, said_by, RangeServed, InputServed, ServesRange, ServesInput}
use Rattle.kinds.proofs.KindLaws.{only_same, sound_alone, kind_answer, rows_said_is, serve_after, said_told, kind_after}

-- ---- what a passed test gives the choice

pub record Passed (auto fixed : Pool) (on : ℕ) : Type 0 where
  pub order : InOrder auto
  pub fixed_count : fixed.n ≤ pool_limit
  pub rows : on ≤ row_limit

-- these tables for every kind
everywhere : Table Span → Table Span → Table Row → Table Row → State
everywhere a f h o = state (λ u j. pool_as a f u) (λ j. h) (λ j. o) silence

pub ranges_passed : (k : K.Kind) → Ranged (kind_of k) → (a f : Pool) (h o : Ranges) → set_ranges (limits_of (kind_of k)) a f h o ≡ true → Passed a f o.n
unfolding everywhere
ranges_passed k w a f h o e =
    let v : State = everywhere (pool_view a) (pool_view f) (ranges_view h) (ranges_view o) in
    let s : Sound v (kind_of k) = sound_says v (kind_of k) (true_T (sound_at v (kind_of k)) (set_ranges_is v (kind_of k) w a f h o refl refl refl refl ∙ e)) in
    record { order = pool_order (kind_of k) a (s.given.pools automatic); fixed_count = (s.given.pools fixed).tidied.within; rows = s.owners.tidied.within }

pub inputs_passed : (a f : Pool) (h o : Inputs) → set_inputs a f h o ≡ true → Passed a f o.n
unfolding everywhere
inputs_passed a f h o e =
    let v : State = everywhere (pool_view a) (pool_view f) (inputs_view h) (inputs_view o) in
    let s : Sound v input = sound_says v input (true_T (sound_at v input) (set_inputs_is v a f h o refl refl refl refl ∙ e)) in
    record { order = pool_order input a (s.given.pools automatic); fixed_count = (s.given.pools fixed).tidied.within; rows = s.owners.tidied.within }

-- ---- the call's promise

-- the same answer over the lists of a state that has these tables
same_lists : (b g : Bool) (n : R.Need) (c : R.Choice) (a a' f f' : Table Span) (o o' : Table Row) → a ≡ a' → f ≡ f' → o ≡ o'
    → require b malformed (require g bad_input (chosen_in (used a) (used f) (used o) n c)) ≡ require b malformed (require g bad_input (chosen_in (used a') (used f') (used o') n c))
same_lists b g n c a a' f f' o o' p q r = λ i. require b malformed (require g bad_input (chosen_in (used (p i)) (used (q i)) (used (r i)) n c))

module _ (t : RangeTables) (m : Need) (c : Choice ℕ) (r : RangeAnswer) (q s : ℕ) (w : R.Want) where
  abbrev Kd : Kind
  Kd = kind_of m.kind

  abbrev at_range : Said → State
  at_range i = range_state Kd t i

  abbrev Judged : Bool
  Judged = set_ranges (limits_of Kd) t.auto t.fixed t.held t.owners

  abbrev rest : Said → Answer Row
  rest i = require (good_request (asked q s w)) bad_input (chosen_in (pools_of (at_range i) automatic Kd) (pools_of (at_range i) fixed Kd) (owners_of (at_range i) Kd) (need_of m) (choice_of c))

  pub range_serves : Ranged Kd → ((i : Said) → claims (pools_of (at_range i)) (owners_of (at_range i)) q w ≡ one (pools_of (at_range i)) (owners_of (at_range i)) (need_of m) (choice_of c))
      → RangeServed t (good_request (asked q s w)) m c r → ServesRange Kd t q s w r
  range_serves ranged cl h = record { tables = tables; answer = λ i. rows_said_is Kd (need_of m) r.chosen _ (answer i) }
    where
      judged : (i : Said) → sound (Kd ∷ []) (at_range i) ≡ set_ranges (limits_of Kd) t.auto t.fixed t.held t.owners
      judged i = sound_alone (at_range i) Kd ∙ set_ranges_is (at_range i) Kd ranged t.auto t.fixed t.held t.owners (only_same Kd _ _) (only_same Kd _ _) (only_same Kd _ _) (only_same Kd _ _)

      answer : (i : Said) → claim_of Kd (told (need_of m) r.chosen) ≡ answer_of (Kd ∷ []) (asked q s w) (at_range i)
      answer i = kind_answer (at_range i) q s w (need_of m) (choice_of c) (cl i) (told (need_of m) r.chosen)
          (h.answer
          ∙ same_lists Judged (good_request (asked q s w)) (need_of m) (choice_of c) (pool_view t.auto) ((at_range i).pools automatic Kd) (pool_view t.fixed) ((at_range i).pools fixed Kd) (ranges_view t.owners) ((at_range i).owners Kd)
          (sym (only_same Kd _ _)) (sym (only_same Kd _ _)) (sym (only_same Kd _ _))
          ∙ ap (λ b. require b malformed (rest i)) (sym (judged i)))

      tables : (i : Said) → range_state Kd r.tables (said_by r.chosen) ≡ serve (Kd ∷ []) (want (asked q s w)) (at_range i)
      tables i =
          (λ d. tables_at Kd (pool_view (h.auto d)) (pool_view (h.fixed d)) (ranges_view (h.held d)) (ranges_view r.tables.owners) (said_told (need_of m) r.chosen d))
          ∙ kind_after Kd (pool_view t.auto) (pool_view t.fixed) (ranges_view t.held) (ranges_view t.owners) (ranges_view r.tables.owners) i (told (need_of m) r.chosen) h.owners
          ∙ ap (after (at_range i)) (answer i)
          ∙ serve_after (Kd ∷ []) (asked q s w) (at_range i)

module _ (t : InputTables) (m : InputNeed) (c : Choice ℕ) (r : InputAnswer) (q s : ℕ) (w : R.Want) where
  abbrev at_input : Said → State
  at_input i = input_state t i

  abbrev input_rest : Said → Answer Row
  input_rest i = require (good_request (asked q s w)) bad_input (chosen_in (pools_of (at_input i) automatic input) (pools_of (at_input i) fixed input) (owners_of (at_input i) input) (input_asked m) (choice_of c))

  pub input_serves : ((i : Said) → claims (pools_of (at_input i)) (owners_of (at_input i)) q w ≡ one (pools_of (at_input i)) (owners_of (at_input i)) (input_asked m) (choice_of c))
      → InputServed t (good_request (asked q s w)) m c r → ServesInput t q s w r
  input_serves cl h = record { tables = tables; answer = λ i. rows_said_is input (input_asked m) r.chosen _ (answer i) }
    where
      judged : (i : Said) → sound (input ∷ []) (at_input i) ≡ set_inputs t.auto t.fixed t.held t.owners
      judged i = sound_alone (at_input i) input ∙ set_inputs_is (at_input i) t.auto t.fixed t.held t.owners refl refl refl refl

      answer : (i : Said) → claim_of input (told (input_asked m) r.chosen) ≡ answer_of (input ∷ []) (asked q s w) (at_input i)
      answer i = kind_answer (at_input i) q s w (input_asked m) (choice_of c) (cl i) (told (input_asked m) r.chosen) (h.answer ∙ ap (λ b. require b malformed (input_rest i)) (sym (judged i)))

      tables : (i : Said) → input_state r.tables (said_by r.chosen) ≡ serve (input ∷ []) (want (asked q s w)) (at_input i)
      tables i =
          (λ d. tables_at input (pool_view (h.auto d)) (pool_view (h.fixed d)) (inputs_view (h.held d)) (inputs_view r.tables.owners) (said_told (input_asked m) r.chosen d))
          ∙ kind_after input (pool_view t.auto) (pool_view t.fixed) (inputs_view t.held) (inputs_view t.owners) (inputs_view r.tables.owners) i (told (input_asked m) r.chosen) h.owners
          ∙ ap (after (at_input i)) (answer i)
          ∙ serve_after (input ∷ []) (asked q s w) (at_input i)
