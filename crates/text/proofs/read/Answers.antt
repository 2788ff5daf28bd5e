-- A text's lines taken on fresh tables, which are sound. Assumes nothing.
use Rattle.std.proofs.Common.{◌≡◌, ◌∙◌, sym, ap, subst, T}
use Rattle.definition.specs.Tables.{kinds}
use Rattle.definition.specs.Calls as C
use Rattle.definition.proofs.StateLaws.{for_given, sound_for, fresh_sound}
use Rattle.tables.specs.Views.{state_view}
use Rattle.tables.specs.Whole.{fresh_state}
use Rattle.tables.specs.declared.State.{State}
use Rattle.tables.proofs.FreshLaws.{fresh_view}
use Rattle.text.specs.Step.{Fed}
use Rattle.text.proofs.OutputLaws.{tables_are}
use Rattle.text.proofs.read.Goals as goal

fresh_given : (h : State) → h ≡ fresh_state → T (C.given kinds (state_view h))
fresh_given h e = subst (λ (s : C.State). T (C.given kinds s)) (sym (ap state_view e ∙ fresh_view)) (for_given kinds C.fresh (λ k i. (sound_for kinds C.fresh (fresh_sound kinds) k i).given))

pub feed-requires : goal.feed-requires
feed-requires c = (fresh_given c.fresh-s.result c.fresh-s.ensures, c.requires)

pub returns : goal.returns
returns c =
    let a = c.args in
    let f = c.feed in
    tables_are
    a.text.now
    a.results.now
    f.result
    (state_view f.new.s)
    f.new.results
    (subst (λ (s : C.State). Fed a.text.now s a.results.now f.result (state_view f.new.s) f.new.results) (ap state_view c.fresh-s.ensures ∙ fresh_view) f.ensures)
    (f.auto.results ∙ c.requires)
