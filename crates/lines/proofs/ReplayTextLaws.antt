-- DEMAND 3 OVER THE TEXT (C-11): the pools and holds of a written text, then any of its wants, each at most once, in any order, read by the program. Assumes nothing.
use mathlib.Core.Path.{◌≡◌, refl, sym, ◌∙◌, ap, subst}
use mathlib.Core.Bool.{true}
use mathlib.Core.List.Memᴰ
use mathlib.Core.List.{List, [], ◌∷◌, ◌++◌, map, Memᴰ}
use mathlib.Core.Logic.{inl, inr}
use Prim.Native.Nat.{ℕ, ◌+◌, ◌≤◌, ◌<◌}
use native.Mathlib.Omega.{arith}
use lib.ListN.{length, length-map, length-append}
use Rattle.definition.specs.Tables.{plan_limit, Kind}
use Rattle.definition.specs.Base.{silence}
use Rattle.definition.specs.Pools.{rows_of, ◌⊕◌}
use Rattle.definition.specs.Calls.{State, pools_of, held_of, owners_of, starting, granting, Call}
use Rattle.definition.specs.Plan.{Grant, all_rows, records, pinned}
use Rattle.definition.proofs.RequestLaws.{AutoInFixed}
use Rattle.definition.proofs.RunLaws.{run_requests}
use Rattle.definition.proofs.PlanLaws.{all_bounded, all_sounds, all_fits, run_done}
use Rattle.definition.proofs.ReplayLaws.{Take, now, later, Pick, stop, pick, take_mem, take_sub, pick_length, Ready, run_ready, kept, replay_run, kept_rows_is, kept_records}
use Rattle.definition.proofs.PickLaws.{indices, nth, pick_nth}
use Rattle.lines.specs.Base.{text_limit, newline}
use Rattle.lines.specs.Line.{line_of}
use Rattle.lines.specs.Output.{got_lines, end_line}
use Rattle.lines.specs.Text.{Sofar, sofar, beginning, accepts, answer, ended, output}
use Rattle.lines.specs.Back.{calls, heads, wants, set_up_by, grants, lines_of, back}
use Rattle.lines.proofs.TakesLaws.{takes, sayable_append, ended_lines}
use Rattle.lines.proofs.RunTextLaws.{standing, heads_again, takes_runs}
use Rattle.lines.proofs.BackLaws.{pinned_wants, ok, ran, set_up_sound, heads_sayable, wants_sayable, back_is, ends as first_ends}

-- ---- how long the lines of a selection are

lines_append : (cs ds : List Call) → length (lines_of (cs ++ ds)) ≡ length (lines_of cs) + length (lines_of ds)
unfolding lines_of
lines_append [] ds = omega arith
lines_append (c ∷ cs) ds =
    length-append (line_of c) (newline ∷ lines_of (cs ++ ds)) ∙ omega (arith, lines_append cs ds, length-append (line_of c) (newline ∷ lines_of cs))

take_lines : {g : Grant} {gs hs : List Grant} → Take g gs hs → length (lines_of (pinned_wants gs)) ≡ length (lines_of (pinned_wants (g ∷ []))) + length (lines_of (pinned_wants hs))
take_lines {g} (now {xs = xs}) = lines_append (pinned_wants (g ∷ [])) (pinned_wants xs)
take_lines {g} (later {y = w} {xs = xs} {ys = ys} t) =
    let h = take_lines t in
    omega (arith, h, lines_append (pinned_wants (w ∷ [])) (pinned_wants xs), lines_append (pinned_wants (w ∷ [])) (pinned_wants ys))

pick_lines : {ps gs : List Grant} → Pick ps gs → length (lines_of (pinned_wants ps)) ≤ length (lines_of (pinned_wants gs))
unfolding lines_of
pick_lines stop = omega arith
pick_lines (pick {x = g} {zs = zs} t p) = let h = pick_lines p in omega (arith, h, take_lines t, lines_append (pinned_wants (g ∷ [])) (pinned_wants zs))

pick_mem : {ps gs : List Grant} → Pick ps gs → (g : Grant) → Memᴰ g ps → Memᴰ g gs
pick_mem stop g m = absurd (Memᴰ.not-nil m)
pick_mem (pick {x = h} {xs = xs} {zs = zs} t p) g m =
    let below = pick_mem p in
    elim (Memᴰ.cases_cons m) [
      | inl e ↦ subst (λ x. Memᴰ x xs) (sym e) (take_mem t)
      | inr n ↦ take_sub t (below g n)
    ]

-- ---- the theorem

-- the hypotheses: a text was accepted, and written; each range of its automatic pools lies inside one range of the fixed pools of its kind and
-- domain; any of its wants, by their indices, each at most once, in any order
pub record Again (text is : List ℕ) : Type 0 where
  pub was_accepted_is : accepts (ended text).said ≡ true
  pub was_written : length (back text) ≤ text_limit
  pub inside : AutoInFixed (pools_of (set_up_by text))
  pub picked : Pick is (indices 0 (length (wants (calls text))))

abbrev pub chosen : List ℕ → List ℕ → List Grant
chosen text is = map (nth (grants text)) is

-- the written text's pools and holds, as they stand there (`back_is`), then its want lines of these indices
abbrev pub selection : List ℕ → List ℕ → List ℕ
selection text is = lines_of (heads (calls text) ++ pinned_wants (chosen text is))

module _ (text is : List ℕ) (a : Again text is) where
  abbrev ps : List Grant
  ps = chosen text is

  abbrev cs : List Call
  cs = calls text

  abbrev gs : List Grant
  gs = grants text

  abbrev s : State
  s = set_up_by text

  granted_all : length gs ≡ length (wants cs)
  granted_all = sym (length-map gs (λ g. g.request)) ∙ ap length (run_requests (pools_of s) (wants cs) (held_of s) gs (ran text a.was_accepted_is))

  picked : Pick ps gs
  picked = pick_nth gs (subst (λ n. Pick is (indices 0 n)) (sym granted_all) a.picked)

  ready : Ready (pools_of s) (held_of s) gs
  ready =
      let h = set_up_sound text a.was_accepted_is in
      run_ready (pools_of s) (all_bounded (starting s) h) a.inside (wants cs) (held_of s) gs (all_sounds (starting s) h) (all_fits (starting s) h) (ran text a.was_accepted_is)

  -- such a text is never longer than the written one
  pub selection_fits : length (selection text is) ≤ text_limit
  selection_fits =
      omega (arith, a.was_written, ap length (back_is text a.was_accepted_is), lines_append (heads cs) (pinned_wants ps), lines_append (heads cs) (pinned_wants gs), pick_lines picked)

  few : length (map pinned ps) ≤ plan_limit
  few = omega (arith, length-map ps pinned, pick_length picked, granted_all, (ok text a.was_accepted_is).few)

  goes : takes beginning (heads cs ++ pinned_wants ps) ≡ sofar (length (heads cs) + length (map pinned ps)) (standing s (map kept ps)) (length (map kept ps)) (records (map kept ps)) silence
  unfolding set_up_by
  goes = takes_runs (heads cs) (map pinned ps) (map kept ps) (heads_again cs) (ok text a.was_accepted_is).heads_go few (replay_run picked ready)

  standing_kept : (qs : List Grant) → standing s (map kept qs) ≡ standing s qs
  standing_kept [] = refl
  standing_kept (q ∷ qs) = ap (λ ds. granting ds (starting s)) (kept_rows_is (q ∷ qs))

  ends : ended (selection text is) ≡ sofar (length (heads cs) + length ps) (standing s ps) (length ps) (records ps) silence
  ends =
      ended_lines (heads cs ++ pinned_wants ps) (sayable_append (heads cs) (pinned_wants ps) (heads_sayable text a.was_accepted_is) (wants_sayable text a.was_accepted_is ps (pick_mem picked))) selection_fits
      ∙ goes
      ∙ (λ i. sofar (length (heads cs) + length-map ps pinned i) (standing_kept ps i) (length-map ps kept i) (kept_records ps i) silence)

  -- DEMAND 3: all are accepted, and each want has the `got` line that it had before
  pub same_answers : output (selection text is) ≡ got_lines (length is) (records ps) ++ end_line (length is)
  unfolding output answer
  same_answers = ap answer ends ∙ ap (λ n. got_lines n (records ps) ++ end_line n) (length-map is (nth gs))

  -- .. the tables are those of the written text's pools and holds; the first want starts them, and then the wants' rows are granted
  pub same_tables : (ended (selection text is)).state ≡ standing s ps
  same_tables = ap (λ (t : Sofar). t.state) ends

  kept_pools : (qs : List Grant) → (standing s qs).pools ≡ s.pools
  kept_pools [] = refl
  kept_pools (q ∷ qs) = refl

  kept_held : (qs : List Grant) → (standing s qs).held ≡ s.held
  kept_held [] = refl
  kept_held (q ∷ qs) = refl

  -- .. so pools and reservations are those that the first text left
  pub same_pools : (ended (selection text is)).state.pools ≡ (ended text).state.pools
  same_pools = ap (λ (t : State). t.pools) same_tables ∙ kept_pools ps ∙ sym (ap (λ (t : Sofar). t.state.pools) (first_ends text a.was_accepted_is) ∙ kept_pools gs)

  pub same_held : (ended (selection text is)).state.held ≡ (ended text).state.held
  same_held = ap (λ (t : State). t.held) same_tables ∙ kept_held ps ∙ sym (ap (λ (t : Sofar). t.state.held) (first_ends text a.was_accepted_is) ∙ kept_held gs)

  -- .. and the owner tables hold, once a want has started them, the reservations and these wants' rows in the order taken, and nothing else
  pub same_rows : 0 < length is → (k : Kind) → owners_of (ended (selection text is)).state k ≡ held_of s k ++ rows_of k (all_rows ps)
  unfolding ◌⊕◌
  same_rows l k = ap (λ (t : State). owners_of t k) same_tables ∙ go ps (omega (arith, length-map is (nth gs))) rows
    where
      rows : owners_of (granting (all_rows ps) (starting s)) k ≡ held_of s k ++ rows_of k (all_rows ps)
      rows =
          let e = (run_done (map pinned ps) (starting s) (map kept ps) (set_up_sound text a.was_accepted_is) (replay_run picked ready) k).1 in
          subst (λ ds. owners_of (granting ds (starting s)) k ≡ held_of s k ++ rows_of k ds) (kept_rows_is ps) e

      go : (qs : List Grant) → 0 < length qs → owners_of (granting (all_rows qs) (starting s)) k ≡ held_of s k ++ rows_of k (all_rows qs) → owners_of (standing s qs) k ≡ held_of s k ++ rows_of k (all_rows qs)
      go [] m e = absurd (omega arith)
      go (q ∷ qs) m e = e
