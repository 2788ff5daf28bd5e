-- THE LAW of writing back: of a text that was accepted, the bytes that the code writes are the definition's pinned text. Assumes nothing.
use mathlib.Core.Path.{◌≡◌, refl, sym, ◌∙◌, ap, subst}
use mathlib.Core.Bool.{true, false}
use mathlib.Core.List.{List, [], ◌∷◌, ◌++◌, map, append_assoc}
use mathlib.Core.Option.{some}
use Prim.Native.Nat.{ℕ, suc}
use native.Mathlib.Omega.{arith}
use lib.Dec.{T}
use lib.ListN.{length, drop}
use lib.Seq.{drop_at}
use Rattle.definition.specs.Tables.{record_size}
use Rattle.definition.proofs.BaseLaws.{and_l, and_r, true_T}
use Rattle.definition.specs.Request.{Request}
use Rattle.definition.specs.Calls.{Call, pool, hold, start, want}
use Rattle.definition.specs.Plan.{Grant, record_of_grant, records, pinned}
use Rattle.definition.proofs.RunLaws.{record_length}
use Rattle.lines.specs.Base.{newline}
use Rattle.lines.specs.Forms.{want_spelling}
use Rattle.lines.specs.Line.{read_line, line_of, spellable, sayable}
use Rattle.lines.specs.Back.{wants, pinned_calls, lines_of}
use Rattle.lines.proofs.InverseLaws.{line_said, read_sayable}
use Rattle.lines.proofs.TakesLaws.{closed_of}
use Rattle.write_back.specs.Bytes.{is_want, ends_in_auto, pinned_bytes, back_bytes, wants_of, Plain, Tidy}
use Rattle.write_back.proofs.EndLaws.{Stays, pool_stays, hold_stays, Pins, want_pins}

-- ---- one line, which says a call

want_line : (r : Request) → T (sayable (want r)) → T (spellable (want_spelling r.requester r.slot r.want))
unfolding sayable
want_line r t = search (and_l, and_r)

pins_by : (g : Grant) → T (sayable (want g.request)) → Pins (line_of (want g.request)) (line_of (want (pinned g))) (record_of_grant g)
unfolding pinned record_of_grant
pins_by g t = want_pins g.request.requester g.request.slot g.rows g.request.want (want_line g.request t)

-- ---- the parts of a text, whose closed lines say cs; its wants were granted gs

-- what is known of them, from here on
pub record Known (ps : List (List ℕ)) (cs : List Call) (gs : List Grant) (rs : List ℕ) : Type 0 where
  pub bytes : back_bytes ps (records gs ++ rs) ≡ lines_of (pinned_calls cs gs)
  pub count : wants_of ps ≡ length gs
  pub tidy : Tidy ps

module _ (p q : List ℕ) (ps : List (List ℕ)) (rs : List ℕ) where
  -- a pool or a hold
  stays_known : (c : Call) (cs : List Call) (gs : List Grant) → line_of c ≡ p → Stays (line_of c) → lines_of (pinned_calls (c ∷ cs) gs) ≡ line_of c ++ (newline ∷ lines_of (pinned_calls cs gs))
      → Known (q ∷ ps) cs gs rs → Known (p ∷ q ∷ ps) (c ∷ cs) gs rs
  unfolding back_bytes wants_of Tidy pinned_bytes
  stays_known c cs gs e s l k =
      let w : is_want p ≡ false = ap is_want (sym e) ∙ s.no_want in
      let a : ends_in_auto p ≡ false = ap ends_in_auto (sym e) ∙ s.no_auto in
      record {
        bytes = rw (w, pinned_bytes, a, k.bytes, sym e) (sym l);
        count = rw (wants_of, w) k.count;
        tidy = (λ t. absurd (let z : ◌≡◌ {A = ℕ} 0 1 = cc in omega arith), k.tidy);
      }

  -- a want
  want_known : (g : Grant) (cs : List Call) (gs : List Grant) → line_of (want g.request) ≡ p → Pins (line_of (want g.request)) (line_of (want (pinned g))) (record_of_grant g) → Known (q ∷ ps) cs gs rs
      → Known (p ∷ q ∷ ps) (want g.request ∷ cs) (g ∷ gs) rs
  unfolding back_bytes wants_of Tidy records pinned_calls lines_of
  want_known g cs gs e s k =
      let w : is_want p ≡ true = ap is_want (sym e) ∙ s.a_want in
      let z : (record_of_grant g ++ records gs) ++ rs ≡ record_of_grant g ++ (records gs ++ rs) = append_assoc (record_of_grant g) (records gs) rs in
      let here : pinned_bytes p (record_of_grant g ++ (records gs ++ rs)) ≡ line_of (want (pinned g)) = ap (λ l. pinned_bytes l (record_of_grant g ++ (records gs ++ rs))) (sym e) ∙ s.pins (records gs ++ rs) in
      let past : drop record_size (record_of_grant g ++ (records gs ++ rs)) ≡ records gs ++ rs = drop_at (record_of_grant g) (records gs ++ rs) record_size (record_length g) in
      record {
        bytes = rw (w, z, here, past, k.bytes) refl;
        count = rw (wants_of, w) (ap suc k.count);
        tidy = (subst Plain e s.plain, k.tidy);
      }

pub known : (ps : List (List ℕ)) (p : List ℕ) (cs : List Call) (gs : List Grant) (rs : List ℕ) → map read_line (closed_of (p ∷ ps)) ≡ map some cs → map (λ g. g.request) gs ≡ wants cs → Known (p ∷ ps) cs gs rs
unfolding closed_of back_bytes wants_of Tidy records wants pinned_calls lines_of sayable
known [] p [] [] rs e w = record { bytes = refl; count = refl; tidy = tt }
known [] p [] (g ∷ gs) rs e w = absurd (let z : ◌≡◌ {A = ℕ} 0 1 = cc in omega arith)
known [] p (c ∷ cs) gs rs e w = absurd (let z : ◌≡◌ {A = ℕ} 0 1 = cc in omega arith)
known (q ∷ ps) p [] gs rs e w = absurd (let z : ◌≡◌ {A = ℕ} 0 1 = cc in omega arith)
known (q ∷ ps) p (pool u r ∷ cs) gs rs e w =
    let here : read_line p ≡ some (pool u r) = cc in
    let below : map read_line (closed_of (q ∷ ps)) ≡ map some cs = cc in
    stays_known p q ps rs (pool u r) cs gs (line_said p (pool u r) here) (pool_stays u r) refl (known ps q cs gs rs below w)
known (q ∷ ps) p (hold o h ∷ cs) gs rs e w =
    let here : read_line p ≡ some (hold o h) = cc in
    let below : map read_line (closed_of (q ∷ ps)) ≡ map some cs = cc in
    stays_known p q ps rs (hold o h) cs gs (line_said p (hold o h) here) (hold_stays o h) refl (known ps q cs gs rs below w)
known (q ∷ ps) p (start ∷ cs) gs rs e w = let here : read_line p ≡ some start = cc in absurd (true_T (sayable start) (read_sayable p start here))
known (q ∷ ps) p (want r ∷ cs) [] rs e w = absurd (let z : ◌≡◌ {A = ℕ} 0 1 = cc in omega arith)
known (q ∷ ps) p (want r ∷ cs) (g ∷ gs) rs e w =
    let here : read_line p ≡ some (want r) = cc in
    let below : map read_line (closed_of (q ∷ ps)) ≡ map some cs = cc in
    let mine : g.request ≡ r = cc in
    let rest : map (λ h. h.request) gs ≡ wants cs = cc in
    let says : read_line p ≡ some (want g.request) = here ∙ ap (λ x. some (want x)) (sym mine) in
    subst (λ x. Known (p ∷ q ∷ ps) (want x ∷ cs) (g ∷ gs) rs) mine
    (want_known p q ps rs g cs gs (line_said p (want g.request) says) (pins_by g (true_T (sayable (want g.request)) (read_sayable p (want g.request) says))) (known ps q cs gs rs below rest))
