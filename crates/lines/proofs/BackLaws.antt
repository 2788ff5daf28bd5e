-- The text that is written back, of a text that was accepted (C-11). Assumes nothing.
--     back_is      its pools and holds as they were read, then every want with the numbers that it was granted
--     read-back    it is read as just these calls, line by line, and nothing is left open
--     back_same    a text without automatic wants is written as it was read
use mathlib.Core.Path.{◌≡◌, refl, sym, ◌∙◌, ap, subst}
use mathlib.Core.Bool.{Bool, true, false, ◌&&◌}
use mathlib.Core.List.{List, [], ◌∷◌, ◌++◌, map, Memᴰ}
use mathlib.Core.Option.{some}
use Prim.Native.Nat.{ℕ, ◌+◌}
use native.Mathlib.Omega.{arith}
use lib.Dec.{T}
use lib.ListN.{length, length-map, length-append}
use Rattle.definition.specs.Base.{silence}
use Rattle.definition.proofs.BaseLaws.{and_l, and_r, and_i, true_T}
use Rattle.definition.specs.Tables.{kinds}
use Rattle.definition.specs.Pools.{Claim}
use Rattle.definition.specs.Request.{Choice, auto, at, Want, mmio_want, pio_want, input_want, host_want, msi_want, Request, good_choice, good_want, good_request}
use Rattle.definition.specs.Calls.{State, pools_of, held_of, starting, Call, pool, hold, start, want}
use Rattle.definition.specs.Plan.{Grant, done, run, records, base_at, pin_choice, pin_want, pinned}
use Rattle.definition.proofs.StateLaws.{SoundFor, given_for, start_sound}
use Rattle.definition.proofs.RunLaws.{run_requests, run_good}
use Rattle.definition.proofs.PlanLaws.{all_bounded, all_sounds}
use Rattle.lines.specs.Base.{newline, split}
use Rattle.lines.specs.Forms.{want_spelling}
use Rattle.lines.specs.Line.{read_line, numbers_fit, spellable, sayable}
use Rattle.lines.specs.Text.{sofar, accepts, ended}
use Rattle.lines.specs.Back.{calls, heads, wants, set_up_by, grants, pinned_calls, lines_of, back}
use Rattle.lines.proofs.PartLaws.{split_some}
use Rattle.lines.proofs.SpellLaws.{joined, after}
use Rattle.lines.proofs.InverseLaws.{line_said, read_sayable}
use Rattle.lines.proofs.TakesLaws.{closed_of, last_of, Took, ended_takes, call_read, AllSayable, sayable_append, sayable_wants, said_lines, shut_lines}
use Rattle.lines.proofs.RunTextLaws.{standing, Accepted, takes_accepted}

-- ---- a want with its answer written back has a line

-- what makes sense then fits the fields of its line
pinned_fits : (q slot : ℕ) (w : Want) (cs : List Claim) → T (spellable (want_spelling q slot w)) → T (good_want (pin_want w cs)) → T (spellable (want_spelling q slot (pin_want w cs)))
unfolding numbers_fit good_want good_choice pin_want
pinned_fits q slot (mmio_want size a auto) cs s g = search (and_l, and_r, and_i)
pinned_fits q slot (mmio_want size a (at b)) cs s g = s
pinned_fits q slot (pio_want size a auto) cs s g = search (and_l, and_r, and_i)
pinned_fits q slot (pio_want size a (at b)) cs s g = s
pinned_fits q slot (input_want c t sharing auto) cs s g = search (and_l, and_r, and_i)
pinned_fits q slot (input_want c t sharing (at b)) cs s g = s
pinned_fits q slot (host_want auto) cs s g = search (and_l, and_r, and_i)
pinned_fits q slot (host_want (at b)) cs s g = s
pinned_fits q slot (msi_want c i count auto auto auto) cs s g = search (and_l, and_r, and_i) depth 8
pinned_fits q slot (msi_want c i count (at d) (at e) (at l)) cs s g = s
pinned_fits q slot (msi_want c i count auto auto (at l)) cs s g = absurd s
pinned_fits q slot (msi_want c i count auto (at e) auto) cs s g = absurd s
pinned_fits q slot (msi_want c i count auto (at e) (at l)) cs s g = absurd s
pinned_fits q slot (msi_want c i count (at d) auto auto) cs s g = absurd s
pinned_fits q slot (msi_want c i count (at d) auto (at l)) cs s g = absurd s
pinned_fits q slot (msi_want c i count (at d) (at e) auto) cs s g = absurd s

pinned_sayable : (g : Grant) → T (sayable (want g.request)) → T (good_request (pinned g)) → T (sayable (want (pinned g)))
unfolding sayable pinned good_request
pinned_sayable g s k =
    let r = g.request in
    let fits : T (spellable (want_spelling r.requester r.slot r.want)) = search (and_l, and_r) in
    let good : T (good_want (pin_want r.want g.rows)) = search (and_l, and_r) in
    let f : T (spellable (want_spelling r.requester r.slot (pin_want r.want g.rows))) = pinned_fits r.requester r.slot r.want g.rows fits good in
    search (and_l, and_r, and_i)

-- ---- the calls of a text

heads_in : (cs : List Call) (c : Call) → Memᴰ c (heads cs) → Memᴰ c cs
unfolding heads
heads_in [] c m = m
heads_in (pool u p ∷ cs) c (mathlib.Core.List.Memᴰ.head e) = mathlib.Core.List.Memᴰ.head e
heads_in (pool u p ∷ cs) c (mathlib.Core.List.Memᴰ.tail m) = mathlib.Core.List.Memᴰ.tail (heads_in cs c m)
heads_in (hold o h ∷ cs) c (mathlib.Core.List.Memᴰ.head e) = mathlib.Core.List.Memᴰ.head e
heads_in (hold o h ∷ cs) c (mathlib.Core.List.Memᴰ.tail m) = mathlib.Core.List.Memᴰ.tail (heads_in cs c m)
heads_in (start ∷ cs) c m = mathlib.Core.List.Memᴰ.tail (heads_in cs c m)
heads_in (want r ∷ cs) c m = mathlib.Core.List.Memᴰ.tail (heads_in cs c m)

wants_in : (cs : List Call) (r : Request) → Memᴰ r (wants cs) → Memᴰ (want r) cs
unfolding wants
wants_in [] r m = absurd (mathlib.Core.List.Memᴰ.not-nil m)
wants_in (pool u p ∷ cs) r m = mathlib.Core.List.Memᴰ.tail (wants_in cs r m)
wants_in (hold o h ∷ cs) r m = mathlib.Core.List.Memᴰ.tail (wants_in cs r m)
wants_in (start ∷ cs) r m = mathlib.Core.List.Memᴰ.tail (wants_in cs r m)
wants_in (want x ∷ cs) r (mathlib.Core.List.Memᴰ.head e) = mathlib.Core.List.Memᴰ.head (ap want e)
wants_in (want x ∷ cs) r (mathlib.Core.List.Memᴰ.tail m) = mathlib.Core.List.Memᴰ.tail (wants_in cs r m)

-- pools and holds stay in front, and the wants behind them are pinned
abbrev pub pinned_wants : List Grant → List Call
pinned_wants gs = map want (map pinned gs)

pinned_wants_is : (rs : List Request) (gs : List Grant) → map (λ g. g.request) gs ≡ rs → pinned_calls (map want rs) gs ≡ pinned_wants gs
unfolding pinned_calls
pinned_wants_is [] [] e = refl
pinned_wants_is [] (g ∷ gs) e = absurd (let z : ◌≡◌ {A = ℕ} 0 1 = cc in omega arith)
pinned_wants_is (r ∷ rs) [] e = absurd (let z : ◌≡◌ {A = ℕ} 0 1 = cc in omega arith)
pinned_wants_is (r ∷ rs) (g ∷ gs) e = let below : map (λ h. h.request) gs ≡ rs = cc in ap {B = List Call} (λ ds. want (pinned g) ∷ ds) (pinned_wants_is rs gs below)

pinned_heads : (cs ds : List Call) (gs : List Grant) → pinned_calls (heads cs ++ ds) gs ≡ heads cs ++ pinned_calls ds gs
unfolding pinned_calls heads
pinned_heads [] ds gs = refl
pinned_heads (pool u p ∷ cs) ds gs = ap {B = List Call} (λ xs. pool u p ∷ xs) (pinned_heads cs ds gs)
pinned_heads (hold o h ∷ cs) ds gs = ap {B = List Call} (λ xs. hold o h ∷ xs) (pinned_heads cs ds gs)
pinned_heads (start ∷ cs) ds gs = pinned_heads cs ds gs
pinned_heads (want r ∷ cs) ds gs = pinned_heads cs ds gs

-- ---- the text that was read, line by line: each call has one spelling

lines_again : (ps : List (List ℕ)) (p : List ℕ) (cs : List Call) → map read_line (closed_of (p ∷ ps)) ≡ map some cs → last_of (p ∷ ps) ≡ [] → lines_of cs ≡ p ++ after newline ps
unfolding closed_of last_of lines_of after
lines_again [] p [] e l = rw l refl
lines_again [] p (c ∷ cs) e l = absurd (let z : ◌≡◌ {A = ℕ} 0 1 = cc in omega arith)
lines_again (q ∷ ps) p [] e l = absurd (let z : ◌≡◌ {A = ℕ} 0 1 = cc in omega arith)
lines_again (q ∷ ps) p (c ∷ cs) e l =
    let here : read_line p ≡ some c = cc in
    let below : map read_line (closed_of (q ∷ ps)) ≡ map some cs = cc in
    rw (line_said p c here, lines_again ps q cs below l) refl

-- ---- AN ACCEPTED TEXT

module _ (text : List ℕ) (a : accepts (ended text).said ≡ true) where
  pub took : Took text
  took = ended_takes text a

  pub ok : Accepted (calls text)
  ok = takes_accepted (calls text) (ap (λ t. accepts t.said) (sym took.whole) ∙ a)

  abbrev cs : List Call
  cs = calls text

  abbrev gs : List Grant
  gs = grants text

  abbrev s : State
  s = set_up_by text

  pub ran : run (pools_of s) (held_of s) (wants cs) ≡ done gs
  unfolding grants set_up_by
  ran = ok.ran

  pub set_up_sound : SoundFor kinds (starting s)
  unfolding set_up_by
  set_up_sound k m = start_sound s k (given_for kinds s ok.given k m)

  pub requests_are : map (λ g. g.request) gs ≡ wants cs
  requests_are = run_requests (pools_of s) (wants cs) (held_of s) gs ran

  pub pinned_are : pinned_calls cs gs ≡ heads cs ++ pinned_wants gs
  pinned_are =
      ap (λ ds. pinned_calls ds gs) ok.order
      ∙ pinned_heads cs (map want (wants cs)) gs
      ∙ ap (λ ds. heads cs ++ ds) (pinned_wants_is (wants cs) gs requests_are)

  call_sayable : (c : Call) → Memᴰ c cs → T (sayable c)
  call_sayable c m = let (l, n, e) = call_read text took c m in true_T (sayable c) (read_sayable l c e)

  pub heads_sayable : AllSayable (heads cs)
  heads_sayable c m = call_sayable c (heads_in cs c m)

  grant_sayable : (g : Grant) → Memᴰ g gs → T (sayable (want (pinned g)))
  grant_sayable g m =
      let asked : Memᴰ g.request (wants cs) = subst (Memᴰ g.request) requests_are (mathlib.Core.List.Memᴰ.map (λ h. h.request) m) in
      let good : T (good_request (pinned g)) = run_good (pools_of s) (all_bounded (starting s) set_up_sound) (wants cs) (held_of s) gs (all_sounds (starting s) set_up_sound) ran g m in
      pinned_sayable g (call_sayable (want g.request) (wants_in cs g.request asked)) good

  -- .. and so has any selection of the wants, pinned
  pub wants_sayable : (ps : List Grant) → ((g : Grant) → Memᴰ g ps → Memᴰ g gs) → AllSayable (pinned_wants ps)
  wants_sayable ps among = sayable_wants (map pinned ps) λ r m. let (g, n, e) = mathlib.Core.List.Memᴰ.of_map pinned ps m in subst (λ x. T (sayable (want x))) e (grant_sayable g (among g n))

  pub back_sayable : AllSayable (pinned_calls cs gs)
  back_sayable = subst AllSayable (sym pinned_are) (sayable_append (heads cs) (pinned_wants gs) heads_sayable (wants_sayable gs (λ g m. m)))

  -- where the text ends: a record for each want
  pub ends : ended text ≡ sofar (length cs) (standing s gs) (length gs) (records gs) silence
  unfolding grants set_up_by
  ends = took.whole ∙ ok.end

  -- BACK-IS: the pools and holds as they were read, then every want with the numbers that it was granted
  pub back_is : back text ≡ lines_of (heads cs ++ pinned_wants gs)
  unfolding back
  back_is = ap lines_of pinned_are

  -- the text as it was read is the lines of its calls
  text_is : lines_of cs ≡ text
  text_is =
      let (p, ps, e) = split_some newline text in
      lines_again ps p cs (subst (λ qs. map read_line (closed_of qs) ≡ map some cs) e took.said) (subst (λ qs. last_of qs ≡ []) e took.closed) ∙ joined newline text p ps e

-- READ-BACK: the written text has as many lines as the text that was read, and nothing is left open; each line says the call that was read, a want's
-- with its answer written back
pub record ReadBack (text : List ℕ) : Type 0 where
  pub says : map read_line (closed_of (split newline (back text))) ≡ map some (pinned_calls (calls text) (grants text))
  pub count : length (closed_of (split newline (back text))) ≡ length (closed_of (split newline text))
  pub closed : last_of (split newline (back text)) ≡ []

pub read_back : (text : List ℕ) → accepts (ended text).said ≡ true → ReadBack text
unfolding back
read_back text a =
    let cs : List Call = calls text in
    let gs : List Grant = grants text in
    let says : map read_line (closed_of (split newline (back text))) ≡ map some (pinned_calls cs gs) = said_lines (pinned_calls cs gs) (back_sayable text a) in
    let few : length (pinned_calls cs gs) ≡ length cs =
    ap length (pinned_are text a)
    ∙ length-append (heads cs) (pinned_wants gs)
    ∙ ap (λ n. length (heads cs) + n) (length-map (map pinned gs) want ∙ length-map gs pinned ∙ sym (length-map gs (λ g. g.request)) ∙ ap length (requests_are text a) ∙ sym (length-map (wants cs) want))
    ∙ sym (length-append (heads cs) (map want (wants cs)))
    ∙ ap length (sym (ok text a).order) in
    record {
      says = says;
      count = sym (length-map (closed_of (split newline (back text))) read_line) ∙ ap length says ∙ length-map (pinned_calls cs gs) some ∙ few ∙ sym (length-map cs some) ∙ ap length (sym (took text a).said) ∙ length-map (closed_of (split newline text)) read_line;
      closed = shut_lines (pinned_calls cs gs) (back_sayable text a);
    }

-- ---- a text whose wants ask for their numbers

-- no choice is `auto`
abbrev pub settled : Choice → Bool
settled auto = false
settled (at b) = true

abbrev pub settled_want : Want → Bool
settled_want (mmio_want size a c) = settled c
settled_want (pio_want size a c) = settled c
settled_want (input_want controller trigger sharing c) = settled c
settled_want (host_want c) = settled c
settled_want (msi_want controller its count cd ce cl) = settled cd && (settled ce && settled cl)

settled_stays : (c : Choice) (b : ℕ) → T (settled c) → pin_choice c b ≡ c
settled_stays auto b t = absurd t
settled_stays (at x) b t = refl

settled_want_is : (w : Want) (ds : List Claim) → T (settled_want w) → pin_want w ds ≡ w
unfolding pin_want
settled_want_is (mmio_want size a c) ds t = ap (mmio_want size a) (settled_stays c _ t)
settled_want_is (pio_want size a c) ds t = ap (pio_want size a) (settled_stays c _ t)
settled_want_is (input_want k g h c) ds t = ap (input_want k g h) (settled_stays c _ t)
settled_want_is (host_want c) ds t = ap host_want (settled_stays c _ t)
settled_want_is (msi_want k i n d e l) ds t =
    let td : T (settled d) = search (and_l, and_r) in
    let te : T (settled e) = search (and_l, and_r) in
    let tl : T (settled l) = search (and_l, and_r) in
    λ j. msi_want k i n (settled_stays d (base_at 0 ds) td j) (settled_stays e (base_at 1 ds) te j) (settled_stays l (base_at 2 ds) tl j)

pinned_same : (g : Grant) → T (settled_want g.request.want) → pinned g ≡ g.request
unfolding pinned
pinned_same g t = ap (λ w. record { requester = g.request.requester; slot = g.request.slot; want = w }) (settled_want_is g.request.want g.rows t)

settled_calls : (cs : List Call) (gs : List Grant) → ((r : Request) → Memᴰ r (wants cs) → T (settled_want r.want)) → map (λ g. g.request) gs ≡ wants cs → pinned_wants gs ≡ map want (wants cs)
settled_calls cs gs f e = go gs (wants cs) f e
  where
    go : (hs : List Grant) (rs : List Request) → ((r : Request) → Memᴰ r rs → T (settled_want r.want)) → map (λ g. g.request) hs ≡ rs → pinned_wants hs ≡ map want rs
    go [] [] f q = refl
    go [] (r ∷ rs) f q = absurd (let z : ◌≡◌ {A = ℕ} 0 1 = cc in omega arith)
    go (h ∷ hs) [] f q = absurd (let z : ◌≡◌ {A = ℕ} 0 1 = cc in omega arith)
    go (h ∷ hs) (r ∷ rs) f q =
        let here : h.request ≡ r = cc in
        let below : map (λ g. g.request) hs ≡ rs = cc in
        let same : pinned h ≡ r = pinned_same h (rw here (f r (mathlib.Core.List.Memᴰ.head refl))) ∙ here in
        (λ j. want (same j) ∷ go hs rs (λ x m. f x (mathlib.Core.List.Memᴰ.tail m)) below j)

-- BACK-SAME: writing what was read gives the same bytes when no want is automatic
pub back_same : (text : List ℕ) → accepts (ended text).said ≡ true → ((r : Request) → Memᴰ r (wants (calls text)) → T (settled_want r.want)) → back text ≡ text
back_same text a f =
    back_is text a
    ∙ ap (λ ds. lines_of (heads (calls text) ++ ds)) (settled_calls (calls text) (grants text) f (requests_are text a))
    ∙ ap lines_of (sym (ok text a).order)
    ∙ text_is text a
