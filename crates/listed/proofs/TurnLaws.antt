-- A turn that is skipped, and one that is answered, over the part of the results that begins at its own record. Assumes nothing.
use Rattle.std.proofs.Common.{◌≡◌, ℕ, ◌*◌, ◌/◌, ◌-◌, ◌<◌, ◌≤◌, ◌&&◌, List, [], ◌++◌, length, take, drop, ltb, ap, ap₂, ◌∙◌, arith, le-ltb, length-drop}
use Rattle.std.proofs.Math.Bool.{and-false}
use Rattle.std.proofs.Math.ListN.{drop_of_length-le}
use Rattle.std.proofs.lemmas.List.{append-nil, take_all}
use borrow.Rule.Slice.PartMut.{put_mid}
use Rattle.definition.specs.Tables.{record_size, kinds}
use Rattle.definition.specs.Request.{Request}
use Rattle.definition.specs.Calls.{State}
use Rattle.definition.specs.Plan.{Lent, lent, allocate_into}
use Rattle.plan.specs.Steps.{clear, numbered, answered, turned}
use Rattle.plan.proofs.StepLaws.{not_clear, turned_skips, turned_answers}

-- behind a refusal nothing is done
pub refused_skips : (i : ℕ) (r : Request) (s : State) (out : List ℕ) → (s.said.number ≡ 0 → ⊥) → lent s out ≡ turned i r s out
refused_skips i r s out f = turned_skips i r s out (ap (λ b. b && ltb i (length out / record_size)) (not_clear s f))

-- .. and nothing where there is no room
pub roomless_skips : (i : ℕ) (r : Request) (s : State) (out : List ℕ) → length out / record_size ≤ i → lent s out ≡ turned i r s out
roomless_skips i r s out l = turned_skips i r s out (ap (λ b. clear s && b) (le-ltb i (length out / record_size) l) ∙ and-false (clear s))

-- the part of the list from its own record on is lent and handed back
pub part_answers : (i : ℕ) (r : Request) (s : State) (out : List ℕ) (t t' : State) (ys : List ℕ) → s.said.number ≡ 0 → i < length out / record_size
    → lent t ys ≡ allocate_into kinds r s (take (length out - record_size * i) (drop (record_size * i) out)) → t' ≡ numbered i t
    → lent t' (put_mid (record_size * i) (length out - record_size * i) out ys) ≡ turned i r s out
unfolding answered
part_answers i r s out t t' ys e l p n =
    let a : ℕ = record_size * i in
    let whole : take (length out - a) (drop a out) ≡ drop a out = take_all (length out - a) (drop a out) (simp length-drop (omega arith)) in
    let none : drop (length out - a) (drop a out) ≡ [] = drop_of_length-le (drop a out) {i = length out - a} (simp length-drop (omega arith)) in
    let q : lent t ys ≡ allocate_into kinds r s (drop a out) = p ∙ ap (allocate_into kinds r s) whole in
    ap₂ (λ (u : State) (z : List ℕ). lent u (take a out ++ (ys ++ z))) n none ∙ ap (λ z. lent (numbered i t) (take a out ++ z)) (append-nil ys)
    ∙ ap (λ (m : Lent). lent (numbered i m.state) (take a out ++ m.results)) q ∙ turned_answers i r s out e l
