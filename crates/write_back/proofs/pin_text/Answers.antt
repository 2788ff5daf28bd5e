-- Writing back: every case of the definition's answer. Assumes nothing.
use Rattle.std.proofs.Common.{◌≡◌, ◌∙◌, List, ℕ, length, sym, ap, arith, rules}
use Rattle.lines.specs.Back.{pinning}
use Rattle.text.specs.Step.{results_size}
use Rattle.text.specs.Respond.{tables_after}
use Rattle.text.proofs.OutputLaws.{blank}
use Rattle.writers.specs.declared.output.Refused.{Refused}
use Rattle.write_back.specs.Answer.{numbers_of}
use Rattle.write_back.proofs.WriteLaws.{pins_long, pins_no, refused_numbered, no_number, writable, pins_short, pins_over, pins_page}
use Rattle.write_back.proofs.pin_text.Goals as goal
use Rattle.write_back.proofs.pin_text.Goals.{then-out-n-via-then-out-n, then-out-n-via-else-out-n+then-n-gt-TEXT}

-- the five numbers of a refusal, and no bytes
refuses : (x y : Refused) (out : List ℕ) → x ≡ y → pinning (numbers_of x) 0 out ≡ pinning (numbers_of y) 0 out
refuses x y out e = ap (λ z. pinning (numbers_of z) 0 out) e

pub returns-then-text-gt-TEXT : goal.returns-then-text-gt-TEXT
returns-then-text-gt-TEXT c = record {
  answer = refuses _ _ c.args.out.now c.bare.ensures ∙ pins_long c.args.text.now c.args.out.now (omega arith);
  numbered = λ z. omega (arith, ap (λ (x : Refused). x.number) c.bare.ensures);
}

pub returns-in-Some : goal.returns-in-Some
returns-in-Some c =
    let a = c.args in
    let r = c.read-t in
    let long : length r.new.results ≡ results_size = search rules in
    let e = sym c.refused.ensures ∙ c.in-Some.is in
    record {
      answer = pins_no a.text.now blank r.result (tables_after a.text.now) r.new.results r.ensures long (omega arith) a.out.now c.in-Some.no e;
      numbered = refused_numbered r.result c.in-Some.no e r.ensures.named;
    }

pub back_length-n-requires : goal.back_length-n-requires
back_length-n-requires c =
    let a = c.args in
    let r = c.read-t in
    let long : length r.new.results ≡ results_size = search rules in
    writable a.text.now blank r.result (tables_after a.text.now) r.new.results r.ensures long (omega arith) (no_number r.result (sym c.refused.ensures ∙ c.in_default.is))

pub returns-then-out-n : goal.returns-then-out-n
returns-then-out-n c =
    let a = c.args in
    let r = c.read-t in
    let n = c.back_length-n in
    let long : length r.new.results ≡ results_size = search rules in
    let e = no_number r.result (sym c.refused.ensures ∙ c.in_default.is) in
    record {
      answer = refuses _ _ a.out.now c.bare-then-out-n.ensures
          ∙ elim c.then-out-n.branch [
            | then-out-n-via-then-out-n w ↦ pins_short a.text.now blank r.result (tables_after a.text.now) r.new.results r.ensures long (omega arith) e a.out.now n.result n.ensures (omega arith)
            | then-out-n-via-else-out-n+then-n-gt-TEXT w ↦ pins_over a.text.now blank r.result (tables_after a.text.now) r.new.results r.ensures long (omega arith) e a.out.now n.result n.ensures (omega arith)
          ];
      numbered = λ z. omega (arith, ap (λ (x : Refused). x.number) c.bare-then-out-n.ensures);
    }

pub put_back-requires-clause-writable : goal.put_back-requires-clause-writable
put_back-requires-clause-writable c =
    let a = c.args in
    let r = c.read-t in
    let long : length r.new.results ≡ results_size = search rules in
    writable a.text.now blank r.result (tables_after a.text.now) r.new.results r.ensures long (omega arith) (no_number r.result (sym c.refused.ensures ∙ c.in_default.is))

pub returns : goal.returns
returns c =
    let a = c.args in
    let r = c.read-t in
    let n = c.back_length-n in
    let p = c.new-page in
    let long : length r.new.results ≡ results_size = search rules in
    record {
      answer =
          pins_page
          a.text.now
          blank
          r.result
          (tables_after a.text.now)
          r.new.results
          r.ensures
          long
          (omega arith)
          (no_number r.result (sym c.refused.ensures ∙ c.in_default.is))
          a.out.now
          n.result
          n.ensures
          p.result
          c.put_back.new.page
          p.ensures.untouched
          p.ensures.front
          (omega arith)
          (omega arith)
          c.put_back.ensures
          _
          (let same = c.put_back.ensures.same ∙ p.ensures.same_reference in search rules);
      numbered = tt;
    }
