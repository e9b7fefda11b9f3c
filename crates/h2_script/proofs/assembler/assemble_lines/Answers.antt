use Rattle.std.proofs.Common.{◌∙◌, List, ℕ, [], sym, ap, arith}
use Rattle.std.proofs.lemmas.Result.{err_from_is_err_and}
use Rattle.h2_spec.specs.Texts.Assemble.{lines_at, with_front}
use Rattle.h2_spec.specs.Texts.Script.{lines_of}
use Rattle.h2_script.proofs.Lines.{added, ended, lines_cut, lines_last, refused}
use Rattle.h2_script.proofs.assembler.assemble_lines.Goals as goal

pub returns-in_err-add_at : goal.returns-in_err-add_at
returns-in_err-add_at g c =
    let cut = lines_cut c.loop-line.rest.now c.in-Some.line.now c.in-Some.more.now c.in-Some.ensures in
    let p = err_from_is_err_and c.from_residual.result c.from_residual.ensures.1 in
    rw (p.1, p.2) (refused c.loop-line.number c.loop-line.out.items c.add_at.new.out.items c.in-Some.line.now (lines_of c.in-Some.more.now) c.in_err-add_at.field-0.0
    (lines_at 1 (lines_of c.args.text.now)) c.in_err-add_at.ensures
    (sym (ap (λ (ls : List (List ℕ)). with_front c.loop-line.out.items (lines_at c.loop-line.number ls)) cut.0) ∙ c.loop-line.invariant.so_far))

pub loop-line-preserved : goal.loop-line-preserved
loop-line-preserved g c =
    let cut = lines_cut c.loop-line.rest.now c.in-Some.line.now c.in-Some.more.now c.in-Some.ensures in
    record {
      so_far = added c.loop-line.number c.loop-line.out.items c.add_at.new.out.items c.in-Some.line.now (lines_of c.in-Some.more.now) c.in_ok-add_at.ensures
          ∙ sym (ap (λ (ls : List (List ℕ)). with_front c.loop-line.out.items (lines_at c.loop-line.number ls)) cut.0) ∙ c.loop-line.invariant.so_far;
      count = omega (arith, cut.1, c.loop-line.invariant.count);
    }

pub returns : goal.returns
returns g c =
    let last = lines_last c.loop-line.rest.now c.in_default.ensures in
    sym c.loop-line.invariant.so_far
    ∙ ap (λ (ls : List (List ℕ)). with_front c.loop-line.out.items (lines_at c.loop-line.number ls)) last
    ∙ ended c.loop-line.number c.loop-line.out.items c.add_at-2.new.out.items c.loop-line.rest.now c.in_ok-add_at-2.ensures

pub returns-in_err-add_at-2 : goal.returns-in_err-add_at-2
returns-in_err-add_at-2 g c =
    let last = lines_last c.loop-line.rest.now c.in_default.ensures in
    let p = err_from_is_err_and c.from_residual-in_err-add_at-2.result c.from_residual-in_err-add_at-2.ensures.1 in
    rw (p.1, p.2) (refused c.loop-line.number c.loop-line.out.items c.add_at-2.new.out.items c.loop-line.rest.now [] c.in_err-add_at-2.field-0.0
    (lines_at 1 (lines_of c.args.text.now)) c.in_err-add_at-2.ensures
    (sym (ap (λ (ls : List (List ℕ)). with_front c.loop-line.out.items (lines_at c.loop-line.number ls)) last) ∙ c.loop-line.invariant.so_far))
