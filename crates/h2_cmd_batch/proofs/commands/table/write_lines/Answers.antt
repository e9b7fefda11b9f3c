use Rattle.std.proofs.Common.{◌∙◌, ◌≤◌, ◌<◌, Result, length, arith, ap, refl, sym}
use Rattle.std.proofs.lemmas.Result.{err_from_is_err_and}
use Rattle.h2_cmd_batch.specs.Each.{not_written}
use Rattle.h2_cmd_batch.specs.TableProgram.{lines_of, printed_parts}
use Rattle.h2_cmd_batch.specs.declared.commands.each.PrintFault.{PrintFault}
use Rattle.h2_cmd_batch.proofs.Tables.{wrote-all, wrote-line, wrote-none, wrote-some}
use Rattle.h2_cmd_batch.proofs.Written.{whole-parts}
use Rattle.h2_cmd_batch.proofs.commands.table.write_lines.Goals as goal

pub loop-rest-init : goal.loop-rest-init
loop-rest-init g c = record {
  writer = c.requires;
  name = refl;
  printed = λ held is. wrote-none c.args.table.now c.args.input.now held _ is;
}

pub loop-rest-preserved : goal.loop-rest-preserved
loop-rest-preserved g c =
    let some : 0 < length c.loop-rest.rest.now = grind (arith, c.loop-rest-test.ensures) in
    record {
      writer = c.write_line.ensures.flag ∙ ap (λ (r : Result (Unit {0}) PrintFault). not_written r) c.in_ok-write_line.was;
      name = c.write_line.ensures.name ∙ c.loop-rest.invariant.name;
      printed = λ held is.
          wrote-line _ _ _ c.loop-rest.rest.now c.first_line.result.0.now c.first_line.result.1.now held _ _ some c.first_line.ensures.0 c.first_line.ensures.1
          c.in_ok-write_line.ensures.table c.in_ok-write_line.ensures.octets (c.loop-rest.invariant.printed held is);
    }

pub returns-in_err-write_line-clause-printed : goal.returns-in_err-write_line-clause-printed
returns-in_err-write_line-clause-printed g c =
    let p = err_from_is_err_and c.from_residual.result c.from_residual.ensures.1 in
    rw (p.1, p.2) (λ well held is.
    let broken = sym (ap (λ (r : Result (Unit {0}) PrintFault). not_written r) c.in_err-write_line.was) ∙ sym c.write_line.ensures.flag ∙ well in
    wrote-some (printed_parts c.args.table.now (lines_of c.args.input.now)) _ _ c.loop-rest.rest.now held _ _ c.in_err-write_line.field-0.0 broken c.in_err-write_line.ensures.err (c.loop-rest.invariant.printed held is))

pub returns-clause-printed : goal.returns-clause-printed
returns-clause-printed g c = λ well held is.
    let none : length c.loop-rest.rest.now ≤ 0 = grind (arith, c.loop-rest-test.ensures) in
    whole-parts c.write_text.result (printed_parts c.args.table.now (lines_of c.args.input.now)) held _ _ c.write_text.ensures.flag well
    (λ written. wrote-all (printed_parts c.args.table.now (lines_of c.args.input.now)) _ c.loop-rest.rest.now held _ _ none written (c.loop-rest.invariant.printed held is))
    c.write_text.ensures.octets
