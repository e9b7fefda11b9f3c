use Rattle.std.proofs.Common.{◌∙◌, arith, refl}
use Rattle.std.proofs.lemmas.Result.{IfErr-weaker, IfOk-weaker}
use Rattle.h2_cmd_book_file.specs.Values.{data_at}
use Rattle.h2_cmd_book_file.proofs.Bodies.{count_of-most, few_said, many_said}
use Rattle.h2_cmd_book_file.proofs.body.contents_of_values.Goals as goal

pub overflow_add-count_of : goal.overflow_add-count_of
overflow_add-count_of c = omega (arith, c.count_of.ensures, c.count_of-2.ensures, count_of-most (data_at c.args.text), count_of-most (data_at c.args.hex))

pub overflow_add-count_of-2 : goal.overflow_add-count_of-2
overflow_add-count_of-2 c =
    omega (arith, c.count_of.ensures, c.count_of-2.ensures, c.count_of-3.ensures, count_of-most (data_at c.args.text), count_of-most (data_at c.args.hex), count_of-most (data_at c.args.file))

pub overflow_add-count_of-3 : goal.overflow_add-count_of-3
overflow_add-count_of-3 c =
    omega (
      arith,
      c.count_of.ensures,
      c.count_of-2.ensures,
      c.count_of-3.ensures,
      c.count_of-4.ensures,
      count_of-most (data_at c.args.text),
      count_of-most (data_at c.args.hex),
      count_of-most (data_at c.args.file),
      count_of-most (data_at c.args.fill),
    )

pub returns-then-count_of-gt1-clause-refused : goal.returns-then-count_of-gt1-clause-refused
returns-then-count_of-gt1-clause-refused c =
    (refl, many_said (data_at c.args.text) (data_at c.args.hex) (data_at c.args.file) (data_at c.args.fill) (omega (arith, c.if-count_of-gt1.true, c.count_of.ensures, c.count_of-2.ensures, c.count_of-3.ensures, c.count_of-4.ensures)))

pub returns-clause-said : goal.returns-clause-said
returns-clause-said c =
    let few = few_said (data_at c.args.text) (data_at c.args.hex) (data_at c.args.file) (data_at c.args.fill) (omega (arith, c.if-count_of-gt1.false, c.count_of.ensures, c.count_of-2.ensures, c.count_of-3.ensures, c.count_of-4.ensures)) in
    IfOk-weaker c.first_said.result _ _ (λ _ h. few ∙ h) c.first_said.ensures.said

pub returns-clause-whole : goal.returns-clause-whole
returns-clause-whole c = c.first_said.ensures.whole

pub returns-clause-refused : goal.returns-clause-refused
returns-clause-refused c =
    let few = few_said (data_at c.args.text) (data_at c.args.hex) (data_at c.args.file) (data_at c.args.fill) (omega (arith, c.if-count_of-gt1.false, c.count_of.ensures, c.count_of-2.ensures, c.count_of-3.ensures, c.count_of-4.ensures)) in
    IfErr-weaker c.first_said.result _ _ (λ _ h. (h.0, few ∙ h.1)) c.first_said.ensures.refused
