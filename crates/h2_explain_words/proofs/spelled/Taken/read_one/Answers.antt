use Rattle.std.proofs.Common.{◌≡◌, Bool, ap, sym, ◌∙◌}
use Rattle.h2_spec.specs.Hpack.Instruction.{Indexed}
use Rattle.h2_hpack_instruction.specs.Shapes.{shape_of}
use Rattle.h2_explain_words.specs.Spelled.{some_if}
use Rattle.h2_explain_words.proofs.ReadingOn.{step-none, step-stays, step-taken}
use Rattle.h2_explain_words.proofs.spelled.Taken.read_one.Goals as goal

pub returns-then-taken : goal.returns-then-taken
returns-then-taken g c =
    let now = c.note.new.self in
    step-taken c.args.count c.args.limit c.args.self.now now c.args.octets.now (Indexed c.in-Some.index) 1 c.in-Some.ensures.read
    (ap (λ (b : Bool). some_if b now) (sym c.if-taken.true) ∙ c.in_ok-taken.ensures.taken)

pub returns-else-taken : goal.returns-else-taken
returns-else-taken g c =
    let now = c.note.new.self in
    step-stays c.args.count c.args.limit c.args.self.now now c.args.octets.now (Indexed c.in-Some.index) 1 c.in-Some.ensures.read
    (ap (λ (b : Bool). some_if b now) (sym c.if-taken.false) ∙ c.in_ok-taken.ensures.taken) (c.in_ok-taken.ensures.stays c.if-taken.false)

pub returns-then-taken-2 : goal.returns-then-taken-2
returns-then-taken-2 g c =
    let now = c.take.new.self in
    step-taken c.args.count c.args.limit c.args.self.now now c.args.octets.now (shape_of c.in-Ok.shape) c.in-Ok.used (sym c.in-Ok.ensures.read)
    (ap (λ (b : Bool). some_if b now) (sym c.if-taken-2.true) ∙ c.in_ok-taken-in-Ok.ensures.taken)

pub returns-else-taken-2 : goal.returns-else-taken-2
returns-else-taken-2 g c =
    let now = c.take.new.self in
    step-stays c.args.count c.args.limit c.args.self.now now c.args.octets.now (shape_of c.in-Ok.shape) c.in-Ok.used (sym c.in-Ok.ensures.read)
    (ap (λ (b : Bool). some_if b now) (sym c.if-taken-2.false) ∙ c.in_ok-taken-in-Ok.ensures.taken) (c.in_ok-taken-in-Ok.ensures.stays c.if-taken-2.false)

pub returns-in-Err : goal.returns-in-Err
returns-in-Err g c = step-none c.args.count c.args.limit c.args.self.now c.args.octets.now c.in-Err.field-0 c.in-Err.ensures.read
