use Rattle.std.proofs.Common.{◌≡◌, ◌<◌, arith, rules}
use Rattle.h2_spec.specs.Hpack.Instruction as spec
use Rattle.h2_spec.specs.Hpack.Instruction.{mode_prefix}
use Rattle.h2_spec.specs.Hpack.Integer.{int_at}
use Rattle.h2_spec.specs.Read.{Whole, More, TooLong}
use Rattle.h2_hpack_instruction.specs.Resume.{Nothing, NameLength, ValueLength}
use Rattle.h2_hpack_instruction.specs.Shapes.{mode_of}
use Rattle.h2_hpack_instruction.proofs.Resuming.{goes-on, indexed-name, literal-more, literal-too_long, spelled-name, stops-at_start}
use Rattle.h2_hpack_instruction.proofs.shape.literal.Goals as goal

pub returns-in-Whole-eq0-default : goal.returns-in-Whole-eq0-default
returns-in-Whole-eq0-default c =
    let b = c.args.octets.now in
    let used = c.in-Whole-eq0-default.used in
    let mode = mode_of c.args.mode in
    let e : Whole 0 used ≡ int_at (mode_prefix mode) b = search rules in
    goes-on b Nothing (NameLength mode) 0 used 0 used c.from_name_length.result (spelled-name b mode used c.requires.announced e) (omega arith) c.from_name_length.ensures

pub returns-in-Whole : goal.returns-in-Whole
returns-in-Whole c =
    let b = c.args.octets.now in
    let used = c.in-Whole.used in
    let index = c.in-Whole.index in
    let mode = mode_of c.args.mode in
    let some : 0 < index = search rules in
    let e : Whole index used ≡ int_at (mode_prefix mode) b = search rules in
    goes-on b Nothing (ValueLength mode (spec.Ref index)) 0 used 0 used c.from_value_length.result (indexed-name b mode index used some c.requires.announced e) (omega arith) c.from_value_length.ensures

pub returns-in-More : goal.returns-in-More
returns-in-More c =
    let b = c.args.octets.now in
    let e : More ≡ int_at (mode_prefix (mode_of c.args.mode)) b = search rules in
    (literal-more b (mode_of c.args.mode) c.requires.announced e, stops-at_start b c.start.result (c.start.ensures.anywhere b) c.start.ensures.passed (omega (arith, c.in-More.ensures.place)))

pub returns-in-TooLong : goal.returns-in-TooLong
returns-in-TooLong c =
    let e : TooLong ≡ int_at (mode_prefix (mode_of c.args.mode)) c.args.octets.now = search rules in
    literal-too_long c.args.octets.now (mode_of c.args.mode) c.requires.announced e
