use Rattle.h2_request_book.proofs.BlockLaws.{too-long, one-more, short-enough}
use Rattle.h2_request_book.proofs.block_length.is_block_too_long.Goals as goal

pub returns-in-None : goal.returns-in-None
returns-in-None g c = too-long c.args.status c.loop-field.left c.loop-field.field-index c.args.fields.now c.field-item.result c.loop-field-test.true c.field-item.is c.loop-field.invariant c.in-None.ensures

pub loop-field-preserved : goal.loop-field-preserved
loop-field-preserved g c = one-more c.args.status c.loop-field.left c.in-Some.rest c.loop-field.field-index c.args.fields.now c.field-item.result c.loop-field-test.true c.field-item.is c.loop-field.invariant c.in-Some.ensures

pub returns : goal.returns
returns g c = short-enough c.args.status c.loop-field.left c.loop-field.field-index c.args.fields.now c.loop-field-test.false c.loop-field.invariant
