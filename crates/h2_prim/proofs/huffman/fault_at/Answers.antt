use Rattle.std.proofs.Common.{arith}
use Rattle.h2_prim.proofs.Reading.{whole, ended, neither}
use Rattle.h2_prim.proofs.huffman.fault_at.Goals as goal

pub returns-in-256 : goal.returns-in-256
returns-in-256 c = λ octets text at. ended octets text c.args.state at c.in-256.is

pub returns-in-0-to-7 : goal.returns-in-0-to-7
returns-in-0-to-7 c = λ octets text at. whole octets text c.args.state at (omega arith)

pub returns-in_default : goal.returns-in_default
returns-in_default c = λ octets text at. neither octets text c.args.state at (omega arith) (omega arith)
