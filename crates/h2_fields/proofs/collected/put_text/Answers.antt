use Rattle.std.proofs.lemmas.Result.{IfOk-from_err, MatchResult-from_err}
use Rattle.h2_fields.proofs.collected.put_text.Goals as goal

pub returns-in_err-put_huffman-clause-text : goal.returns-in_err-put_huffman-clause-text
returns-in_err-put_huffman-clause-text g c = IfOk-from_err c.from_residual.result _ c.from_residual.ensures.0

pub returns-in_err-put_huffman-clause-unchanged : goal.returns-in_err-put_huffman-clause-unchanged
returns-in_err-put_huffman-clause-unchanged g c = MatchResult-from_err c.from_residual.result _ _ c.from_residual.ensures.0 (λ _. c.in_err-put_huffman.ensures.unchanged)

pub returns-in_err-put-clause-text : goal.returns-in_err-put-clause-text
returns-in_err-put-clause-text g c = IfOk-from_err c.from_residual-in_err-put.result _ c.from_residual-in_err-put.ensures.0

pub returns-in_err-put-clause-unchanged : goal.returns-in_err-put-clause-unchanged
returns-in_err-put-clause-unchanged g c = MatchResult-from_err c.from_residual-in_err-put.result _ _ c.from_residual-in_err-put.ensures.0 (λ _. c.in_err-put.ensures.err)
