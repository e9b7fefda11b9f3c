use Rattle.std.proofs.Common.{◌∙◌, sym}
use Rattle.std.proofs.lemmas.Result.{on_ok_weaker}
use Rattle.h2_cmd_check.proofs.Blessing.{filled_told}
use Rattle.h2_cmd_check.proofs.walk.Walk.fill_octets.Goals as goal

pub returns-clause-text : goal.returns-clause-text
returns-clause-text c =
    on_ok_weaker c.tell.result
    (λ tells. λ start is. filled_told start c.args.self.now c.pass_octets.new.self c.tell.new.self c.args.conn.now c.pass_octets.new.conn c.args.more.now c.args.out.now c.tell.new.out
    (sym c.is_empty.ensures ∙ c.if-is_empty.false) is (c.in_ok-pass_octets.ensures.walks start is) (c.in_ok-pass_octets.ensures.place start is) tells)
    c.tell.ensures
