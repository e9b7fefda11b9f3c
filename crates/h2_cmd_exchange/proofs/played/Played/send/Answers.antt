use Rattle.std.proofs.Common.{◌≡◌, ◌∙◌, Bool, refl, subst, sym}
use Rattle.std.proofs.lemmas.Result.{on_ok_weaker}
use Rattle.h2_cmd_exchange.specs.Plays.{SendsIf}
use Rattle.h2_cmd_exchange.proofs.played.Played.send.Goals as goal

pub returns-then-is_open : goal.returns-then-is_open
returns-then-is_open g c =
    on_ok_weaker c.send_open.result
    (subst (λ (b : Bool). SendsIf b c.args.asked c.args.piece.now c.args.self.now (g.L.Link.log c.args.link.now) c.send_open.new.self (g.L.Link.log c.send_open.new.link))
    (sym c.if-is_open.true ∙ c.is_open.ensures))
    c.send_open.ensures

pub returns-else-is_open : goal.returns-else-is_open
returns-else-is_open g c =
    subst (λ (b : Bool). SendsIf b c.args.asked c.args.piece.now c.args.self.now (g.L.Link.log c.args.link.now) c.args.self.now (g.L.Link.log c.args.link.now))
    (sym c.if-is_open.false ∙ c.is_open.ensures) (refl, refl)
