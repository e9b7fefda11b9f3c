use Rattle.std.proofs.Common.{◌≡◌, refl, subst}
use Rattle.h2_cmd_items.specs.SentItems.{Along, AreSent, along_of}
use Rattle.h2_cmd_items.proofs.items.items_on.Goals as goal

pub returns : goal.returns
returns c = (
  along_of c.take_all.new.self,
  subst (λ (a : Along). AreSent c.args.conn.now.state c.args.octets.now 0 0 a c.take_all.new.self.sent.items (along_of c.take_all.new.self)) c.in_ok-taking.ensures.1 c.in_ok-take_all.ensures,
  refl,
  refl,
)
