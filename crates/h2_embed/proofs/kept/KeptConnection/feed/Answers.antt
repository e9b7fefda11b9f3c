use Rattle.std.proofs.Common.{◌≡◌, ◌∙◌, ◌+◌, ap, arith, length, refl, sym}
use Rattle.h2_embed.proofs.Feeding.{goes-on, ready-on}
use Rattle.h2_embed.proofs.kept.KeptConnection.feed.Goals as goal

pub returns-clause-ready : goal.returns-clause-ready
returns-clause-ready c =
    let came = c.args.self.now.came in
    let more = length c.args.octets.now in
    let added : c.saturating_add-came.result ≡ came + more = omega (arith, c.saturating_add-came.ensures, c.if-came-ge-MOST.false) in
    let ready = ready-on c.args.self.now.explanation c.feed.new.explanation came c.saturating_add-came.result more c.requires.ready.2 c.in_ok-fed.ensures.room added (omega (arith, c.if-came-ge-MOST.false)) in
    (refl, ready.0, ready.1, ready.2)

pub returns-clause-goes : goal.returns-clause-goes
returns-clause-goes c =
    goes-on _ _ _ _ _ _ _ _ _ (sym c.take.ensures.value ∙ c.unwrap-owned.ensures) (ap (λ v. v.items) c.replace.ensures.value) c.in_ok-fed.ensures.form c.in_ok-fed.ensures.goes
    c.in_ok-fed.ensures.gains
