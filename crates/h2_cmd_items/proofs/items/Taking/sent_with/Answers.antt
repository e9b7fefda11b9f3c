use Rattle.std.proofs.Common.{◌≡◌, ◌∙◌, ℕ, ap, refl, subst, sym}
use Rattle.h2_cmd_items.specs.SentItems.{IsSentOf, low_if, narrow, sent_of}
use Rattle.h2_cmd_items.specs.declared.sent.Sent.{Sent}
use Rattle.h2_cmd_items.proofs.items.Taking.sent_with.Goals as goal

pub returns : goal.returns
returns c =
    let opens = c.args.self.now.opens in
    let before = c.args.self.now.low in
    let low : ℕ = low_if opens before (narrow c.args.item.now.number) in
    let number : c.low_if-low.result ≡ low = c.low_if-low.ensures ∙ ap (low_if opens before) c.narrow.ensures in
    let same : c.sent_of.result ≡ sent_of c.args.item.now low c.row_of-row.result c.is_left-left.result c.has_protocol.result =
    c.sent_of.ensures ∙ ap (λ (n : ℕ). sent_of c.args.item.now n c.row_of-row.result c.is_left-left.result c.has_protocol.result) number in
    subst (λ (s : Sent). IsSentOf c.args.item.now low s) (sym same) (c.row_of-row.ensures, refl)
