use Rattle.std.proofs.Common.{◌≡◌, ◌+◌, ◌-◌, ◌<◌, ◌∙◌, ◌++◌, ℕ, List, length, take, drop, ap, arith, length-drop}
use Rattle.h2_frame.proofs.Portions.{keep-first}
use Rattle.h2_frame.proofs.outbox.OutboxOutgoing.keep_first.Goals as goal

pub returns : goal.returns
returns g c =
    let r = c.self.inside in
    let xs = r.portion.items in
    let len = c.args.len in
    let held : c.len.result - r.gone ≡ length (drop r.gone xs) = omega (arith, length-drop r.gone xs) in
    let fewer : len < length (drop r.gone xs) = omega (arith, held, c.if-held-len.false) in
    let count : r.len - (c.len.result - r.gone) ≡ length (drop r.gone xs ++ r.rest) - length (drop r.gone xs) = omega (arith, held, c.self.invariant.1) in
    ap (λ (zs : List ℕ). drop r.gone zs ++ c.cut-2.new.self) c.truncate.ensures.items
    ∙ ap (λ (zs : List ℕ). drop r.gone (take (r.gone + len) xs) ++ zs) (c.cut-2.ensures ∙ ap (λ (n : ℕ). take (length r.rest - n) r.rest) count)
    ∙ keep-first r.gone len xs r.rest fewer
    ∙ ap (take len) c.self.view_is
