use Rattle.std.proofs.Common.{◌≡◌, ◌∙◌, Bool, true, false, not, refl, subst, sym, true≢false}
use Rattle.h2_conn_send.specs.Sending.{NoneSends}
use Rattle.h2_conn_send.proofs.AloneLaws.{none-ready, none-spent}
use Rattle.h2_conn_send.proofs.send_pending.none_sends.Goals as goal

not-true : (t : Bool) → not t ≡ true → t ≡ false
not-true false h = refl
not-true true h = absurd (true≢false (sym h))

pub returns-then-window-eq0 : goal.returns-then-window-eq0
returns-then-window-eq0 g c =
    let ss = c.args.streams.now.streams in
    λ t. subst (λ w. NoneSends w ss) (sym c.if-window-eq0.true) (none-spent ss)

pub returns-else-window-eq0 : goal.returns-else-window-eq0
returns-else-window-eq0 g c = λ t. none-ready c.args.window c.args.streams.now.streams (not-true _ (sym c.none_ready.ensures ∙ t))
