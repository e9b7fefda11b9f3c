use Rattle.std.proofs.Common.{◌≡◌, ◌+◌, ◌-◌, ◌≤◌, ◌∙◌, ◌++◌, ℕ, List, length, drop, ap, arith, length-append, length-drop}
use Rattle.h2_frame.proofs.Portions.{drop-first, drop-second}
use Rattle.h2_frame.proofs.outbox.Outbox.remove_front.Goals as goal

-- how many octets are left where some of those that are together stay
after-some : (gone n len : ℕ) (xs ys : List ℕ) → gone + n ≤ length xs → len ≡ length (drop gone xs ++ ys) → len - n ≡ length (drop (gone + n) xs ++ ys)
after-some gone n len xs ys fits e = omega (arith, e, ap length (drop-first gone n xs ys fits), length-drop n (drop gone xs ++ ys))

pub returns-then-count-held : goal.returns-then-count-held
returns-then-count-held g c =
    let r = c.self.inside in
    let fits : r.gone + c.args.count ≤ length r.portion.items = omega (arith, c.if-count-held.true) in
    drop-first r.gone c.args.count r.portion.items r.rest fits ∙ ap (drop c.args.count) c.self.view_is

pub invariant_of-self : goal.invariant_of-self
invariant_of-self g c =
    let r = c.self.inside in
    let fits : r.gone + c.args.count ≤ length r.portion.items = omega (arith, c.if-count-held.true) in
    (fits, after-some r.gone c.args.count r.len r.portion.items r.rest fits c.self.invariant.1)

pub returns : goal.returns
returns g c =
    let r = c.self.inside in
    let n = c.args.count in
    let front = drop r.gone r.portion.items in
    let held : c.len.result - r.gone ≡ length front = omega (arith, length-drop r.gone r.portion.items) in
    ap (λ (zs : List ℕ). zs ++ c.remove_front.new.self) c.clear.ensures.items ∙ c.remove_front.ensures ∙ ap (λ (k : ℕ). drop (n - k) r.rest) held
    ∙ drop-second n front r.rest (omega (arith, held, c.if-count-held.false)) ∙ ap (drop n) c.self.view_is

pub remove_front-requires : goal.remove_front-requires
remove_front-requires g c =
    let r = c.self.inside in
    let front = drop r.gone r.portion.items in
    let held : c.len.result - r.gone ≡ length front = omega (arith, length-drop r.gone r.portion.items) in
    omega (arith, c.requires, ap length c.self.view_is, length-append front r.rest, held)
