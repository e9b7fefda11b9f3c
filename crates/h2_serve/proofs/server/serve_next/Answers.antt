use Rattle.std.proofs.Common.{◌∙◌, ◌++◌, List, ℕ, ap, refl}
use Rattle.h2_spec.specs.Opening.{opening_octets}
use Rattle.h2_serve.specs.Ports.{start_of, turns_allowed}
use Rattle.h2_serve.proofs.ServeLemmas.{accepts, driven-from, handles-first, handles-one}
use Rattle.h2_serve.proofs.server.serve_next.Goals as goal

pub returns-clause-lines : goal.returns-clause-lines
returns-clause-lines g c =
    let pending = c.in_ok-conn.ensures.sent ∙ ap (λ (xs : List ℕ). xs ++ opening_octets c.args.config) c.new-out.ensures in
    let driven = driven-from turns_allowed _ _ c.drive-end.new.conn _ _ _ _ c.drive-end.result c.in_ok-conn.ensures.opened c.drive-end.ensures.drives c.drive-end.ensures.ends c.drive-end.ensures.flag in
    accepts (start_of c.args.book.now c.args.config) c.args.number _ _ _ _ c.drive-end.result c.print.result
    (handles-one (start_of c.args.book.now c.args.config) _ _ c.drive-end.result _ _ _ _ _ _ refl pending c.in-Ok.ensures.ok c.close.ensures driven)
    c.print.ensures.ok c.print.ensures.err

pub returns-clause-wires : goal.returns-clause-wires
returns-clause-wires g c =
    let pending = c.in_ok-conn.ensures.sent ∙ ap (λ (xs : List ℕ). xs ++ opening_octets c.args.config) c.new-out.ensures in
    let driven = driven-from turns_allowed _ _ c.drive-end.new.conn _ _ _ _ c.drive-end.result c.in_ok-conn.ensures.opened c.drive-end.ensures.drives c.drive-end.ensures.ends c.drive-end.ensures.flag in
    handles-first (start_of c.args.book.now c.args.config) c.drive-end.result _ _
    (handles-one (start_of c.args.book.now c.args.config) _ _ c.drive-end.result _ _ _ _ _ _ refl pending c.in-Ok.ensures.ok c.close.ensures driven)
