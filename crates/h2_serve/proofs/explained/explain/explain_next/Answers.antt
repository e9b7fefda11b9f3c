use Rattle.std.proofs.Common.{◌∙◌, ◌++◌, List, ℕ, ap, refl}
use Rattle.std.proofs.lemmas.Result.{err_from_is_err_and}
use Rattle.h2_spec.specs.Opening.{opening_octets}
use Rattle.h2_conn.specs.Connection.{Connection}
use Rattle.h2_serve.specs.Lines.{open_line}
use Rattle.h2_serve.specs.Passes.{grew-more}
use Rattle.h2_serve.specs.Ports.{start_of}
use Rattle.h2_serve.proofs.ServeLemmas.{handles-first, handles-none-but, handles-one}
use Rattle.h2_serve.proofs.ShownLemmas.{grew-next, grew-same, next-shown, prints-no-limits, prints-no-socket}
use Rattle.h2_serve.proofs.explained.explain.explain_next.Goals as goal

pub returns-in-Ok-shown-clause-shown : goal.returns-in-Ok-shown-clause-shown
returns-in-Ok-shown-clause-shown g c =
    let pending = c.in_ok-conn.ensures.sent ∙ ap (λ (xs : List ℕ). xs ++ opening_octets c.args.config) c.new-out.ensures in
    next-shown c.args.form (start_of c.args.book.now c.args.config) _ _ c.args.number (g.O.Output.written c.args.output.now) (g.O.Output.written c.print.new.output)
    (g.O.Output.written c.explain_over-shown.new.output) (g.O.Output.written c.print_end.new.output) _ (g.L.Listener.events c.accept.new.self) _ _ _ _ c.in-Ok-shown.shown c.print_end.result
    (ap (λ (d : Connection). d.state) c.in_ok-conn.ensures.opened) pending c.in-Ok.ensures.ok c.close.ensures
    c.in_ok-print.ensures.ok c.in-Ok-shown.ensures.drives c.in-Ok-shown.ensures.shows c.in-Ok-shown.ensures.lost c.print_end.ensures.ok c.print_end.ensures.conclusion

pub returns-in-Ok-shown-clause-wires : goal.returns-in-Ok-shown-clause-wires
returns-in-Ok-shown-clause-wires g c =
    let pending = c.in_ok-conn.ensures.sent ∙ ap (λ (xs : List ℕ). xs ++ opening_octets c.args.config) c.new-out.ensures in
    handles-first (start_of c.args.book.now c.args.config) c.in-Ok-shown.shown.end _ _
    (handles-one (start_of c.args.book.now c.args.config) _ _ c.in-Ok-shown.shown.end _ _ _ _ _ _
    (ap (λ (d : Connection). d.state) c.in_ok-conn.ensures.opened) pending c.in-Ok.ensures.ok c.close.ensures c.in-Ok-shown.ensures.drives)

pub returns-in-Err-shown-clause-wires : goal.returns-in-Err-shown-clause-wires
returns-in-Err-shown-clause-wires g c = handles-none-but (start_of c.args.book.now c.args.config) 1 _ _ _ c.in-Ok.ensures.ok

pub returns-in-Ok-shown-clause-fault : goal.returns-in-Ok-shown-clause-fault
returns-in-Ok-shown-clause-fault g c = λ allowed. prints-no-limits c.print_end.result (c.print_end.ensures.fault c.in-Ok-shown.ensures.fault)

pub returns-in-Ok-shown-clause-socket : goal.returns-in-Ok-shown-clause-socket
returns-in-Ok-shown-clause-socket g c = prints-no-socket c.print_end.result _ (c.print_end.ensures.fault c.in-Ok-shown.ensures.fault)

pub returns-in_err-print-clause-wires : goal.returns-in_err-print-clause-wires
returns-in_err-print-clause-wires g c = handles-none-but (start_of c.args.book.now c.args.config) 1 _ _ _ c.in-Ok.ensures.ok

pub returns-in_err-conn-clause-wires : goal.returns-in_err-conn-clause-wires
returns-in_err-conn-clause-wires g c = handles-none-but (start_of c.args.book.now c.args.config) 1 _ _ _ c.in-Ok.ensures.ok

pub returns-in-Ok-shown-clause-grew : goal.returns-in-Ok-shown-clause-grew
returns-in-Ok-shown-clause-grew g c =
    grew-next c.in-Ok-shown.shown.conclusion c.print_end.result (open_line c.args.number) (g.O.Output.written c.args.output.now) (g.O.Output.written c.print.new.output)
    (g.O.Output.written c.explain_over-shown.new.output) (g.O.Output.written c.print_end.new.output)
    c.in_ok-print.ensures.ok c.in-Ok-shown.ensures.grew c.print_end.ensures.grew

pub returns-in-Err-shown-clause-grew : goal.returns-in-Err-shown-clause-grew
returns-in-Err-shown-clause-grew g c = λ well.
    grew-more _ (g.O.Output.written c.print.new.output) _ (open_line c.args.number, c.in_ok-print.ensures.ok) (grew-same _ _ c.in-Err-shown.ensures.not_printed)

pub returns-in_err-conn-clause-grew : goal.returns-in_err-conn-clause-grew
returns-in_err-conn-clause-grew g c = λ well. (open_line c.args.number, c.in_ok-print.ensures.ok)

pub returns-in_err-print-clause-grew : goal.returns-in_err-print-clause-grew
returns-in_err-print-clause-grew g c =
    let p = err_from_is_err_and c.from_residual.result c.from_residual.ensures.1 in
    rw (p.1, p.2) c.in_err-print.ensures.grew

pub returns-in-Err-clause-grew : goal.returns-in-Err-clause-grew
returns-in-Err-clause-grew g c = λ well. grew-same _ _ refl
