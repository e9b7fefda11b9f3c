use Rattle.std.proofs.Common.{◌≡◌, ◌≤◌, ◌++◌, ℕ, List, [], length, drop, ap, ◌∙◌, sym, subst, arith, length-drop}
use Rattle.h2_spec.specs.Hpack.Block.{Decoded, Unfinished, progress_with}
use Rattle.h2_spec.specs.Hpack.Instruction.{instr_at}
use Rattle.h2_hpack_instruction.specs.Resume.{IsRest}
use Rattle.h2_table.specs.Edits.{edited}
use Rattle.h2_fields.specs.Rests.{RestChange}
use Rattle.h2_fields.proofs.Counting.{ticked-alone}
use Rattle.h2_fields.proofs.Outcomes.{on_err, on_ok}
use Rattle.h2_fields.proofs.Stopping.{memory-stopped, none_dropped, none_taken}
use Rattle.h2_fields.proofs.fragment.decode_alone.Goals as goal

pub decode-requires-clause-point : goal.decode-requires-clause-point
decode-requires-clause-point g c = c.start.ensures.anywhere c.args.piece.now

pub invariant_of-rest-then-is_err : goal.invariant_of-rest-then-is_err
invariant_of-rest-then-is_err g c =
    let r = c.rest.inside in
    let none : r.octets.items ≡ [] = ap (λ (r : RestChange). r.all) c.rest.view_is ∙ c.requires.empty in
    let same = on_err c.append.result c.if-is_err.ensures.value c.append.ensures.err in
    let still : c.append.new.octets.items ≡ [] = same ∙ none in
    let at : IsRest [] r.point = subst (λ b. IsRest b r.point) (none_taken r.kept r.octets.items none) c.rest.invariant.0 in (
      subst (λ b. IsRest b r.point) (sym (none_taken r.kept c.append.new.octets.items still)) at,
      subst (λ b. IsRest b r.point) (sym (none_dropped r.used c.append.new.octets.items still)) at,
      subst (λ b. r.used ≤ length b) (sym same) c.rest.invariant.2,
    )

pub returns-then-is_err-clause-before : goal.returns-then-is_err-clause-before
returns-then-is_err-clause-before g c =
    let none = ap (λ (r : RestChange). r.all) c.rest.view_is ∙ c.requires.empty in
    none_taken c.rest.inside.kept c.append.new.octets.items (on_err c.append.result c.if-is_err.ensures.value c.append.ensures.err ∙ none)

pub returns-then-is_err-clause-fault : goal.returns-then-is_err-clause-fault
returns-then-is_err-clause-fault g c = memory-stopped _ _ _ _

pub returns-then-is_err-clause-grows : goal.returns-then-is_err-clause-grows
returns-then-is_err-clause-grows g c = c.decode.ensures.grows

pub invariant_of-rest-2 : goal.invariant_of-rest-2
invariant_of-rest-2 g c =
    let r = c.rest.inside in
    let none : r.octets.items ≡ [] = ap (λ (r : RestChange). r.all) c.rest.view_is ∙ c.requires.empty in
    let now = on_ok c.append.result c.if-is_err.ensures.value c.append.ensures.ok ∙ ap (λ b. b ++ c.octets_from.result.now) none ∙ c.octets_from.ensures in (
      subst (λ b. IsRest b r.point) (none_taken r.kept r.octets.items none) c.rest.invariant.0,
      subst (λ b. IsRest b c.decode.new.next) (sym now) c.in_ok-used.ensures.rest,
      omega arith,
    )

pub invariant_of-rest : goal.invariant_of-rest
invariant_of-rest g c =
    (c.rest.invariant.0, subst (IsRest (drop c.rest.inside.used c.rest.inside.octets.items)) (sym c.in_err-used.ensures.stays) c.rest.invariant.1, c.rest.invariant.2)

pub returns-clause-decoded : goal.returns-clause-decoded
returns-clause-decoded g c =
    let none = ap (λ (r : RestChange). r.all) c.rest.view_is ∙ c.requires.empty in
    let now = on_ok c.append.result c.if-is_err.ensures.value c.append.ensures.ok ∙ ap (λ b. b ++ c.octets_from.result.now) none ∙ c.octets_from.ensures in
    let end = λ (rest : List ℕ). let d : Decoded = record { progress = progress_with (edited c.args.table.now.table.entries c.decode.new.edit) c.decode.new.collected; outcome = Unfinished rest } in d in
    c.in_ok-used.ensures.used.1 ∙ ap end (sym now)

pub returns-clause-cut : goal.returns-clause-cut
returns-clause-cut g c =
    let none = ap (λ (r : RestChange). r.all) c.rest.view_is ∙ c.requires.empty in
    let now = on_ok c.append.result c.if-is_err.ensures.value c.append.ensures.ok ∙ ap (λ b. b ++ c.octets_from.result.now) none ∙ c.octets_from.ensures in
    ap instr_at now ∙ c.in_ok-used.ensures.cut

pub returns-clause-ticks : goal.returns-clause-ticks
returns-clause-ticks g c =
    let none = ap (λ (r : RestChange). r.all) c.rest.view_is ∙ c.requires.empty in
    let now = on_ok c.append.result c.if-is_err.ensures.value c.append.ensures.ok ∙ ap (λ b. b ++ c.octets_from.result.now) none ∙ c.octets_from.ensures in
    ticked-alone c.start.result.passed (length c.args.piece.now) c.in_ok-used.used (length c.append.new.octets.items) c.decode.new.ticks c.in_ok-used.ensures.ticks
    c.start.ensures.passed (omega (arith, ap length now, length-drop c.in_ok-used.used c.args.piece.now, c.in_ok-used.ensures.used.0))

pub returns-in_err-used-clause-before : goal.returns-in_err-used-clause-before
returns-in_err-used-clause-before g c =
    none_taken c.rest.inside.kept c.rest.inside.octets.items (ap (λ (r : RestChange). r.all) c.rest.view_is ∙ c.requires.empty)

pub returns-clause-grows : goal.returns-clause-grows
returns-clause-grows g c = c.decode.ensures.grows

pub returns-in_err-used-clause-grows : goal.returns-in_err-used-clause-grows
returns-in_err-used-clause-grows g c = c.decode.ensures.grows
