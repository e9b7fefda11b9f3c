use Rattle.std.proofs.Common.{◌≡◌, ◌≤◌, ◌++◌, ℕ, List, Bool, true, false, if◌then◌else◌, length, take, drop, refl, ap, sym, subst, ◌∙◌, arith, length-append, length-drop}
use Rattle.std.proofs.Math.Seq.{take-append_seam, take-length}
use Rattle.h2_spec.specs.Hpack.Block.{Decoded, Unfinished, decoded, progress_with}
use Rattle.h2_spec.specs.Hpack.Instruction.{instr_at}
use Rattle.h2_hpack_instruction.specs.Resume.{IsPoint, IsRest}
use Rattle.h2_table.specs.Edits.{edited}
use Rattle.h2_fields.specs.Applied.{IsStopped, progress_in}
use Rattle.h2_fields.specs.Rests.{IsCounted, RestChange}
use Rattle.h2_hpack_instruction.proofs.Resting.{point-stays}
use Rattle.h2_fields.proofs.Counting.{ticked}
use Rattle.h2_fields.proofs.Stopping.{grows-start, memory-stopped}
use Rattle.h2_fields.proofs.fragment.decode_behind.Goals as goal

-- the octets that were left are still at the front
front : (len : ℕ) (old more now : List ℕ) → len ≡ length old → now ≡ old ++ more → take len now ≡ old
front len old more now n e = ap (λ k. take k now) n ∙ ap (take (length old)) e ∙ take-append_seam old more

front-same : (len : ℕ) (old now : List ℕ) → len ≡ length old → now ≡ old → take len now ≡ old
front-same len old now n e = ap (λ k. take k now) n ∙ ap (take (length old)) e ∙ take-length old

-- once more octets were put after them, or none were
put : (b : Bool) (old more now : List ℕ) → now ≡ (if b then old ++ more else old) → b ≡ true → now ≡ old ++ more
put b old more now e t = e ∙ ap (λ b. if b then old ++ more else old) t

not_put : (b : Bool) (old more now : List ℕ) → now ≡ (if b then old ++ more else old) → b ≡ false → now ≡ old
not_put b old more now e f = e ∙ ap (λ b. if b then old ++ more else old) f

pub invariant_of-rest : goal.invariant_of-rest
invariant_of-rest g c =
    let r = c.rest.inside in
    let old = r.octets.items in
    let now = c.extend_from_slice.new.self.items in
    let left : c.args.rest.now.before ≡ old = c.requires.fresh ∙ sym (ap (λ (r : RestChange). r.all) c.rest.view_is) in
    let whole = ap (λ (r : RestChange). r.before) c.rest.view_is ∙ left in
    let same = not_put _ old c.args.piece.now now c.extend_from_slice.ensures.items c.if-is_err.ensures.negation in (
      subst (λ b. IsRest b r.point) (sym (front-same c.len-rest-inside.result old now (c.len-rest-inside.ensures ∙ c.rest.inside.octets.ok.0) same)) (subst (λ b. IsRest b r.point) whole c.rest.invariant.0),
      subst (λ b. IsRest (drop r.used b) r.next) (sym same) c.rest.invariant.1,
      subst (λ b. r.used ≤ length b) (sym same) c.rest.invariant.2,
    )

pub returns-then-is_err-clause-before : goal.returns-then-is_err-clause-before
returns-then-is_err-clause-before g c =
    let old = c.rest.inside.octets.items in
    let now = c.extend_from_slice.new.self.items in
    let left : c.args.rest.now.before ≡ old = c.requires.fresh ∙ sym (ap (λ (r : RestChange). r.all) c.rest.view_is) in
    front-same c.len-rest-inside.result old now (c.len-rest-inside.ensures ∙ c.rest.inside.octets.ok.0) (not_put _ old c.args.piece.now now c.extend_from_slice.ensures.items c.if-is_err.ensures.negation) ∙ sym left

pub returns-then-is_err-clause-fault : goal.returns-then-is_err-clause-fault
returns-then-is_err-clause-fault g c = memory-stopped _ _ _ _

pub returns-then-is_err-clause-grows : goal.returns-then-is_err-clause-grows
returns-then-is_err-clause-grows g c = grows-start c.args.collected.now

pub decode-requires-clause-point : goal.decode-requires-clause-point
decode-requires-clause-point g c =
    let old = c.rest.inside.octets.items in
    let piece = c.args.piece.now in
    let point = c.rest.inside.point in
    let left : c.args.rest.now.before ≡ old = c.requires.fresh ∙ sym (ap (λ (r : RestChange). r.all) c.rest.view_is) in
    let whole = ap (λ (r : RestChange). r.before) c.rest.view_is ∙ left in
    let is : IsRest old point = subst (λ (b : List ℕ). IsRest b point) whole c.rest.invariant.0 in
    let all = c.as_slice-all.ensures.value ∙ put _ old piece c.extend_from_slice.new.self.items c.extend_from_slice.ensures.items c.if-is_err.ensures.negation in
    subst (λ (b : List ℕ). IsPoint b point) (sym all) (point-stays old piece point is.point)

pub decode-requires-clause-passed : goal.decode-requires-clause-passed
decode-requires-clause-passed g c =
    let old = c.rest.inside.octets.items in
    let piece = c.args.piece.now in
    let point = c.rest.inside.point in
    let left : c.args.rest.now.before ≡ old = c.requires.fresh ∙ sym (ap (λ (r : RestChange). r.all) c.rest.view_is) in
    let whole = ap (λ (r : RestChange). r.before) c.rest.view_is ∙ left in
    let is : IsRest old point = subst (λ (b : List ℕ). IsRest b point) whole c.rest.invariant.0 in
    let all = c.as_slice-all.ensures.value ∙ put _ old piece c.extend_from_slice.new.self.items c.extend_from_slice.ensures.items c.if-is_err.ensures.negation in
    omega (arith, is.passed, ap length all, length-append old piece)

pub invariant_of-rest-in-Ok : goal.invariant_of-rest-in-Ok
invariant_of-rest-in-Ok g c =
    let r = c.rest.inside in
    let old = r.octets.items in
    let now = c.extend_from_slice.new.self.items in
    let left : c.args.rest.now.before ≡ old = c.requires.fresh ∙ sym (ap (λ (r : RestChange). r.all) c.rest.view_is) in
    let whole = ap (λ (r : RestChange). r.before) c.rest.view_is ∙ left in
    let both = put _ old c.args.piece.now now c.extend_from_slice.ensures.items c.if-is_err.ensures.negation in (
      subst (λ b. IsRest b r.point) (sym (front c.len-rest-inside.result old c.args.piece.now now (c.len-rest-inside.ensures ∙ c.rest.inside.octets.ok.0) both)) (subst (λ b. IsRest b r.point) whole c.rest.invariant.0),
      subst (λ b. IsRest (drop c.in-Ok.used b) c.decode.new.next) c.as_slice-all.ensures.value c.in-Ok.ensures.rest,
      subst (λ b. c.in-Ok.used ≤ length b) c.as_slice-all.ensures.value c.in-Ok.ensures.used.0,
    )

pub invariant_of-rest-in-Err : goal.invariant_of-rest-in-Err
invariant_of-rest-in-Err g c =
    let r = c.rest.inside in
    let old = r.octets.items in
    let now = c.extend_from_slice.new.self.items in
    let cut = c.truncate.new.self.items in
    let left : c.args.rest.now.before ≡ old = c.requires.fresh ∙ sym (ap (λ (r : RestChange). r.all) c.rest.view_is) in
    let whole = ap (λ (r : RestChange). r.before) c.rest.view_is ∙ left in
    let both = put _ old c.args.piece.now now c.extend_from_slice.ensures.items c.if-is_err.ensures.negation in
    let same = c.truncate.ensures.items ∙ front c.len-rest-inside.result old c.args.piece.now now (c.len-rest-inside.ensures ∙ c.rest.inside.octets.ok.0) both in (
      subst (λ b. IsRest b r.point) (sym (front-same c.len-rest-inside.result old cut (c.len-rest-inside.ensures ∙ c.rest.inside.octets.ok.0) same)) (subst (λ b. IsRest b r.point) whole c.rest.invariant.0),
      subst (λ b. IsRest (drop r.used b) c.decode.new.next) (sym same) (subst (IsRest (drop r.used old)) (sym c.in-Err.ensures.stays) c.rest.invariant.1),
      subst (λ b. r.used ≤ length b) (sym same) c.rest.invariant.2,
    )

pub returns-in-Ok-clause-before : goal.returns-in-Ok-clause-before
returns-in-Ok-clause-before g c =
    let old = c.rest.inside.octets.items in
    let now = c.extend_from_slice.new.self.items in
    let left : c.args.rest.now.before ≡ old = c.requires.fresh ∙ sym (ap (λ (r : RestChange). r.all) c.rest.view_is) in
    front c.len-rest-inside.result old c.args.piece.now now (c.len-rest-inside.ensures ∙ c.rest.inside.octets.ok.0) (put _ old c.args.piece.now now c.extend_from_slice.ensures.items c.if-is_err.ensures.negation) ∙ sym left

pub returns-in-Ok-clause-decoded : goal.returns-in-Ok-clause-decoded
returns-in-Ok-clause-decoded g c =
    let old = c.rest.inside.octets.items in
    let piece = c.args.piece.now in
    let now = c.extend_from_slice.new.self.items in
    let left : c.args.rest.now.before ≡ old = c.requires.fresh ∙ sym (ap (λ (r : RestChange). r.all) c.rest.view_is) in
    let all = c.as_slice-all.ensures.value ∙ put _ old piece now c.extend_from_slice.ensures.items c.if-is_err.ensures.negation ∙ ap (λ b. b ++ piece) (sym left) in
    let start = decoded c.args.table.now.limit (progress_in c.args.collected.now c.args.table.now c.args.edit.now) in
    let end = λ (b : List ℕ). let d : Decoded = record { progress = progress_with (edited c.args.table.now.table.entries c.decode.new.edit) c.decode.new.collected; outcome = Unfinished (drop c.in-Ok.used b) } in d in
    ap start (sym all) ∙ c.in-Ok.ensures.used.1 ∙ ap end c.as_slice-all.ensures.value

pub returns-in-Ok-clause-cut : goal.returns-in-Ok-clause-cut
returns-in-Ok-clause-cut g c = ap (λ b. instr_at (drop c.in-Ok.used b)) (sym c.as_slice-all.ensures.value) ∙ c.in-Ok.ensures.cut

pub returns-in-Ok-clause-ticks : goal.returns-in-Ok-clause-ticks
returns-in-Ok-clause-ticks g c =
    let old = c.rest.inside.octets.items in
    let before = c.args.rest.now.before in
    let piece = c.args.piece.now in
    let now = c.extend_from_slice.new.self.items in
    let point = c.rest.inside.point in
    let used = c.in-Ok.used in
    let left : before ≡ old = c.requires.fresh ∙ sym (ap (λ (r : RestChange). r.all) c.rest.view_is) in
    let is = subst (λ b. IsRest b point) (ap (λ (r : RestChange). r.before) c.rest.view_is) c.rest.invariant.0 in
    let all = c.as_slice-all.ensures.value ∙ put _ old piece now c.extend_from_slice.ensures.items c.if-is_err.ensures.negation ∙ ap (λ b. b ++ piece) (sym left) in
    let total = ap length all ∙ length-append before piece in
    ticked point.passed (length before) (length piece) used (length (drop used now)) c.decode.new.ticks (subst (λ n. IsCounted point.passed n used 0 c.decode.new.ticks) total c.in-Ok.ensures.ticks)
    is.passed is.again (omega (arith, ap length c.as_slice-all.ensures.value, length-drop used now, c.in-Ok.ensures.used.0, total))

pub returns-in-Ok-clause-grows : goal.returns-in-Ok-clause-grows
returns-in-Ok-clause-grows g c = c.decode.ensures.grows

pub returns-in-Err-clause-before : goal.returns-in-Err-clause-before
returns-in-Err-clause-before g c =
    let old = c.rest.inside.octets.items in
    let now = c.extend_from_slice.new.self.items in
    let left : c.args.rest.now.before ≡ old = c.requires.fresh ∙ sym (ap (λ (r : RestChange). r.all) c.rest.view_is) in
    let both = put _ old c.args.piece.now now c.extend_from_slice.ensures.items c.if-is_err.ensures.negation in
    let same = c.truncate.ensures.items ∙ front c.len-rest-inside.result old c.args.piece.now now (c.len-rest-inside.ensures ∙ c.rest.inside.octets.ok.0) both in
    front-same c.len-rest-inside.result old c.truncate.new.self.items (c.len-rest-inside.ensures ∙ c.rest.inside.octets.ok.0) same ∙ sym left

pub returns-in-Err-clause-fault : goal.returns-in-Err-clause-fault
returns-in-Err-clause-fault g c =
    let old = c.rest.inside.octets.items in
    let piece = c.args.piece.now in
    let left : c.args.rest.now.before ≡ old = c.requires.fresh ∙ sym (ap (λ (r : RestChange). r.all) c.rest.view_is) in
    let all = c.as_slice-all.ensures.value ∙ put _ old piece c.extend_from_slice.new.self.items c.extend_from_slice.ensures.items c.if-is_err.ensures.negation ∙ ap (λ b. b ++ piece) (sym left) in
    let now = progress_with (edited c.args.table.now.table.entries c.decode.new.edit) c.decode.new.collected in
    subst (λ b. IsStopped c.args.table.now.limit (progress_in c.args.collected.now c.args.table.now c.args.edit.now) b now c.in-Err.fault) all c.in-Err.ensures.fault

pub returns-in-Err-clause-grows : goal.returns-in-Err-clause-grows
returns-in-Err-clause-grows g c = c.decode.ensures.grows
