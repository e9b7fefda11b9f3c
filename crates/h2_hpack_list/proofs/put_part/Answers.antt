use Rattle.std.proofs.Common.{arith, ◌≡◌, ◌-◌, ℕ, ◌+◌, List, ◌++◌, length, take, drop, ap, ◌∙◌, sym}
use Rattle.std.proofs.lemmas.List.{length-append, take_all}
use Rattle.std.proofs.Math.Seq.{take-append_seam, drop-append_seam}
use Rattle.std.proofs.lemmas.Result.{IfOk-from_err}
use Rattle.std.proofs.lemmas.Slice.Eq.{bytes_eq-Decides}
use Rattle.h2_hpack_list.specs.Spans.{IsPart, between}
use Rattle.h2_hpack_list.proofs.put_part.Goals as goal

-- octets added at the end are a part of the list
added : (octets text now : List ℕ) (start end : ℕ) → now ≡ octets ++ text → start ≡ length octets → end ≡ start + length text → IsPart (record { start = start; end = end }) now text
added octets text now start end e a b =
    let long : length now ≡ length octets + length text = ap length e ∙ length-append octets text in
    record {
      ordered = omega (arith, b);
      within = omega (arith, long, a, b);
      is = ap (λ (o : List ℕ). between start end o) e
          ∙ ap (λ n. take (end - start) (drop n (octets ++ text))) a
          ∙ ap (take (end - start)) (drop-append_seam octets text)
          ∙ take_all (end - start) text (omega (arith, b));
    }

pub returns-then-end-gt-MAX_OCTETS-clause-kept : goal.returns-then-end-gt-MAX_OCTETS-clause-kept
returns-then-end-gt-MAX_OCTETS-clause-kept g c = take_all (length c.args.octets.now.items) c.args.octets.now.items (omega arith)

pub returns-then-eq-clause-ok : goal.returns-then-eq-clause-ok
returns-then-eq-clause-ok g c =
    let part = between c.args.earlier.start c.args.earlier.end in
    let is = (bytes_eq-Decides (part c.deref.result.now) c.args.text.now).0 (sym c.if-eq.ensures) in
    record { ordered = c.requires.ordered; within = c.requires.within; is = ap part (sym c.deref.ensures.value) ∙ is }

pub returns-then-eq-clause-short : goal.returns-then-eq-clause-short
returns-then-eq-clause-short g c = omega (arith, c.len-start.ensures, c.args.octets.now.ok.0, c.saturating_add-end.ensures, c.if-end-gt-MAX_OCTETS.false)

pub returns-then-eq-clause-kept : goal.returns-then-eq-clause-kept
returns-then-eq-clause-kept g c = take_all (length c.args.octets.now.items) c.args.octets.now.items (omega arith)

pub returns-in_err-extend_from_slice-clause-ok : goal.returns-in_err-extend_from_slice-clause-ok
returns-in_err-extend_from_slice-clause-ok g c = IfOk-from_err c.from_residual.result _ c.from_residual.ensures.0

pub returns-in_err-extend_from_slice-clause-short : goal.returns-in_err-extend_from_slice-clause-short
returns-in_err-extend_from_slice-clause-short g c = IfOk-from_err c.from_residual.result _ c.from_residual.ensures.0

pub returns-in_err-extend_from_slice-clause-kept : goal.returns-in_err-extend_from_slice-clause-kept
returns-in_err-extend_from_slice-clause-kept g c =
    let octets = c.args.octets.now.items in
    ap (take (length octets)) c.in_err-extend_from_slice.ensures.items ∙ take_all (length octets) octets (omega arith)

pub overflow_cast-result : goal.overflow_cast-result
overflow_cast-result g c = omega (arith, c.saturating_add-end.ensures, c.if-end-gt-MAX_OCTETS.false)

pub returns-clause-ok : goal.returns-clause-ok
returns-clause-ok g c =
    let octets = c.args.octets.now.items in
    added octets c.args.text.now c.extend_from_slice.new.self.items c.len-start.result c.saturating_add-end.result c.in_ok-extend_from_slice.ensures.items (c.len-start.ensures ∙ c.args.octets.now.ok.0) (omega (arith, c.saturating_add-end.ensures, c.if-end-gt-MAX_OCTETS.false))

pub returns-clause-short : goal.returns-clause-short
returns-clause-short g c =
    let octets = c.args.octets.now.items in
    omega (arith, ap length c.in_ok-extend_from_slice.ensures.items, length-append octets c.args.text.now, c.len-start.ensures, c.args.octets.now.ok.0, c.saturating_add-end.ensures, c.if-end-gt-MAX_OCTETS.false)

pub returns-clause-kept : goal.returns-clause-kept
returns-clause-kept g c =
    let octets = c.args.octets.now.items in
    ap (take (length octets)) c.in_ok-extend_from_slice.ensures.items ∙ take-append_seam octets c.args.text.now
