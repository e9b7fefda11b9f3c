use Rattle.std.proofs.Common.{◌∙◌, List, ℕ, ap, sym, drop, length, arith}
use Rattle.h2_spec.specs.Frames.Frame.{head_of}
use Rattle.h2_frame.specs.Rest.{Rest}
use Rattle.h2_frame.proofs.CompletedLaws.{completed}
use Rattle.h2_frame.proofs.splitter.Splitter.data_completed_by.Goals as goal

pub returns-clause-completed : goal.returns-clause-completed
returns-clause-completed g c =
    let r = c.args.self.now in
    let d = c.self.inside in
    let same = c.octets_from-held.ensures ∙ ap (λ (b : List ℕ). drop d.offset b) c.as_slice.ensures.value ∙ ap (λ (x : Rest). x.octets) c.self.view_is in
    completed c.args.limit r c.args.more.now c.first_head-head.result (c.first_head-head.ensures ∙ ap head_of same) (sym (ap (λ (x : Rest). x.is_over) c.self.view_is) ∙ c.if-self.false) (sym (ap (λ (x : Rest). x.expects_preface) c.self.view_is) ∙ c.if-self-2.false)
    (omega (arith, c.if-held-lt9.false, ap length same)) c.if-head-limit.false (omega (arith, c.if-head-held.false, ap length same)) c.if-head-ne-DATA.false (sym c.has.ensures ∙ c.if-has.false)
