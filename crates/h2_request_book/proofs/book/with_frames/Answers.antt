use Rattle.std.proofs.Common.{◌≡◌, ◌∙◌, List, drop, sym, ap, subst}
use Rattle.h2_spec.specs.Requests.Answer.{Answer, Entry}
use Rattle.h2_request_book.specs.Lent.{AreFramesOf}
use Rattle.h2_request_book.proofs.LentLaws.{frames-again}
use Rattle.h2_request_book.proofs.book.with_frames.Goals as goal

pub invariant_of-result : goal.invariant_of-result
invariant_of-result g c =
    let e = c.entry.inside in
    let answer = frames-again c.args.entry.answer e.status e.fields e.body c.args.headers.items c.args.body_frame.items e.early c.requires (ap (λ (x : Entry). x.answer) c.entry.view_is) in
    subst (λ (a : Answer). AreFramesOf a c.args.headers.items c.args.body_frame.items) (sym answer) c.requires

pub returns : goal.returns
returns g c =
    let e = c.entry.inside in
    let answer = frames-again c.args.entry.answer e.status e.fields e.body c.args.headers.items c.args.body_frame.items e.early c.requires (ap (λ (x : Entry). x.answer) c.entry.view_is) in
    ap (λ (a : Answer). let x : Entry = record { method = e.method; path = e.path; answer = a } in x) (answer ∙ sym (ap (λ (x : Entry). x.answer) c.entry.view_is)) ∙ c.entry.view_is
