use Rattle.std.proofs.Common.{◌≡◌, ◌∙◌, ◌+◌, ℕ, List, drop, length, refl, ap, subst, sym}
use Rattle.h2_conn.specs.declared.report.TakenItem.{TakenItem}
use Rattle.h2_explain_step.specs.Explained.{IsItemOf}
use Rattle.h2_cmd_items.proofs.items.Taking.take.Goals as goal

pub returns-clause-takes : goal.returns-clause-takes
returns-clause-takes c =
    let b = c.args.octets.now in
    let x = c.item-item.result in
    let number : c.len.result + 1 ≡ length c.args.self.now.sent.items + 1 = ap (λ (n : ℕ). n + 1) (c.len.ensures ∙ c.args.self.now.sent.ok.0) in
    let out : List ℕ = drop (length c.new-out.result.items) c.take_item.new.out.items in
    let sent : c.as_slice-answers.result.now ≡ out = c.as_slice-answers.ensures.value ∙ rw c.new-out.ensures.items refl in
    let observed = rw c.in-Some.is at c.in_ok-observed.ensures.item in
    let made = subst (λ (t : List ℕ). IsItemOf c.in-Some.observed (c.len.result + 1) c.args.offset b t x) sent c.item-item.ensures in
    record {
      item = x;
      explains = observed (length c.args.self.now.sent.items + 1) c.args.offset x (subst (λ (n : ℕ). IsItemOf c.in-Some.observed n c.args.offset b out x) number made);
      used_is = sym (ap (λ (k : TakenItem). k.used) c.item-item.ensures.taken_is);
      sent = c.sent_with-sent.result;
      is_sent = c.sent_with-sent.ensures;
      adds = rw c.item-item.ensures.sent_is c.in_ok-add.ensures;
    }
