use Rattle.std.proofs.Common.{◌≡◌, ◌∙◌, ◌+◌, ℕ, List, drop, length, map, refl, sym, ap, subst}
use Rattle.std.proofs.lemmas.List.{length-map}
use Rattle.std.specs.String.{string_bytes}
use Rattle.h2_conn.specs.declared.report.TakenItem.{TakenItem}
use Rattle.h2_explain_step.specs.Explained.{IsItemOf}
use Rattle.h2_cmd_check.proofs.texts.take_text.Goals as goal

pub returns-clause-takes : goal.returns-clause-takes
returns-clause-takes c =
    let b = c.args.octets.now in
    let x = c.item-item.result in
    let number : c.len.result + 1 ≡ length (map string_bytes c.args.texts.now.items) + 1 = ap (λ (n : ℕ). n + 1) (c.len.ensures ∙ c.args.texts.now.ok.0 ∙ sym (length-map c.args.texts.now.items string_bytes)) in
    let out : List ℕ = drop (length c.clear.new.self.items) c.take_item.new.out.items in
    let sent : c.as_slice.result.now ≡ out = c.as_slice.ensures.value ∙ rw c.clear.ensures.items refl in
    let observed = rw c.in-Some.is at c.in_ok-observed.ensures.item in
    let made = subst (λ (t : List ℕ). IsItemOf c.in-Some.observed (c.len.result + 1) c.args.offset b t x) sent c.item-item.ensures in
    record {
      item = x;
      explains = observed (length (map string_bytes c.args.texts.now.items) + 1) c.args.offset x (subst (λ (n : ℕ). IsItemOf c.in-Some.observed n c.args.offset b out x) number made);
      used_is = sym (ap (λ (k : TakenItem). k.used) c.item-item.ensures.taken_is);
      text = string_bytes c.in_ok-text.text;
      said = c.in_ok-text.ensures;
      texts_are = c.in_ok-add_text.ensures;
    }
