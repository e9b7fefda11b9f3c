use Rattle.std.proofs.Common.{◌≡◌, ◌∙◌, ◌-◌, ◌<◌, ◌++◌, Bool, List, ℕ, ap, append_assoc, get_or, length, nat_eq, rules, sym}
use Rattle.h2_serve.specs.Numbered.{fresh_after, prefixed}
use Rattle.h2_serve.specs.Passes.{fresh-append, prefixed-append}
use Rattle.h2_serve.proofs.Prefixes.{fresh-last}
use Rattle.h2_serve.proofs.explained.numbered.put_text.Goals as goal

pub loop-rest-preserved : goal.loop-rest-preserved
loop-rest-preserved c =
    let p = c.args.prefix.now in
    let json = c.args.json in
    let fresh = c.loop-rest.fresh in
    let before = c.loop-rest.out.items in
    let line = c.first_line-line.result.now in
    let rest = c.octets_from-rest.result.now in
    let some : 0 < length line = search rules in
    let after : fresh_after fresh line ≡ nat_eq (get_or line (length line - 1) 0) 10 = fresh-last fresh line some in
    let split : c.loop-rest.rest.now ≡ line ++ rest = c.first_line-line.ensures.parts ∙ ap (λ (xs : List ℕ). line ++ xs) (sym c.octets_from-rest.ensures) in
    record {
      text = ap (λ (f : Bool). c.put_line.new.out.items ++ prefixed p json f rest) (sym after)
          ∙ ap (λ (xs : List ℕ). xs ++ prefixed p json (fresh_after fresh line) rest) c.in_ok-put_line.ensures
          ∙ append_assoc before (prefixed p json fresh line) (prefixed p json (fresh_after fresh line) rest)
          ∙ ap (λ (xs : List ℕ). before ++ xs) (sym (prefixed-append p json fresh line rest))
          ∙ ap (λ (xs : List ℕ). before ++ prefixed p json fresh xs) (sym split)
          ∙ c.loop-rest.invariant.text;
      fresh = ap (λ (f : Bool). fresh_after f rest) (sym after)
          ∙ sym (fresh-append fresh line rest)
          ∙ ap (λ (xs : List ℕ). fresh_after fresh xs) (sym split)
          ∙ c.loop-rest.invariant.fresh;
    }
