use Rattle.std.proofs.Common.{◌≡◌, ◌∙◌, ◌<◌, ◌≤◌, ℕ, List, Some, None, drop, length, sym, ap, arith, subst, length-drop}
use Rattle.h2_spec.specs.Texts.Assemble.{unescaped}
use Rattle.h2_script.specs.Characters.{character_at}
use Rattle.h2_script.proofs.Strings.{Follows, drop-twice, follows_end, follows_next, follows_none}
use Rattle.h2_script.proofs.words.unescaped.Goals as goal

pub returns-in_default : goal.returns-in_default
returns-in_default g c =
    let text = drop c.loop-at.at c.args.text.now in
    let size = length-drop c.loop-at.at c.args.text.now in
    let some : 0 < length text = omega (arith, c.loop-at-test.true, size) in
    let none : None ≡ character_at text = c.in_default.ensures.octet ∙ ap character_at c.octets_from.ensures in
    follows_none c.loop-at.octets.items text (unescaped c.args.text.now) some none c.loop-at.invariant.so_far

pub loop-at-preserved : goal.loop-at-preserved
loop-at-preserved g c =
    let text = drop c.loop-at.at c.args.text.now in
    let size = length-drop c.loop-at.at c.args.text.now in
    let read : Some (c.in-Some.octet, c.in-Some.used) ≡ character_at text = c.in-Some.ensures.octet ∙ ap character_at c.octets_from.ensures in
    let next = follows_next c.loop-at.octets.items c.push.new.self.items text c.in-Some.octet c.in-Some.used (unescaped c.args.text.now) read c.in_ok-push.ensures.items c.loop-at.invariant.so_far in
    let within : c.in-Some.used ≤ length text = subst (λ (t : List ℕ). c.in-Some.used ≤ length t) c.octets_from.ensures c.in-Some.ensures.within.1 in
    record {
      so_far = subst (λ (t : List ℕ). Follows c.push.new.self.items t (unescaped c.args.text.now)) (sym (drop-twice c.loop-at.at c.in-Some.used c.args.text.now)) next;
      within = omega (arith, within, size, c.loop-at-test.true);
    }

pub returns : goal.returns
returns g c = follows_end c.loop-at.octets.items c.args.text.now c.loop-at.at (unescaped c.args.text.now) c.loop-at-test.false c.loop-at.invariant.so_far
