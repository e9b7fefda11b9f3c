use Rattle.std.proofs.Common.{◌∙◌, ◌++◌, List, ℕ, ap, append_assoc, refl}
use Rattle.h2_serve.proofs.Prefixes.{gained, prefixed-json, prefixed-new, prefixed-on}
use Rattle.h2_serve.proofs.explained.numbered.put_line.Goals as goal

pub returns-then-not-fresh : goal.returns-then-not-fresh
returns-then-not-fresh c =
    let text = prefixed-on c.args.prefix.now c.args.json c.args.line.now c.requires.line in
    rw (c.if-not-fresh.true, text)
    (gained c.extend_from_slice.result c.extend_from_slice.new.self.items (c.args.out.now.items ++ c.args.line.now) c.args.out.now.items _ c.extend_from_slice.ensures.items refl)

pub returns-then-json : goal.returns-then-json
returns-then-json c =
    let text = prefixed-json c.args.prefix.now c.args.line.now c.requires.line c.requires.some in
    let rest = c.octets_from.result.now in
    rw (c.if-json.true, c.if-not-fresh.false, text)
    (gained c.extend_from_slice-then-json.result c.extend_from_slice-then-json.new.self.items (c.extend_from_slice-2.new.self.items ++ rest) c.extend_from_slice-2.new.self.items _ c.extend_from_slice-then-json.ensures.items
    (ap (λ (xs : List ℕ). xs ++ rest) c.in_ok-extend_from_slice.ensures.items
    ∙ append_assoc c.args.out.now.items c.args.prefix.now rest
    ∙ ap (λ (xs : List ℕ). c.args.out.now.items ++ (c.args.prefix.now ++ xs)) c.octets_from.ensures))

pub returns-else-json : goal.returns-else-json
returns-else-json c =
    let text = prefixed-new c.args.prefix.now c.args.line.now c.requires.line c.requires.some in
    rw (c.if-json.false, c.if-not-fresh.false, text)
    (gained c.extend_from_slice-else-json.result c.extend_from_slice-else-json.new.self.items (c.extend_from_slice-2.new.self.items ++ c.args.line.now) c.extend_from_slice-2.new.self.items _ c.extend_from_slice-else-json.ensures.items
    (ap (λ (xs : List ℕ). xs ++ c.args.line.now) c.in_ok-extend_from_slice.ensures.items
    ∙ append_assoc c.args.out.now.items c.args.prefix.now c.args.line.now))
