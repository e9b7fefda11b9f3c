use Rattle.std.proofs.Common.{Result, is_err, ◌∙◌, ◌≡◌, ◌<◌, ◌++◌, List, ℕ, [], arith, ap, inr, length, refl, sym, take}
use Rattle.std.proofs.lemmas.List.{append-nil, length-append, length-take-le}
use Rattle.h2_cmd_batch.specs.Input.{most}
use Rattle.h2_io.specs.declared.output.DeviceFault.{DeviceFault}
use Rattle.h2_cmd_batch.proofs.Inputs.{read-long, read-more, read-whole}
use Rattle.h2_cmd_batch.proofs.input.read_all.Goals as goal

pub returns-then-count-eq0-clause-ok : goal.returns-then-count-eq0-clause-ok
returns-then-count-eq0-clause-ok g c = λ known is.
    let octets : List ℕ = c.loop-count.octets.items in
    let last : List ℕ = take c.in-Ok.count c.read.new.buffer in
    let none : last ≡ [] = rw c.if-count-eq0.true refl in
    let more = read-more (g.I.Input.remaining c.args.input.now) (g.I.Input.remaining c.loop-count.input) (g.I.Input.remaining c.read.new.self) octets last c.loop-count.invariant.taken c.in-Ok.ensures.octets in
    sym (append-nil octets) ∙ ap (λ (t : List ℕ). octets ++ t) (sym none)
    ∙ read-whole (g.I.Input.remaining c.args.input.now) (g.I.Input.remaining c.read.new.self) (octets ++ last) known more (c.in-Ok.ensures.end c.if-count-eq0.true) is

pub returns-then-len-count-gt-MAX_INPUT-clause-err : goal.returns-then-len-count-gt-MAX_INPUT-clause-err
returns-then-len-count-gt-MAX_INPUT-clause-err g c =
    let octets : List ℕ = c.loop-count.octets.items in
    let next : List ℕ = take c.in-Ok.count c.read.new.buffer in
    let more = read-more (g.I.Input.remaining c.args.input.now) (g.I.Input.remaining c.loop-count.input) (g.I.Input.remaining c.read.new.self) octets next c.loop-count.invariant.taken c.in-Ok.ensures.octets in
    let long : most < length (octets ++ next) = omega (arith, length-append octets next, length-take-le c.in-Ok.count c.read.new.buffer c.in-Ok.ensures.bound, c.if-len-count-gt-MAX_INPUT.true, c.len.ensures) in
    inr (
      refl,
      inr (
        c.read.ensures.flag ∙ ap (λ (r : Result ℕ DeviceFault). is_err r) c.in-Ok.is,
        λ known is.
            read-long (g.I.Input.remaining c.args.input.now) (g.I.Input.remaining c.read.new.self) (octets ++ next) known more long is,
      ),
    )

pub loop-count-preserved : goal.loop-count-preserved
loop-count-preserved g c =
    let octets : List ℕ = c.loop-count.octets.items in
    let next : List ℕ = take c.in-Ok.count c.read.new.buffer in
    let items : c.extend_from_slice.new.self.items ≡ octets ++ next = c.in-Ok-extend_from_slice.ensures.items in
    record {
      within = omega (arith, ap length items, length-append octets next, length-take-le c.in-Ok.count c.read.new.buffer c.in-Ok.ensures.bound, c.if-len-count-gt-MAX_INPUT.false, c.len.ensures);
      taken = rw items (read-more (g.I.Input.remaining c.args.input.now) (g.I.Input.remaining c.loop-count.input) (g.I.Input.remaining c.read.new.self) octets next c.loop-count.invariant.taken c.in-Ok.ensures.octets);
      name = c.read.ensures.name ∙ c.loop-count.invariant.name;
    }
