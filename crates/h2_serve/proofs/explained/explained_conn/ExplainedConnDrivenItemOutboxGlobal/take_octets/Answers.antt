use Rattle.std.proofs.Common.{Bool, List, ℕ, ap, arith, length, refl, rules}
use Rattle.h2_serve.specs.Numbered.{PrintsPrefixed, gathered_text}
use Rattle.h2_serve.specs.Passes.{grows-none, prints-none}
use Rattle.h2_serve.proofs.Watching.{cut-before, cut-gathered, goes-said, halts-early, watched-more}
use Rattle.h2_serve.proofs.explained.explained_conn.ExplainedConnDrivenItemOutboxGlobal.take_octets.Goals as goal

pub returns-then-came-ge-MOST-clause-no_memory : goal.returns-then-came-ge-MOST-clause-no_memory
returns-then-came-ge-MOST-clause-no_memory g c =
    let w = c.args.self.now in
    halts-early w.failed w.conn.state w.explanation.held.items c.args.piece.now c.args.out.now c.requires.going

pub returns-then-came-ge-MOST-clause-passes : goal.returns-then-came-ge-MOST-clause-passes
returns-then-came-ge-MOST-clause-passes g c = λ is.
    let w = c.args.self.now in
    let p = w.printer in
    let known = g.O.Output.written p.output.now in (
      refl {A = Bool},
      refl {A = List ℕ},
      refl {A = Bool},
      refl {A = ℕ},
      cut-before (λ (more : List ℕ). PrintsPrefixed p.prefix.items p.json p.fresh p.fault known more p.fresh p.fault known)
          w.conn w.conn w.explanation w.explanation c.args.piece.now (prints-none p.prefix.items p.json p.fresh p.fault known),
      grows-none p.fault known,
    )

pub returns-in-Ok-clause-ready : goal.returns-in-Ok-clause-ready
returns-in-Ok-clause-ready g c =
    let w = c.args.self.now in (
      watched-more w.failed w.conn c.feed-fed.new.conn w.explanation c.feed-fed.new.self w.came (length c.args.piece.now) _
          c.args.piece.now c.args.out.now c.feed-fed.new.out c.requires.going c.requires.ready.0 c.in-Ok.ensures.ready
          c.in-Ok.ensures.room (search rules) (omega (arith, c.if-came-ge-MOST.false)) c.in-Ok.ensures.fed,
      c.print_gathered.ensures.flag,
    )

pub returns-in-Ok-clause-passes : goal.returns-in-Ok-clause-passes
returns-in-Ok-clause-passes g c = λ is.
    let kept = c.print_gathered.ensures.kept in (
      is,
      ap (λ v. v.items) kept.0,
      kept.1,
      c.print_gathered.ensures.same_reference,
      goes-said _ _ _ _ _ _ _ _ _ c.in-Ok.ensures.form c.new-text.ensures.0
          (ap (λ f. gathered_text f c.feed-fed.new.output.octets.items) c.in-Ok.ensures.flag)
          c.in-Ok.ensures.goes c.in-Ok.ensures.gains c.print_gathered.ensures.text,
      c.print_gathered.ensures.grows,
    )

pub returns-clause-passes : goal.returns-clause-passes
returns-clause-passes g c = λ is.
    let kept = c.print_gathered.ensures.kept in (
      refl,
      ap (λ v. v.items) kept.0,
      kept.1,
      c.print_gathered.ensures.same_reference,
      cut-gathered _ _ c.feed-fed.new.conn _ c.feed-fed.new.self c.args.piece.now _ _ _ c.new-text.ensures.0 c.in-Err.ensures.cut c.print_gathered.ensures.text,
      c.print_gathered.ensures.grows,
    )
