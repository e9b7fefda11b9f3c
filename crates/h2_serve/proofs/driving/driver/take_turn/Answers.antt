use Rattle.std.proofs.Common.{◌≡◌, ◌∷◌, ◌∙◌, ℕ, [], ap, arith, refl, rules, sym, take}
use Rattle.h2_serve.specs.Wires.{grown}
use Rattle.h2_serve.proofs.Exchanges.{exchanges-write, has_read-none}
use Rattle.h2_serve.proofs.Growing.{grown-nil, writes-same}
use Rattle.h2_serve.proofs.driving.driver.take_turn.Goals as goal

pub returns-in-Err-clause-turn : goal.returns-in-Err-clause-turn
returns-in-Err-clause-turn g c =
    let e = c.in-Err.ensures in
    record {
      lengths = [];
      exchanges = exchanges-write c.requires.no_item e.err.0 e.err.1 (writes-same _ _ (g.O.Pending.pending c.args.out.now) e.written);
      reads = (omega arith, tt);
    }

pub returns-then-count-eq0-clause-turn : goal.returns-then-count-eq0-clause-turn
returns-then-count-eq0-clause-turn g c =
    let e = c.in-Ok.ensures in
    let zero : c.in-Ok.count ≡ 0 = c.if-count-eq0.true in
    let before = g.S.Wire.octets_read c.args.wire.now in
    let lengths = g.S.Wire.read_lengths c.args.wire.now in
    let x = exchanges-write {read = before} {lengths = lengths} c.requires.no_item refl refl (writes-same _ _ (g.O.Pending.pending c.args.out.now) e.written) in
    record {
      lengths = 0 ∷ [];
      exchanges = record {
        read = x.read;
        written = x.written;
        read_is = e.octets ∙ ap (λ (n : ℕ). grown before (take n c.read.new.buffer)) zero ∙ grown-nil before ∙ x.read_is;
        written_is = x.written_is;
        lengths_is = e.lengths ∙ ap (λ (n : ℕ). grown lengths (n ∷ [])) zero;
        feeds = x.feeds;
      };
      reads = refl;
    }

pub returns-in-Ok-write_all-clause-turn : goal.returns-in-Ok-write_all-clause-turn
returns-in-Ok-write_all-clause-turn g c =
    let w = c.in-Ok-write_all.ensures.written in
    let piece = c.octets_up_to.result.now in
    record {
      lengths = c.in-Ok.count ∷ [];
      exchanges = record {
        read = piece;
        written = w.octets;
        read_is = c.in-Ok-write_all.ensures.read.0 ∙ c.in-Ok.ensures.octets ∙ ap (λ xs. grown (g.S.Wire.octets_read c.args.wire.now) xs) (sym c.octets_up_to.ensures);
        written_is = w.known_is ∙ ap (λ known. grown known w.octets) c.in-Ok.ensures.written;
        lengths_is = c.in-Ok-write_all.ensures.read.1 ∙ c.in-Ok.ensures.lengths;
        feeds = rw w.whole c.in-Ok-take_read.ensures.ok;
      };
      reads = refl;
    }

pub returns-in-Ok-write_all-clause-passes : goal.returns-in-Ok-write_all-clause-passes
returns-in-Ok-write_all-clause-passes g c = (
  c.octets_up_to.result.now,
  c.in-Ok-write_all.ensures.read.0 ∙ c.in-Ok.ensures.octets ∙ ap (λ xs. grown (g.S.Wire.octets_read c.args.wire.now) xs) (sym c.octets_up_to.ensures),
  c.in-Ok-take_read.ensures.passes,
)

pub returns-in-Err-write_all-clause-turn : goal.returns-in-Err-write_all-clause-turn
returns-in-Err-write_all-clause-turn g c =
    let w = c.in-Err-write_all.ensures.written in
    let piece = c.octets_up_to.result.now in
    record {
      lengths = c.in-Ok.count ∷ [];
      exchanges = record {
        read = piece;
        written = w.octets;
        read_is = c.in-Err-write_all.ensures.read.0 ∙ c.in-Ok.ensures.octets ∙ ap (λ xs. grown (g.S.Wire.octets_read c.args.wire.now) xs) (sym c.octets_up_to.ensures);
        written_is = w.known_is ∙ ap (λ known. grown known w.octets) c.in-Ok.ensures.written;
        lengths_is = c.in-Err-write_all.ensures.read.1 ∙ c.in-Ok.ensures.lengths;
        feeds = rw w.whole c.in-Ok-take_read.ensures.ok;
      };
      reads = search rules;
    }

pub returns-in-Err-write_all-clause-passes : goal.returns-in-Err-write_all-clause-passes
returns-in-Err-write_all-clause-passes g c = (
  c.octets_up_to.result.now,
  c.in-Err-write_all.ensures.read.0 ∙ c.in-Ok.ensures.octets ∙ ap (λ xs. grown (g.S.Wire.octets_read c.args.wire.now) xs) (sym c.octets_up_to.ensures),
  c.in-Ok-take_read.ensures.passes,
)

pub returns-in-Err-take_read-clause-passes : goal.returns-in-Err-take_read-clause-passes
returns-in-Err-take_read-clause-passes g c = (
  c.octets_up_to.result.now,
  c.in-Ok.ensures.octets ∙ ap (λ xs. grown (g.S.Wire.octets_read c.args.wire.now) xs) (sym c.octets_up_to.ensures),
  c.in-Err-take_read.ensures.passes,
)

pub returns-in-Err-clause-passes : goal.returns-in-Err-clause-passes
returns-in-Err-clause-passes g c = has_read-none _ _ _ c.in-Err.ensures.err.0 (g.met.D.Driven.passes_none c.args.driven.now)
