use Rattle.std.proofs.Common.{◌≡◌, ℕ, List, [], length, false}
use Rattle.h2_serve.specs.Drives.{AreNonempty, HasNoItem, HasRead, drive_state, Exchanges}
use Rattle.h2_serve.proofs.driving.driver.drive_with.Given as goal

abbrev pub invariant-loop-turn : goal.invariant-loop-turn
invariant-loop-turn g l = record {
  lengths : List ℕ;
  exchanges : Exchanges false
      (drive_state (g.S.Wire.octets_read l.fn.wire) (g.S.Wire.octets_written l.fn.wire)
      (g.S.Wire.read_lengths l.fn.wire)
      (g.O.Pending.pending l.fn.out) (g.D.Driven.connection l.fn.driven))
      (drive_state (g.S.Wire.octets_read l.wire) (g.S.Wire.octets_written l.wire) (g.S.Wire.read_lengths l.wire)
      (g.O.Pending.pending l.out) (g.D.Driven.connection l.driven))
      lengths;
  count : length lengths ≡ l._turn;
  nonempty : AreNonempty lengths;
  no_item : HasNoItem (g.D.Driven.connection l.driven);
  going : (g.D.Driven.connection l.fn.driven).failed ≡ false;
  kept : (g.D.Driven.connection l.driven).failed ≡ false;
  ready : g.D.Driven.is_ready l.driven;
  passes : HasRead (λ octets. g.D.Driven.passes false l.fn.driven octets l.driven) (g.S.Wire.octets_read l.fn.wire) (g.S.Wire.octets_read l.wire);
  flag : g.S.Wire.has_failed l.wire ≡ false;
  empty : g.O.Pending.pending l.out ≡ [];
}
