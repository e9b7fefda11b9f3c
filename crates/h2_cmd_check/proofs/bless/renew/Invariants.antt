use Rattle.std.proofs.Common.{◌≡◌, ◌++◌, [], false, drop, map}
use Rattle.h2_conn.specs.Connection.{going}
use Rattle.h2_cmd_check.specs.Blessed.{renewed}
use Rattle.h2_cmd_check.specs.Cases.{Start}
use Rattle.h2_cmd_check.specs.Walks.{IsWithin, Walks, place_of}
use Rattle.h2_cmd_check.proofs.bless.renew.Given as goal

abbrev pub invariant-loop-place : goal.invariant-loop-place
invariant-loop-place l = record {
  ready : l.conn ≡ going l.conn.state [];
  within : IsWithin l.walk;
  walks : (start : Start) → Walks start l.fn.walk l.fn.conn → Walks start l.walk l.conn;
  text : (start : Start) → Walks start l.fn.walk l.fn.conn → l.out.refused ≡ false
      → (l.fn.out.refused ≡ false) × (l.out.octets.items ++ renewed start (place_of l.walk) l.stays (map (λ t. t.now) (drop l.place l.lines)) ≡ l.fn.out.octets.items ++ renewed start (place_of l.fn.walk) false (map (λ t. t.now) l.lines));
}
