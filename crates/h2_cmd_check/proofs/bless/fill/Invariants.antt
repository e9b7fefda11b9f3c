use Rattle.std.proofs.Common.{◌≡◌, ◌++◌, [], false, drop, map}
use Rattle.h2_conn.specs.Connection.{going}
use Rattle.h2_cmd_check.specs.Blessed.{filled}
use Rattle.h2_cmd_check.specs.Cases.{Start}
use Rattle.h2_cmd_check.specs.Walks.{IsWithin, Walks, place_of}
use Rattle.h2_cmd_check.proofs.bless.fill.Given as goal

abbrev pub invariant-loop-line : goal.invariant-loop-line
invariant-loop-line l = record {
  ready : l.conn ≡ going l.conn.state [];
  within : IsWithin l.walk;
  walks : (start : Start) → Walks start l.fn.walk l.fn.conn → Walks start l.walk l.conn;
  text : (start : Start) → Walks start l.fn.walk l.fn.conn → l.out.refused ≡ false
      → (l.fn.out.refused ≡ false) × (l.out.octets.items ++ filled start (place_of l.walk) (map (λ t. t.now) (drop l.line-index l.lines)) ≡ l.fn.out.octets.items ++ filled start (place_of l.fn.walk) (map (λ t. t.now) l.lines));
}
