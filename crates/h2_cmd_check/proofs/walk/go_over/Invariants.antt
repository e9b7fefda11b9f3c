use Rattle.std.proofs.Common.{◌≡◌, ◌&&◌, [], drop, map}
use Rattle.h2_conn.specs.Connection.{going}
use Rattle.h2_cmd_check.specs.Cases.{Start, all_hold}
use Rattle.h2_cmd_cases.specs.Lines.{line_said}
use Rattle.h2_cmd_check.specs.Walks.{Begins, IsWithin, Walks, place_of}
use Rattle.h2_cmd_check.proofs.walk.go_over.Given as goal

abbrev pub invariant-loop-place : goal.invariant-loop-place
invariant-loop-place l = record {
  ready : l.conn ≡ going l.conn.state [];
  within : IsWithin l.walk;
  walks : (start : Start) → Walks start l.fn.walk l.fn.conn → Walks start l.walk l.conn;
  holds : (start : Start) → Begins start l.given → Walks start l.fn.walk l.fn.conn
      → (l.walk.holds && all_hold start (place_of l.walk) (map (λ t. line_said t.now) (drop l.place l.lines)))
      ≡ (l.fn.walk.holds && all_hold start (place_of l.fn.walk) (map (λ t. line_said t.now) l.lines));
}
