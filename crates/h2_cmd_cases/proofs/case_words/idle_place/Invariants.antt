use Rattle.std.proofs.Common.{◌≡◌, ◌+◌, drop, map}
use Rattle.h2_cmd_cases.specs.CaseWords.{before_idle, have_idle}
use Rattle.h2_cmd_cases.proofs.case_words.idle_place.Given as goal

abbrev pub invariant-loop-place : goal.invariant-loop-place
invariant-loop-place l = record {
  some : have_idle (map (λ t. t.now) (drop l.place l.lines)) ≡ have_idle (map (λ t. t.now) l.lines);
  first : l.place + before_idle (map (λ t. t.now) (drop l.place l.lines)) ≡ before_idle (map (λ t. t.now) l.lines);
}
