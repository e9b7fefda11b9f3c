use Rattle.std.proofs.Common.{◌∙◌, ◌++◌, ◌∷◌, [], ap, cond, nat_eq, sym, List, ℕ, Bool}
use Rattle.indexmap.proofs.CallerLemmas.{insert_entry-new}
use Rattle.h2_streams.proofs.LiveLaws.{on_ok}
use Rattle.h2_streams.proofs.lookup.live.enter.Goals as goal

pub returns-then-is_in-clause-entries : goal.returns-then-is_in-clause-entries
returns-then-is_in-clause-entries g c =
    on_ok c.insert.result _ (c.insert.ensures.succeeds (c.requires.enough c.if-is_in.true)) c.insert.ensures.entries ∙ insert_entry-new nat_eq c.args.live.now c.args.id c.args.place c.requires.new
    ∙ ap (λ (b : Bool). c.args.live.now.entries ++ cond {A = List (ℕ × ℕ)} b ((c.args.id, c.args.place) ∷ []) []) (sym c.if-is_in.true)
