use Rattle.std.proofs.Common.{◌++◌, ◌∙◌, ℕ, List, ap, append_assoc, drop}
use Rattle.std.proofs.lemmas.Result.{on_ok_weaker}
use Rattle.h2_conn_send.proofs.write.write_prepared.Goals as goal

pub returns : goal.returns
returns g c =
    let a = c.args in
    let before = g.O.Outgoing.octets a.out.now in
    let head = c.head_on_stream-head.result in
    record {
      ok = on_ok_weaker c.append_lent.result
          (λ sent. sent ∙ append_assoc before head c.octets_from.result.now
          ∙ ap (λ (xs : List ℕ). before ++ (head ++ xs)) c.octets_from.ensures
          ∙ ap (λ (xs : List ℕ). before ++ (xs ++ drop 9 a.prepared.now)) c.head_on_stream-head.ensures)
          c.append_lent.ensures.ok;
      err = c.append_lent.ensures.no_memory;
    }
