use Rattle.std.proofs.Common.{◌≡◌, ◌∙◌, ℕ, List, ap, drop, length, refl, subst, sym}
use Rattle.h2_cmd_inject.specs.Views.{sum_of, viewing_of}
use Rattle.h2_conn.specs.Connection.{Connection}
use Rattle.h2_conn.specs.declared.report.TakenItem.{TakenItem}
use Rattle.h2_explain_step.specs.Explained.{IsItemOf}
use Rattle.h2_spec.specs.State.{State}
use Rattle.h2_cmd_inject.proofs.view.View.take.Goals as goal

pub returns-in_default-clause-taken : goal.returns-in_default-clause-taken
returns-in_default-clause-taken g c =
    let none = rw c.in_default.is at c.in_ok-observed.ensures.takes in
    (none.none, ap (λ (s : State). record (viewing_of c.args.self.now) { state = s }) none.same, refl)

pub returns-clause-taken : goal.returns-clause-taken
returns-clause-taken g c =
    let v = c.args.self.now in
    let b = c.args.octets.now in
    let x = c.item-item.result in
    let o = c.in-Some.observed in
    let out : List ℕ = drop (length c.new-sent.result.items) c.take_item.new.out.items in
    let sent : c.as_slice.result.now ≡ out = c.as_slice.ensures.value ∙ rw c.new-sent.ensures.items refl in
    let observed = rw c.in-Some.is at c.in_ok-observed.ensures.item in
    let number : c.saturating_add-number.result ≡ sum_of v.items 1 = c.saturating_add-number.ensures in
    let made = subst (λ (n : ℕ). IsItemOf o n v.offset b out x) number (subst (λ (t : List ℕ). IsItemOf o c.saturating_add-number.result v.offset b t x) sent c.item-item.ensures) in
    let used : x.used ≡ o.taken.used = ap (λ (k : TakenItem). k.used) c.item-item.ensures.taken_is in
    let text = c.in_ok-show.ensures.text in (
      x,
      sym used,
      text.0,
      record {
        connection = c.take_item.new.conn;
        explains = observed (sum_of v.items 1) v.offset x made;
        goes = record {
          state_is = ap (λ (k : Connection). k.state) c.show.ensures.ready;
          weaving_is = c.in_ok-show.ensures.weaver;
          since_is = c.in_ok-show.ensures.since;
          tally_is = c.in_ok-show.ensures.tally;
          items_are = number;
          offset_is = c.saturating_add-self.ensures ∙ ap (λ (n : ℕ). sum_of n o.taken.used) c.show.ensures.counts.1 ∙ ap (sum_of v.offset) (sym used);
        };
        shown = text.1;
      },
      text.2,
    )
