use Rattle.std.proofs.Common.{◌≡◌, ◌∙◌, ◌<◌, ◌+◌, ◌++◌, rules, arith, Some, None, length}
use Rattle.std.specs.Prelude.{slice_get}
use Rattle.std.proofs.lemmas.Option.{slice_get_within}
use Rattle.h2_io.proofs.Appending.{appends-same, both}
use Rattle.h2_io.proofs.HexTexts.{text-end, text-next}
use Rattle.h2_spec.specs.Hpack.Field.{field}
use Rattle.h2_spec.specs.Texts.Show.{entry_line}
use Rattle.h2_conn_view.proofs.Texts.{entries-next, entries-past}
use Rattle.h2_conn_view.proofs.show.EntriesTextText.write_to.Goals as goal

pub index_of-index-requires : goal.index_of-index-requires
index_of-index-requires g c = omega (arith, c.loop-name.invariant.within, c.count_of-count.ensures.count, c.count_of-count.ensures.few)

pub loop-name-preserved : goal.loop-name-preserved
loop-name-preserved g c =
    let es = c.args.self.now.0.now.table.entries in
    let e = field c.in-Some.name.now c.in-Some.value.now in
    let at : slice_get es c.loop-name.place ≡ Some e = search rules in
    let within : c.loop-name.place < length es = slice_get_within es c.loop-name.place e at in
    let so_far = c.loop-name.invariant.written in
    record {
      within = omega (arith, within);
      well = search rules;
      name = c.write_to.ensures.name ∙ c.loop-name.invariant.name;
      written = (
        so_far.0 ++ entry_line (62 + c.loop-name.place) e,
        both _ _ _ _ _ so_far.1 (search rules),
        text-next so_far.0 _ _ _ _ (entries-next c.loop-name.place es e at) so_far.2,
      );
    }

pub returns-clause-octets : goal.returns-clause-octets
returns-clause-octets g c =
    let es = c.args.self.now.0.now.table.entries in
    let none : slice_get es c.loop-name.place ≡ None = search rules in
    let so_far = c.loop-name.invariant.written in
    appends-same _ _ _ _ (text-end so_far.0 _ _ (entries-past c.loop-name.place (62 + c.loop-name.place) es none) so_far.2) so_far.1
