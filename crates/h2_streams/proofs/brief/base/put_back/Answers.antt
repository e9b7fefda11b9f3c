use Rattle.std.proofs.Common.{[], ◌≡◌, ◌∙◌, ap, subst, sym, true}
use Rattle.h2_spec.specs.declared.streams.Stream.{Stream}
use Rattle.h2_spec.specs.Stream.{Records, kind_of, put}
use Rattle.h2_streams.specs.Joined.{Base, GoWith, with_base}
use Rattle.h2_streams.specs.Put.{can_become}
use Rattle.h2_streams.proofs.BaseLaws.{go-put-back}
use Rattle.h2_streams.proofs.brief.base.put_back.Goals as goal

abbrev written : Stream → Records → Records
written st r = record r { streams = put st r.streams }

pub replace-requires : goal.replace-requires
replace-requires g c =
    let st = c.args.stream in
    subst (λ (r : Records). can_become (kind_of r.last r.streams st.id) st.kind ≡ true) (sym c.in_ok-unite.ensures.own) c.requires.can

pub returns-clause-ok : goal.returns-clause-ok
returns-clause-ok g c =
    ap (λ (b : Base). with_base b c.replace.new.self) c.in_ok-unite.ensures.base ∙ c.replace.ensures ∙ ap (written c.args.stream) c.in_ok-unite.ensures.own

pub returns-clause-go : goal.returns-clause-go
returns-clause-go g c =
    let done = go-put-back c.args.base.now c.args.own.now c.args.stream c.requires.go c.requires.can in
    let own = c.replace.ensures ∙ ap (written c.args.stream) c.in_ok-unite.ensures.own in
    subst (λ (b : Base). GoWith b c.replace.new.self) (sym c.in_ok-unite.ensures.base) (subst (λ (r : Records). GoWith (record { records = []; front = 0 }) r) (sym own) done)
