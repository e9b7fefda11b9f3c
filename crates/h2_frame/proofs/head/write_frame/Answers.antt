use Rattle.std.proofs.Common.{◌≡◌, ◌∙◌, ◌<◌, ◌^◌, ◌++◌, ℕ, List, length, drop, false, Some, Result, Ok, Err, sym, ap, arith}
use Rattle.std.proofs.Math.Seq.{drop-append_seam}
use Rattle.std.specs.Prelude.{OnOk}
use Rattle.h2_spec.specs.Frames.Frame.{frame_octets, frame_of, head_at, head_sent}
use Rattle.h2_spec.specs.declared.frames.Head.{Head}
use Rattle.h2_spec.proofs.FrameLaws.{head_at-frame_octets}
use Rattle.h2_frame.proofs.head.write_frame.Goals as goal

read_back : {X E : Type 0} → (r : Result X E) (old new : List ℕ) (h : Head) (p : List ℕ) → h.length ≡ length p → h.length < 2 ^ 24 → h.stream < 2 ^ 31
    → OnOk r (new ≡ old ++ frame_octets (frame_of h p)) → OnOk r ((more : List ℕ) → head_at (drop (length old) new ++ more) ≡ Some (record h { reserved = false }))
read_back (Ok x) old new h p len fits stream e =
    let f = frame_of h p in
    let written : drop (length old) new ≡ frame_octets f = ap (drop (length old)) e ∙ drop-append_seam old (frame_octets f) in
    let sent : head_sent f ≡ record h { reserved = false } = ap (λ n. let k : Head = record { length = n; kind = h.kind; flags = h.flags; reserved = false; stream = h.stream } in k) (sym len) in
    λ more. ap (λ o. head_at (o ++ more)) written ∙ head_at-frame_octets f more (record { length_fits = omega (arith, len, fits); stream_fits = stream }) ∙ ap Some sent
read_back (Err x) old new h p len fits stream e = tt

pub returns-clause-ok : goal.returns-clause-ok
returns-clause-ok g c = c.append_frame.ensures.ok

pub returns-clause-read_back : goal.returns-clause-read_back
returns-clause-read_back g c =
    read_back c.append_frame.result (g.O.Outgoing.octets c.args.out.now) (g.O.Outgoing.octets c.append_frame.new.out) c.args.head.now c.args.payload.now
    c.requires.length c.requires.fits c.requires.stream c.append_frame.ensures.ok
