-- What the mark of a field adds is what the field adds.
use Rattle.std.proofs.Common.{◌≡◌, ◌||◌, true, cond, codes, refl, ap, ◌∙◌}
use Rattle.h2_spec.specs.Hpack.Field.{Field, field}
use Rattle.h2_request_well_formed.specs.Marked.{marked_by, noted_by, measured_by}
use Rattle.h2_request_well_formed.specs.Walk.{Pseudo, marked, noted, measured, with_pseudo}
use Rattle.h2_request_well_formed.specs.declared.walk.ListMark.{ListMark}
use Rattle.h2_request_well_formed.specs.declared.walk.ContentLength.{ContentLength}
use Rattle.h2_hpack_validity.specs.Mark.{known_of, mark_of}
use Rattle.h2_hpack_validity.proofs.KnownNames.{by-name, by-colon, connection-marked, pseudo-marked}

pub marked-by : (m : ListMark) (f : Field) → marked_by m (mark_of f) ≡ marked m f
unfolding mark_of
marked-by m f = rw (connection-marked f, pseudo-marked f) refl

pub noted-by : (p : Pseudo) (f : Field) → noted_by p (mark_of f).known f.value ≡ noted p f
unfolding mark_of known_of
noted-by p f = by-name (λ n. noted_by p (known_of n) f.value ≡ noted p (field n f.value)) f.name (record { method = refl; scheme = refl; path = refl; authority = refl; content_length = refl; te = refl; connection = refl; proxy = refl; keep_alive = refl; transfer = refl; upgrade = refl })
    (λ u. by-colon (λ k b. noted_by p k f.value ≡ cond b (with_pseudo (record p { late = p.late || p.regular }) f) (record p { regular = true })) f.name u (rw (u.method, u.scheme, u.path, u.authority) refl) refl)

pub measured-by : (l : ContentLength) (f : Field) → measured_by l (mark_of f).known f.value ≡ measured l f
unfolding mark_of known_of
measured-by l f = by-name (λ n. measured_by l (known_of n) f.value ≡ measured l (field n f.value)) f.name (record { method = refl; scheme = refl; path = refl; authority = refl; content_length = refl; te = refl; connection = refl; proxy = refl; keep_alive = refl; transfer = refl; upgrade = refl })
    (λ u. by-colon (λ k b. measured_by l k f.value ≡ measured l f) f.name u (rw u.content_length refl) (rw u.content_length refl))
