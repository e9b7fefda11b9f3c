-- What is known of a payload by its parts.
use Rattle.std.proofs.Common.{◌≡◌, ℕ, ◌-◌, ◌+◌, ◌≤◌, Bool, true, false, cond, List, length, take, drop, refl, subst, arith, Result, Ok, Err}
use Rattle.std.specs.Prelude.{nat_lt, nat_eq}
use Rattle.std.proofs.lemmas.List.{length-take, length-drop}
use Rattle.h2_spec.specs.declared.causes.Cause.{Cause}
use Rattle.h2_spec.specs.declared.causes.Cause.TheVariants.{DataLength, DataPadding, PriorityLength, PingLength}
use Rattle.h2_spec.specs.declared.frames.FrameType.{FrameType}
use Rattle.h2_spec.specs.declared.frames.FrameType.TheVariants.{Data, Headers, Priority, RstStream, Settings, PushPromise, Ping, Goaway, WindowUpdate, Continuation, Unknown}
use Rattle.h2_spec.specs.Frames.FrameType.{PADDED, ACK, has}
use Rattle.h2_spec.specs.Frames.Payload.{Part, DataPart, OfData, OfHeaders, OfRstStream, OfGoaway, OfWindowUpdate, OfPing, OfPriority, part_as, with_part, settings_or_ack, data_part, headers_part, settings_part, window_part, goaway_part, reset_part, octets_if, pad_or_0, pad_length}

abbrev Holds : Result Part Cause → DataPart → Type 0
Holds r d = r ≡ Ok (OfData d)

-- a part of another kind is no DATA
other : {A : Type 0} (f : A → Part) (r : Result A Cause) (d : DataPart) → ((a : A) → f a ≡ OfData d → ⊥) → Holds (with_part f r) d → ⊥
other f (Ok a) d differs e = differs a (ok-same (f a) (OfData d) e)
  where
    ok-same : (x y : Part) → (let r : Result Part Cause = Ok x in r ≡ Ok y) → x ≡ y
    ok-same x y e = cc
other f (Err fault) d differs e = cc

shorter : (n m : ℕ) (xs : List ℕ) → length (take n (drop m xs)) ≤ length xs
shorter n m xs = let a = length-take n (drop m xs) in let b = length-drop m xs in omega (arith, a, b)

content : (flags : ℕ) (p : List ℕ) (d : DataPart) → (let r : Result DataPart Cause = Ok d in data_part flags p ≡ r) → length d.content ≤ length p
unfolding data_part
content flags p d e = at (nat_lt (length p) (octets_if (has flags PADDED) 1)) (nat_lt (length p) (octets_if (has flags PADDED) 1 + pad_or_0 (pad_length flags p))) e
  where
    found : DataPart
    found = record { pad = pad_length flags p; content = take (length p - octets_if (has flags PADDED) 1 - pad_or_0 (pad_length flags p)) (drop (octets_if (has flags PADDED) 1) p); padding = drop (length p - pad_or_0 (pad_length flags p)) p }

    at : (short long : Bool) → (let r : Result DataPart Cause = Ok d in cond short (Err DataLength) (cond long (Err DataPadding) (Ok found)) ≡ r) → length d.content ≤ length p
    at true long h = absurd cc
    at false true h = absurd cc
    at false false h = let same : found ≡ d = cc in subst (λ (x : DataPart). length x.content ≤ length p) same (shorter (length p - octets_if (has flags PADDED) 1 - pad_or_0 (pad_length flags p)) (octets_if (has flags PADDED) 1) p)

none : (pairs : List (ℕ × ℕ)) (ack : Bool) (d : DataPart) → settings_or_ack ack pairs ≡ OfData d → ⊥
none pairs true d e = cc
none pairs false d e = cc

if-short : (part : Part) (cause : Cause) (t : Bool) (d : DataPart) → (part ≡ OfData d → ⊥) → Holds (cond t (Ok part) (Err cause)) d → ⊥
if-short part cause true d differs e = differs (same part (OfData d) e)
  where
    same : (x y : Part) → (let r : Result Part Cause = Ok x in r ≡ Ok y) → x ≡ y
    same x y e = cc
if-short part cause false d differs e = cc

-- the content of DATA is no longer than the payload
pub content-within : (t : FrameType) (flags : ℕ) (p : List ℕ) (d : DataPart) → Holds (part_as t flags p) d → length d.content ≤ length p
unfolding part_as
content-within Data flags p d e = at (data_part flags p) refl e
  where
    at : (r : Result DataPart Cause) → data_part flags p ≡ r → Holds (with_part OfData r) d → length d.content ≤ length p
    at (Ok x) is h = let same : x ≡ d = cc in content flags p d (subst (λ (y : DataPart). (let r : Result DataPart Cause = Ok y in data_part flags p ≡ r)) same is)
    at (Err fault) is h = absurd cc
content-within Headers flags p d e = absurd (other OfHeaders (headers_part flags p) d (λ a h. cc) e)
content-within Priority flags p d e = absurd (if-short OfPriority PriorityLength (nat_eq (length p) 5) d (λ h. cc) e)
content-within RstStream flags p d e = absurd (other OfRstStream (reset_part p) d (λ a h. cc) e)
content-within Settings flags p d e = absurd (other (settings_or_ack (has flags ACK)) (settings_part flags p) d (λ a h. none a (has flags ACK) d h) e)
content-within PushPromise flags p d e = absurd cc
content-within Ping flags p d e = absurd (if-short (OfPing p) PingLength (nat_eq (length p) 8) d (λ h. cc) e)
content-within Goaway flags p d e = absurd (other (λ (g : ℕ × ℕ). OfGoaway g.0 g.1) (goaway_part p) d (λ a h. cc) e)
content-within WindowUpdate flags p d e = absurd (other OfWindowUpdate (window_part p) d (λ a h. cc) e)
content-within Continuation flags p d e = absurd cc
content-within (Unknown kind) flags p d e = absurd cc
