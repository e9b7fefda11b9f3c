-- The settings of a frame, one after another.
use Rattle.std.proofs.Common.{◌≡◌, ℕ, ◌+◌, Bool, true, false, cond, List, [], ◌∷◌, drop, refl, sym, ap, subst, ◌∙◌, arith, leb-true, Some, Result, Ok, Err, IfOk, ◌≤◌, ◌<◌, ◌^◌, ℤ}
use Rattle.std.specs.Prelude.{slice_get, nat_le, ◌&&◌, ◌==◌}
use Rattle.std.proofs.lemmas.Bool.{cond_both, false≢true}
use Rattle.std.proofs.lemmas.List.{drop_more}
use Rattle.std.proofs.lemmas.Option.{get_or_from_slice_get, slice_get_within}
use Rattle.h2_spec.specs.declared.causes.Cause.{Cause}
use Rattle.h2_spec.specs.declared.causes.Cause.TheVariants.{InitialWindowSizeOverflow}
use Rattle.h2_spec.specs.declared.errors.FlowFault.TheVariants.{BadSetting}
use Rattle.h2_spec.specs.declared.flow.Settings.{Settings}
use Rattle.h2_spec.specs.declared.streams.Stream.{Stream}
use Rattle.h2_spec.specs.Settings.{settings_or, window_change, with_setting}
use Rattle.h2_spec.specs.Change.{overflows, moved_by}
use Rattle.h2_spec.specs.SettingsFrame.{setting_next, settings_applied}
use Rattle.h2_spec.specs.declared.connection.ConnectionState.{ConnectionState}
use Rattle.h2_spec.specs.declared.connection.Phase.TheVariants.{Running}
use Rattle.h2_spec.specs.declared.reactions.RecordUpdate.TheVariants.{Shift}
use Rattle.h2_spec.specs.Requests.Answer.{Entry}
use Rattle.h2_spec.specs.Stream.{Records}
use Rattle.h2_conn_rules.specs.OneSetting.{one_setting}
use Rattle.h2_conn_rules.specs.Sound.{IsSoundConnectionState, IsSoundState, IsSoundRecordUpdate, in_force}
use Rattle.h2_conn_rules.proofs.SoundLaws.{still}

abbrev Applied : Type 0
Applied = Result Settings Cause

ok_same : (x y : Settings) → (let r : Applied = Ok x in r ≡ Ok y) → x ≡ y
ok_same x y e = cc

ok_not_err : (x : Settings) (y : Cause) → (let r : Applied = Ok x in r ≡ Err y) → ⊥
ok_not_err x y e = cc

-- one setting that is taken, and no window passes the largest one with it
pub one-taken : (streams : List Stream) (from now next : Settings) (id value : ℕ) (by : ℤ) → window_change now (with_setting now id value) ≡ Ok by → next ≡ settings_or now (with_setting now id value) → overflows (moved_by from.window next.window) streams ≡ false → (let r : Applied = Ok next in r ≡ one_setting streams from now id value)
unfolding one_setting
one-taken streams from now next id value by e k fits =
    sym (ap (λ (r : Applied). setting_next streams from r (λ x. Ok x)) (taken-as (with_setting now id value) e k) ∙ ap (λ (b : Bool). cond b (Err InitialWindowSizeOverflow) (Ok next)) fits)
  where
    taken-as : (r : Applied) → window_change now r ≡ Ok by → next ≡ settings_or now r → r ≡ Ok next
    taken-as (Ok t) e k = ap (λ x. Ok x) (sym k)
    taken-as (Err cause) e k = absurd cc

-- one setting that is refused
pub one-refused : (streams : List Stream) (from now : Settings) (id value : ℕ) (cause : Cause) → window_change now (with_setting now id value) ≡ Err (BadSetting cause) → (let r : Applied = Err cause in r ≡ one_setting streams from now id value)
unfolding one_setting
one-refused streams from now id value cause e = sym (ap (λ (r : Applied). setting_next streams from r (λ x. Ok x)) (refused-as (with_setting now id value) e))
  where
    refused-as : (r : Applied) → window_change now r ≡ Err (BadSetting cause) → r ≡ Err cause
    refused-as (Ok t) e = absurd cc
    refused-as (Err x) e = cc

-- what is applied first decides how it goes on
pub applied-ok : (streams : List Stream) (from now next : Settings) (id value : ℕ) (ps : List (ℕ × ℕ)) → one_setting streams from now id value ≡ Ok next →
    settings_applied streams from now ((id, value) ∷ ps) ≡ settings_applied streams from next ps
unfolding settings_applied one_setting
applied-ok streams from now next id value ps e = at (with_setting now id value) e
  where
    moved : (t : Settings) (b : Bool) → cond b (Err InitialWindowSizeOverflow) (Ok t) ≡ Ok next → cond b (Err InitialWindowSizeOverflow) (settings_applied streams from t ps) ≡ settings_applied streams from next ps
    moved t true h = absurd (ok_not_err next InitialWindowSizeOverflow (sym h))
    moved t false h = ap (λ x. settings_applied streams from x ps) (ok_same t next h)

    at : (r : Result Settings Cause) → setting_next streams from r (λ x. Ok x) ≡ Ok next → setting_next streams from r (λ x. settings_applied streams from x ps) ≡ settings_applied streams from next ps
    at (Err code) h = absurd (ok_not_err next code (sym h))
    at (Ok t) h = moved t (overflows (moved_by from.window t.window) streams) h

pub applied-err : (streams : List Stream) (from now : Settings) (code : Cause) (id value : ℕ) (ps : List (ℕ × ℕ)) → one_setting streams from now id value ≡ Err code →
    settings_applied streams from now ((id, value) ∷ ps) ≡ Err code
unfolding settings_applied one_setting
applied-err streams from now code id value ps e = at (with_setting now id value) e
  where
    moved : (t : Settings) (b : Bool) → cond b (Err InitialWindowSizeOverflow) (Ok t) ≡ Err code → cond b (Err InitialWindowSizeOverflow) (settings_applied streams from t ps) ≡ Err code
    moved t true h = h
    moved t false h = absurd (ok_not_err t code h)

    at : (r : Result Settings Cause) → setting_next streams from r (λ x. Ok x) ≡ Err code → setting_next streams from r (λ x. settings_applied streams from x ps) ≡ Err code
    at (Err c) h = h
    at (Ok t) h = moved t (overflows (moved_by from.window t.window) streams) h

-- what is at a place, and then what is after it
pub drop-at : (n : ℕ) (ps : List (ℕ × ℕ)) (p : ℕ × ℕ) → slice_get ps n ≡ Some p → drop n ps ≡ p ∷ drop (n + 1) ps
drop-at n ps p e = drop_more ps n (0, 0) (slice_get_within ps n p e) ∙ ap (λ q. q ∷ drop (n + 1) ps) (get_or_from_slice_get ps n p (0, 0) e)

pub applied-none : (streams : List Stream) (from now : Settings) → settings_applied streams from now [] ≡ Ok now
unfolding settings_applied
applied-none streams from now = refl

-- ---- what the settings keep

-- the windows stay within their limits with the settings that are taken
pub applied-fits : (streams : List Stream) (from now peer : Settings) (ps : List (ℕ × ℕ)) → overflows (moved_by from.window now.window) streams ≡ false →
    settings_applied streams from now ps ≡ Ok peer → overflows (moved_by from.window peer.window) streams ≡ false
unfolding settings_applied
applied-fits streams from now peer [] fits e = let P : Settings → Type 0 = λ s. overflows (moved_by from.window s.window) streams ≡ false in subst P (ok_same now peer e) fits
applied-fits streams from now peer (p ∷ ps) fits e = at (λ t g h. applied-fits streams from t peer ps g h) (with_setting now p.0 p.1) e
  where
    More : Type 0
    More = (t : Settings) → overflows (moved_by from.window t.window) streams ≡ false → settings_applied streams from t ps ≡ Ok peer → overflows (moved_by from.window peer.window) streams ≡ false

    moved : More → (t : Settings) (b : Bool) → overflows (moved_by from.window t.window) streams ≡ b → cond b (Err InitialWindowSizeOverflow) (settings_applied streams from t ps) ≡ Ok peer →
        overflows (moved_by from.window peer.window) streams ≡ false
    moved more t true g h = absurd (ok_not_err peer InitialWindowSizeOverflow (sym h))
    moved more t false g h = more t g h

    at : More → (r : Result Settings Cause) → setting_next streams from r (λ x. settings_applied streams from x ps) ≡ Ok peer → overflows (moved_by from.window peer.window) streams ≡ false
    at more (Err code) h = absurd (ok_not_err peer code (sym h))
    at more (Ok t) h = moved more t (overflows (moved_by from.window t.window) streams) refl h

-- the limits of the windows and of the frames
abbrev IsFit : Settings → Type 0
IsFit s = (s.window ≤ 2147483647) × (0 < s.frame) × (s.frame < 2 ^ 24)

abbrev Fits : Applied → Type 0
Fits r = IfOk r IsFit

both : (a b : Bool) → (a && b) ≡ true → (a ≡ true) × (b ≡ true)
both true b e = (refl, e)
both false b e = absurd (false≢true e)

fit-with_setting : (s : Settings) (id v : ℕ) → IsFit s → Fits (with_setting s id v)
unfolding with_setting
fit-with_setting s id v h =
    cond_both (id == 1) _ _ Fits (λ e. h)
    (λ e. cond_both (id == 2) _ _ Fits (λ g. cond_both (nat_le v 1) _ _ Fits (λ t. h) (λ t. tt))
    (λ e. cond_both (id == 3) _ _ Fits (λ g. h)
    (λ e. cond_both (id == 4) _ _ Fits (λ g. cond_both (nat_le v 2147483647) _ _ Fits (λ t. (leb-true v 2147483647 t, h.1, h.2)) (λ t. tt))
    (λ e. cond_both (id == 5) _ _ Fits (λ g. cond_both (nat_le 16384 v && nat_le v 16777215) _ _ Fits (λ t. with-frame (both (nat_le 16384 v) (nat_le v 16777215) t)) (λ t. tt))
    (λ e. cond_both (id == 6) _ _ Fits (λ g. h)
    (λ e. h))))))
  where
    with-frame : (nat_le 16384 v ≡ true) × (nat_le v 16777215 ≡ true) → IsFit (record s { frame = v })
    with-frame t = let least = leb-true 16384 v t.0 in let most = leb-true v 16777215 t.1 in (h.0, omega (arith, least), omega (arith, most))

-- the limits hold after the settings that are taken
pub applied-fit : (streams : List Stream) (from now peer : Settings) (ps : List (ℕ × ℕ)) → IsFit now → settings_applied streams from now ps ≡ Ok peer → IsFit peer
unfolding settings_applied
applied-fit streams from now peer [] fit e = subst IsFit (ok_same now peer e) fit
applied-fit streams from now peer (p ∷ ps) fit e = at (λ t g h. applied-fit streams from t peer ps g h) (with_setting now p.0 p.1) (fit-with_setting now p.0 p.1 fit) e
  where
    More : Type 0
    More = (t : Settings) → IsFit t → settings_applied streams from t ps ≡ Ok peer → IsFit peer

    moved : More → (t : Settings) (b : Bool) → IsFit t → cond b (Err InitialWindowSizeOverflow) (settings_applied streams from t ps) ≡ Ok peer → IsFit peer
    moved more t true g h = absurd (ok_not_err peer InitialWindowSizeOverflow (sym h))
    moved more t false g h = more t g h

    at : More → (r : Applied) → Fits r → setting_next streams from r (λ x. settings_applied streams from x ps) ≡ Ok peer → IsFit peer
    at more (Err code) g h = absurd (ok_not_err peer code (sym h))
    at more (Ok t) g h = moved more t (overflows (moved_by from.window t.window) streams) g h

-- with the settings that are taken the counts and the records stay sound
pub applied-sound : (book : List Entry) (core now : ConnectionState) (r : Records) (peer : Settings) (ps : List (ℕ × ℕ)) → IsSoundState book core r → settings_applied r.streams core.peer core.peer ps ≡ Ok peer →
    now ≡ record core { peer = peer; phase = Running } → IsSoundConnectionState now × IsSoundRecordUpdate book r (in_force core) now (Shift core.peer.window peer.window)
applied-sound book core now r peer ps state e is =
    let before = state.counts in
    let fit = applied-fit r.streams core.peer core.peer peer ps (before.1, before.2, before.3) e in
    let fits = applied-fits r.streams core.peer core.peer peer ps (still book (in_force core) r.streams state.records) e in
    let P : ConnectionState → Type 0 = λ x. IsSoundConnectionState x × IsSoundRecordUpdate book r (in_force core) x (Shift core.peer.window peer.window) in
    subst P (sym is) ((before.0, fit.0, fit.1, fit.2, before.4), (fits, refl, refl, sym state.last, refl))
