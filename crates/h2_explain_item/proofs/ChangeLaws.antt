-- The rows of a table that are kept because their values differ.
use Rattle.std.proofs.Common.{◌≡◌, ℕ, List, [], ◌∷◌, ◌++◌, ◌∙◌, Option, Some, None, Result, Bool, true, false, ◌&&◌, ◌||◌, ◌<◌, ◌+◌, length, get_or, take, nat_eq, ℤ, pos, refl, sym, ap, ap₂, arith, append_assoc, cond, ◌==◌, rules}
use Rattle.std.specs.List.{filter, All}
use Rattle.std.specs.Ordering.{int_eq}
use Rattle.std.specs.Prelude.{OnOk}
use Rattle.std.proofs.lemmas.Result.{on_ok_weaker}
use Rattle.std.specs.Option.{option_eq, option_map}
use Rattle.std.proofs.lemmas.Bool.Decides.{Decides-eqb, Decides-int_eq}
use Rattle.std.proofs.lemmas.List.Elements.{All-append, All-nil, All-weaker, filter_more, filter_passes, filter-append}
use Rattle.std.proofs.lemmas.Bool.{false_from_ne_true, not-false}
use Rattle.h2_spec.specs.declared.connection.ConnectionState.{ConnectionState}
use Rattle.h2_spec.specs.declared.flow.LocalSettings.{LocalSettings}
use Rattle.h2_spec.specs.declared.streams.Numbers.{Numbers}
use Rattle.h2_spec.specs.declared.streams.Stream.{Stream}
use Rattle.h2_spec.specs.declared.flow.Settings.{Settings}
use Rattle.h2_spec.specs.declared.streams.StreamState.{StreamState}
use Rattle.h2_spec.specs.declared.streams.StreamState.TheVariants.{Idle, Skipped, BothOpen, HalfRemote, HalfLocal, Ended, PeerReset, WeReset}
use Rattle.h2_explain_item.specs.Changes.{CountsAreAsBefore, Differs, IsAsBefore, are_same_numbers, are_same_windows, client_table, code_of, connection_changes, connection_table, is_other, is_same_kind, is_same_pick, is_same_stream, last_of, listed, listed_flag, listed_if_any, numbers_table, state_row, stops, stops_with, stream_changes, stream_table}
use Rattle.h2_spec.specs.Stream.{is_live}
use Rattle.h2_explain_item.specs.declared.item.Moment.{Moment}
use Rattle.h2_explain_item.specs.declared.change.changes.ShownChange.{ShownChange}
use Rattle.h2_explain_item.specs.declared.change.changes.ShownChange.TheVariants.{Number, State, Acknowledged, Stops}

-- the rows of four tables that are kept, one after another
pub filter_four : (p : ShownChange → Bool) (o o1 o2 o3 o4 a1 b1 c1 d1 a b c d : List ShownChange) → a1 ≡ a → b1 ≡ b → c1 ≡ c → d1 ≡ d
    → o1 ≡ o ++ filter p a1 → o2 ≡ o1 ++ filter p b1 → o3 ≡ o2 ++ filter p c1 → o4 ≡ o3 ++ filter p d1
    → o4 ≡ o ++ filter p (a ++ b ++ c ++ d)
filter_four p o o1 o2 o3 o4 a1 b1 c1 d1 a b c d ea eb ec ed e1 e2 e3 e4 =
    rw (filter-append p (a ++ b ++ c) d, filter-append p (a ++ b) c, filter-append p a b, e4, e3, e2, e1, ea, eb, ec, ed) (simp append_assoc)

-- the rows of two tables that are kept, one after another
pub filter_two : (p : ShownChange → Bool) (o o1 o2 a1 b1 a b : List ShownChange) → a1 ≡ a → b1 ≡ b → o1 ≡ o ++ filter p a1 → o2 ≡ o1 ++ filter p b1
    → o2 ≡ o ++ filter p (a ++ b)
filter_two p o o1 o2 a1 b1 a b ea eb e1 e2 = rw (filter-append p a b, e2, e1, ea, eb) (simp append_assoc)

-- the rows of a stream that was live and is: its state, and its counts
pub live_rows : (before after : Stream) (o o1 o2 a1 b1 : List ShownChange) → is_live before.kind ≡ true → is_live after.kind ≡ true
    → a1 ≡ state_row before after → b1 ≡ numbers_table after.id before.numbers after.numbers → o1 ≡ o ++ filter is_other a1 → o2 ≡ o1 ++ filter is_other b1
    → o2 ≡ o ++ filter is_other (stream_table before after)
live_rows before after o o1 o2 a1 b1 was is state numbers e1 e2 =
    let rows : state_row before after ++ numbers_table after.id before.numbers after.numbers ≡ stream_table before after = rw (was, is) refl in
    filter_two is_other o o1 o2 a1 b1 (state_row before after) (numbers_table after.id before.numbers after.numbers) state numbers e1 e2
    ∙ ap (λ (xs : List ShownChange). o ++ filter is_other xs) rows

-- the row of a stream that was not live or is not: its state
pub dead_rows : (before after : Stream) (o o1 a1 : List ShownChange) → (is_live before.kind && is_live after.kind) ≡ false
    → a1 ≡ state_row before after → o1 ≡ o ++ filter is_other a1
    → o1 ≡ o ++ filter is_other (stream_table before after)
dead_rows before after o o1 a1 dead state e1 =
    let rows : state_row before after ≡ stream_table before after = rw dead refl in
    e1 ∙ ap (λ (xs : List ShownChange). o ++ filter is_other xs) (state ∙ rows)

-- the rows that are kept of some first ones and the next
pub kept_next : (i : ℕ) (xs : List ShownChange) (d : ShownChange) (o l l1 : List ShownChange) (b : Bool) → i < length xs → b ≡ is_other (get_or xs i d)
    → l ≡ o ++ filter is_other (take i xs) → l1 ≡ l ++ cond b (get_or xs i d ∷ []) []
    → l1 ≡ o ++ filter is_other (take (i + 1) xs)
kept_next i xs d o l l1 b h e before now =
    let x = get_or xs i d in
    let more : filter is_other (take i xs) ++ cond b (x ∷ []) [] ≡ filter is_other (take (i + 1) xs) = ap (λ (q : Bool). filter is_other (take i xs) ++ cond q (x ∷ []) []) e ∙ sym (filter_more is_other xs i d h) in
    now ∙ ap (λ (ys : List ShownChange). ys ++ cond b (x ∷ []) []) before ∙ append_assoc o (filter is_other (take i xs)) (cond b (x ∷ []) []) ∙ ap (λ (ys : List ShownChange). o ++ ys) more

-- ---- what is kept differs

same_kind : (k : StreamState) → is_same_kind k k ≡ true
same_kind Idle = refl
same_kind Skipped = refl
same_kind BothOpen = refl
same_kind HalfRemote = refl
same_kind HalfLocal = refl
same_kind Ended = refl
same_kind PeerReset = refl
same_kind WeReset = refl

-- a row that is kept has a value after it that is other than the value before
pub differs : (x : ShownChange) → is_other x ≡ true → Differs x
differs (Number stream what before after) h = λ e. cc (h, (Decides-int_eq before after).1 e)
differs (State stream before after) h = λ e. let k : is_same_kind before after ≡ true = rw (← e) (same_kind before) in cc (h, k)
differs (Acknowledged false false) h = λ e. cc h
differs (Acknowledged false true) h = λ e. cc e
differs (Acknowledged true false) h = λ e. cc e
differs (Acknowledged true true) h = λ e. cc h
differs (Stops stream remaining own connection) h = tt

pub kept_differ : (xs : List ShownChange) → All Differs (filter is_other xs)
kept_differ xs = All-weaker (λ (x : ShownChange). is_other x ≡ true) Differs differs (filter is_other xs) (filter_passes is_other xs)

-- ---- where nothing is kept, nothing differs

-- the values of a row are the same
abbrev pub Same : ShownChange → Type 0
Same (Number stream what before after) = before ≡ after
Same (State stream before after) = is_same_kind before after ≡ true
Same (Acknowledged before after) = before ≡ after
Same (Stops stream remaining own connection) = ⊥

abbrev pub AllSame : List ShownChange → Type 0
AllSame [] = Unit {0}
AllSame (x ∷ xs) = Same x × AllSame xs

same : (x : ShownChange) → is_other x ≡ false → Same x
same (Number stream what before after) h = (Decides-int_eq before after).0 (not-false (int_eq before after) h)
same (State stream before after) h = not-false (is_same_kind before after) h
same (Acknowledged false false) h = refl
same (Acknowledged false true) h = cc h
same (Acknowledged true false) h = cc h
same (Acknowledged true true) h = refl
same (Stops stream remaining own connection) h = cc h

step : (x : ShownChange) (xs : List ShownChange) (b : Bool) → is_other x ≡ b → (filter is_other xs ≡ [] → AllSame xs) → cond b (x ∷ filter is_other xs) (filter is_other xs) ≡ [] → AllSame (x ∷ xs)
step x xs true e below h = cc h
step x xs false e below h = (same x e, below h)

pub all_same : (xs : List ShownChange) → filter is_other xs ≡ [] → AllSame xs
all_same [] h = tt
all_same (x ∷ xs) h = step x xs (is_other x) refl (all_same xs) h

-- ---- where nothing differs, nothing is kept

not_other : (x : ShownChange) → Same x → is_other x ≡ false
not_other (Number stream what before after) h = rw ((Decides-int_eq before after).1 h) refl
not_other (State stream before after) h = rw h refl
not_other (Acknowledged false false) h = refl
not_other (Acknowledged false true) h = sym h
not_other (Acknowledged true false) h = h
not_other (Acknowledged true true) h = refl
not_other (Stops stream remaining own connection) h = absurd h

none_other : (xs : List ShownChange) → AllSame xs → filter is_other xs ≡ []
none_other [] h = refl
none_other (x ∷ xs) h = rw (not_other x h.0, none_other xs h.1) refl

-- a connection of which all that is listed is the same
pub same_connection : (before after : Moment) → before.entries ≡ after.entries → before.table_size ≡ after.table_size → before.table_max ≡ after.table_max
    → record before.counts { phase = after.counts.phase } ≡ after.counts → connection_changes before after ≡ []
same_connection before after entries size max counts =
    let at : (f : ConnectionState → ℤ) → f (record before.counts { phase = after.counts.phase }) ≡ f after.counts = λ f. ap f counts in
    none_other (connection_table before after) (
      at (λ c. c.recv),
      (
        at (λ c. pos c.owed),
        (
          at (λ c. c.send),
          (
            at (λ c. pos c.last),
            (
              at (λ c. listed_if_any (option_map last_of c.goaway)),
              (
                at (λ c. listed_if_any (option_map code_of c.goaway)),
                (
                  at (λ c. pos c.peer.header_table),
                  (
                    at (λ c. pos c.peer.push),
                    (
                      at (λ c. listed_if_any c.peer.streams),
                      (
                        at (λ c. pos c.peer.window),
                        (
                          at (λ c. pos c.peer.frame),
                          (
                            at (λ c. listed_if_any c.peer.list),
                            (
                              at (λ c. listed_flag c.peer.size_update_pending),
                              (
                                ap (λ (c : ConnectionState). c.acked) counts,
                                (
                                  at (λ c. pos c.own.table),
                                  (
                                    at (λ c. pos c.own.window),
                                    (
                                      at (λ c. pos c.own.frame),
                                      (ap listed entries, (ap listed size, (ap (λ (n : ℕ). pos n) max, tt))),
                                    ),
                                  ),
                                ),
                              ),
                            ),
                          ),
                        ),
                      ),
                    ),
                  ),
                ),
              ),
            ),
          ),
        ),
      ),
    )

-- nothing is listed of stream 0
pub none_of_zero : (before after : Stream) (send : ℤ) → after.id ≡ 0 → stream_changes before after send ≡ []
none_of_zero before after send zero = let test : (after.id == 0) ≡ true = rw zero refl in rw test (at (is_same_stream before after))
  where
    at : (b : Bool) → cond (b || true) [] (filter is_other (stream_table before after) ++ stops after send) ≡ []
    at false = refl
    at true = refl

-- a stream that is as before, instead of what is listed of it
pub same_stream : (before after : Stream) (send : ℤ) (o : List ShownChange) → is_same_stream before after ≡ true → o ≡ o ++ stream_changes before after send
same_stream before after send o h = rw h (search rules)

-- what is listed of a stream that is not as before, and is not stream 0: its rows, and then where its answer stops
pub other_stream : {T E : Type 0} (before after : Stream) (send : ℤ) (o o1 o2 : List ShownChange) (r : Result T E)
    → is_same_stream before after ≡ false → (after.id == 0) ≡ false
    → o1 ≡ o ++ filter is_other (stream_table before after) → OnOk r (o2 ≡ o1 ++ stops after send)
    → OnOk r (o2 ≡ o ++ stream_changes before after send)
other_stream before after send o o1 o2 r same zero rows stop =
    let listed_of : stream_changes before after send ≡ filter is_other (stream_table before after) ++ stops after send = rw (same, zero) refl in
    let whole : o ++ filter is_other (stream_table before after) ++ stops after send ≡ o ++ stream_changes before after send = append_assoc o (filter is_other (stream_table before after)) (stops after send) ∙ ap (λ xs. o ++ xs) (sym listed_of) in
    on_ok_weaker r (λ (e : o2 ≡ o1 ++ stops after send). e ∙ ap (λ xs. xs ++ stops after send) rows ∙ whole) stop

-- ---- what two values that are listed the same say

pub same_if_any : (a b : Option ℕ) → listed_if_any a ≡ listed_if_any b → a ≡ b
same_if_any None None h = refl
same_if_any None (Some n) h = cc h
same_if_any (Some n) None h = cc h
same_if_any (Some n) (Some m) h = cc h

pub same_natural : (a b : ℕ) → pos a ≡ pos b → a ≡ b
same_natural a b h = cc h

pub same_flag : (a b : Bool) → listed_flag a ≡ listed_flag b → a ≡ b
same_flag false false h = refl
same_flag false true h = absurd (omega (arith, same_natural 0 1 h))
same_flag true false h = absurd (omega (arith, same_natural 1 0 h))
same_flag true true h = refl

-- a pair that may be absent, by its two parts
pub same_pair : (a b : Option (ℕ × ℕ)) → option_map last_of a ≡ option_map last_of b → option_map code_of a ≡ option_map code_of b → a ≡ b
same_pair None None h k = refl
same_pair None (Some n) h k = cc h
same_pair (Some n) None h k = cc h
same_pair (Some n) (Some m) h k = let e : n.0 ≡ m.0 = cc h in let f : n.1 ≡ m.1 = cc k in ap (λ (p : ℕ × ℕ). Some p) (ap₂ (λ (x y : ℕ). (x, y)) e f)

-- records are the same where their fields are
pub same_settings : (a b : Settings) → AllSame (client_table a b) → a ≡ b
same_settings a b (t, (p, (s, (w, (f, (l, (u, _))))))) =
    rw (same_natural a.header_table b.header_table t, same_natural a.push b.push p, same_if_any a.streams b.streams s, same_natural a.window b.window w, same_natural a.frame b.frame f, same_if_any a.list b.list l, same_flag a.size_update_pending b.size_update_pending u) refl

same_own : (a b : LocalSettings) → a.table ≡ b.table → a.window ≡ b.window → a.frame ≡ b.frame → a ≡ b
same_own a b t w f = rw (t, w, f) refl

same_core : (a b : ConnectionState) → b.recv ≡ a.recv → b.owed ≡ a.owed → b.send ≡ a.send → b.last ≡ a.last → b.goaway ≡ a.goaway → b.peer ≡ a.peer → b.acked ≡ a.acked → b.own ≡ a.own
    → record b { phase = a.phase } ≡ a
same_core a b r o s l g p k w = rw (r, o, s, l, g, p, k, w) refl

pub same_table : (before after : Moment) → AllSame (connection_table before after) → (listed before.entries ≡ listed after.entries) × (listed before.table_size ≡ listed after.table_size) × (before.table_max ≡ after.table_max)
same_table before after (r, (o, (s, (l, (gl, (gc, (p1, (p2, (p3, (p4, (p5, (p6, (p7, (k, (o1, (o2, (o3, (t1, (t2, (t3, _)))))))))))))))))))) = (t1, t2, same_natural before.table_max after.table_max t3)

pub same_counts : (before after : Moment) → AllSame (connection_table before after) → record after.counts { phase = before.counts.phase } ≡ before.counts
same_counts before after (r, (o, (s, (l, (gl, (gc, (p1, (p2, (p3, (p4, (p5, (p6, (p7, (k, (o1, (o2, (o3, _))))))))))))))))) =
    let a = before.counts in
    let b = after.counts in
    same_core a b (sym r) (sym (same_natural a.owed b.owed o)) (sym s) (sym (same_natural a.last b.last l))
    (sym (same_pair a.goaway b.goaway (same_if_any (option_map last_of a.goaway) (option_map last_of b.goaway) gl) (same_if_any (option_map code_of a.goaway) (option_map code_of b.goaway) gc)))
    (sym (same_settings a.peer b.peer (p1, (p2, (p3, (p4, (p5, (p6, (p7, tt)))))))))
    (sym k)
    (sym (same_own a.own b.own (same_natural a.own.table b.own.table o1) (same_natural a.own.window b.own.window o2) (same_natural a.own.frame b.own.frame o3)))

-- ---- of a stream

stops_differ : (id : ℕ) (own connection : ℤ) (o : Option ℕ) → All Differs (stops_with id own connection o)
stops_differ id own connection None = All-nil Differs
stops_differ id own connection (Some n) = search rules

stop_differs : (st : Stream) (connection : ℤ) (live : Bool) → All Differs (cond live (stops_with st.id st.numbers.send connection st.numbers.body_remaining) [])
stop_differs st connection true = stops_differ st.id st.numbers.send connection st.numbers.body_remaining
stop_differs st connection false = All-nil Differs

changes_differ : (before after : Stream) (send : ℤ) (none : Bool) → All Differs (cond none [] (filter is_other (stream_table before after) ++ stops after send))
changes_differ before after send true = All-nil Differs
changes_differ before after send false = All-append Differs (filter is_other (stream_table before after)) (stops after send) (kept_differ (stream_table before after)) (stop_differs after send (is_live after.kind))

pub stream_differ : (before after : Stream) (send : ℤ) → All Differs (stream_changes before after send)
stream_differ before after send = changes_differ before after send (is_same_stream before after || after.id == 0)

-- ---- where nothing is kept of a stream

and_both : (x y : Bool) → (x && y) ≡ true → (x ≡ true) × (y ≡ true)
and_both true true h = (refl, refl)
and_both true false h = cc h
and_both false true h = cc h
and_both false false h = cc h

not_both : (x y : Bool) → x ≡ true → y ≡ true → (x && y) ≡ false → ⊥
not_both true true e f h = cc h
not_both true false e f h = cc f
not_both false y e f h = cc e

natural_same : (a b : ℕ) → (a == b) ≡ true → a ≡ b
natural_same a b h = (Decides-eqb a b).0 h

not_zero : (n : ℕ) → 0 < n → (n == 0) ≡ false
not_zero n h = false_from_ne_true (n == 0) (λ e. omega (arith, natural_same n 0 e))

first_empty : (xs ys : List ShownChange) → xs ++ ys ≡ [] → xs ≡ []
first_empty [] ys h = refl
first_empty (x ∷ xs) ys h = cc h

whole_same : (a b : ℤ) → int_eq a b ≡ true → a ≡ b
whole_same a b h = (Decides-int_eq a b).0 h

numbers_as_before : (a b : Numbers) → are_same_numbers a b ≡ true → CountsAreAsBefore a b
numbers_as_before a b h =
    let body = and_both (are_same_windows a b && a.content_received == b.content_received && option_eq nat_eq a.declared b.declared) (option_eq nat_eq a.body_remaining b.body_remaining) h in
    let declared = and_both (are_same_windows a b && a.content_received == b.content_received) (option_eq nat_eq a.declared b.declared) body.0 in
    let content = and_both (are_same_windows a b) (a.content_received == b.content_received) declared.0 in
    let send = and_both (int_eq a.recv b.recv && a.owed == b.owed) (int_eq a.send b.send) content.0 in
    let owed = and_both (int_eq a.recv b.recv) (a.owed == b.owed) send.0 in
    record {
      recv = whole_same a.recv b.recv owed.0;
      owed = natural_same a.owed b.owed owed.1;
      send = whole_same a.send b.send send.1;
      content = ap (λ (n : ℕ). listed n) (natural_same a.content_received b.content_received content.1);
    }

same_as_before : (a b : Stream) → is_same_stream a b ≡ true → IsAsBefore a b
same_as_before a b h =
    let pick = and_both (a.id == b.id && is_same_kind a.kind b.kind && are_same_numbers a.numbers b.numbers) (is_same_pick a.pick b.pick) h in
    let numbers = and_both (a.id == b.id && is_same_kind a.kind b.kind) (are_same_numbers a.numbers b.numbers) pick.0 in
    let kind = and_both (a.id == b.id) (is_same_kind a.kind b.kind) numbers.0 in
    record { kind = kind.1; counts = λ was is. numbers_as_before a.numbers b.numbers numbers.1 }

rows_as_before : (a b : Stream) (both : Bool) → (is_live a.kind && is_live b.kind) ≡ both → AllSame (state_row a b ++ cond both (numbers_table b.id a.numbers b.numbers) []) → IsAsBefore a b
rows_as_before a b true e (k, (r, (o, (s, (n, _))))) = record {
  kind = k;
  counts = λ was is. record { recv = r; owed = same_natural a.numbers.owed b.numbers.owed o; send = s; content = n };
}
rows_as_before a b false e (k, _) = record { kind = k; counts = λ was is. absurd (not_both (is_live a.kind) (is_live b.kind) was is e) }

as_before : (a b : Stream) (send : ℤ) (same : Bool) → is_same_stream a b ≡ same → cond same [] (filter is_other (stream_table a b) ++ stops b send) ≡ [] → IsAsBefore a b
as_before a b send true e h = same_as_before a b e
as_before a b send false e h = rows_as_before a b (is_live a.kind && is_live b.kind) refl (all_same (stream_table a b) (first_empty (filter is_other (stream_table a b)) (stops b send) h))

without_zero : (a b : Stream) (send : ℤ) (same zero : Bool) → zero ≡ false → cond (same || zero) [] (filter is_other (stream_table a b) ++ stops b send) ≡ [] → cond same [] (filter is_other (stream_table a b) ++ stops b send) ≡ []
without_zero a b send true zero e h = refl
without_zero a b send false false e h = h
without_zero a b send false true e h = cc e

pub stream_as_before : (a b : Stream) (send : ℤ) → 0 < b.id → stream_changes a b send ≡ [] → IsAsBefore a b
stream_as_before a b send above h = as_before a b send (is_same_stream a b) refl (without_zero a b send (is_same_stream a b) (b.id == 0) (not_zero b.id above) h)
