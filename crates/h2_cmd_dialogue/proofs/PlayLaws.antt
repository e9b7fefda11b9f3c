-- What happens on a connection, one turn after another.
use Rattle.std.proofs.Common.{◌≡◌, ◌∙◌, ℕ, ◌+◌, Bool, true, false, List, [], ◌∷◌, ◌++◌, flat_map, take, drop, Option, Some, None, refl, ap, ap₂, sym, subst}
use Rattle.std.proofs.lemmas.List.{append_assoc, append-nil, take-append-drop}
use Rattle.std.proofs.lemmas.Grind.{flat_map-append}
use Rattle.std.proofs.Math.Seq.{take-add}
use Rattle.h2_conn.specs.Connection.{Connection}
use Rattle.h2_conn.specs.Runs.{Fed}
use Rattle.h2_cmd_exchange.specs.Links.{LinkEvent, Sent, Got, Quiet, Ended, Late, happened, late_if, read_event}
use Rattle.h2_cmd_exchange.specs.declared.link.LinkRead.{LinkRead}
use Rattle.h2_cmd_exchange.specs.declared.link.LinkRead.TheVariants as read
use Rattle.h2_cmd_dialogue.specs.Watches.{Watched, watched_item, watched_items}
use Rattle.h2_cmd_dialogue.specs.Woven.{Answered, Weaving, after_item, after_items, woven, woven_item}
use Rattle.h2_cmd_dialogue.specs.Steps.{Incoming, Step}
use Rattle.h2_cmd_dialogue.specs.Plays.{Course, FeedsAll, Goes, Takes, TakesOne, TakesSome, answered, got, happened_all, octets_of, put, with_read}

-- ---- lists

happened-none : (log : Option (List LinkEvent)) → happened_all log [] ≡ log
happened-none None = refl
happened-none (Some es) = ap (λ (k : List LinkEvent). Some k) (append-nil es)

happened-then : (log : Option (List LinkEvent)) (a b : List LinkEvent) → happened_all (happened_all log a) b ≡ happened_all log (a ++ b)
happened-then None a b = refl
happened-then (Some es) a b = ap (λ (k : List LinkEvent). Some k) (append_assoc es a b)

happened-one : (log : Option (List LinkEvent)) (e : LinkEvent) → happened log e ≡ happened_all log (e ∷ [])
happened-one None e = refl
happened-one (Some es) e = refl

-- ---- items

after-append : (steps : List Step) (w : Weaving) (es fs : List Answered) → after_items steps w (es ++ fs) ≡ after_items steps (after_items steps w es) fs
after-append steps w [] fs = refl
after-append steps w (e ∷ es) fs = after-append steps (after_item steps w e.item) es fs

woven-append : (steps : List Step) (w : Weaving) (es fs : List Answered) → woven steps w (es ++ fs) ≡ woven steps w es ++ woven steps (after_items steps w es) fs
woven-append steps w [] fs = refl
woven-append steps w (e ∷ es) fs =
    ap (λ (k : List ℕ). woven_item steps w e.item e.sent ++ k) (woven-append steps (after_item steps w e.item) es fs)
    ∙ sym (append_assoc (woven_item steps w e.item e.sent) (woven steps (after_item steps w e.item) es) (woven steps (after_items steps (after_item steps w e.item) es) fs))

watched-append : (steps : List Step) (w : Weaving) (v : Watched) (es fs : List Answered)
    → watched_items steps w v (es ++ fs) ≡ watched_items steps (after_items steps w es) (watched_items steps w v es) fs
watched-append steps w v [] fs = refl
watched-append steps w v (e ∷ es) fs = watched-append steps (after_item steps w e.item) (watched_item steps w v e.item e.sent) es fs

octets-append : (o : List ℕ) (es fs : List Answered) → (o ++ octets_of es) ++ octets_of fs ≡ o ++ octets_of (es ++ fs)
octets-append o es fs =
    append_assoc o (octets_of es) (octets_of fs)
    ∙ ap (λ (k : List ℕ). o ++ k) (sym (flat_map-append (λ (e : Answered). e.octets) es fs))

feeds-append : (es fs : List Answered) (c d f : Connection) → FeedsAll c es d → FeedsAll d fs f → FeedsAll c (es ++ fs) f
feeds-append [] fs c d f same rest = subst (λ (x : Connection). FeedsAll x fs f) same rest
feeds-append (e ∷ es) fs c d f x rest = (x.0, x.1, feeds-append es fs x.0 d f x.2 rest)

pub takes-none : (steps : List Step) (c : Course) → TakesSome steps c [] c
takes-none steps c =
    ([], refl, record { feeds = refl; weaving = refl; watched = refl; octets = sym (append-nil c.octets); out = sym (append-nil c.out); inbox = refl })

-- what is watched of items, and then of others
watched-then : (steps : List Step) (c d f : Course) (es fs : List Answered) → d.weaving ≡ after_items steps c.weaving es
    → d.watched ≡ watched_items steps c.weaving c.watched es → f.watched ≡ watched_items steps d.weaving d.watched fs
    → f.watched ≡ watched_items steps c.weaving c.watched (es ++ fs)
watched-then steps c d f es fs weaving before after =
    after ∙ ap₂ (λ (w : Weaving) (v : Watched). watched_items steps w v fs) weaving before ∙ sym (watched-append steps c.weaving c.watched es fs)

octets-then : (a b c : List ℕ) (es fs : List Answered) → b ≡ a ++ octets_of es → c ≡ b ++ octets_of fs → c ≡ a ++ octets_of (es ++ fs)
octets-then a b c es fs x y = y ∙ ap (λ (k : List ℕ). k ++ octets_of fs) x ∙ octets-append a es fs

out-then : (steps : List Step) (c d f : Course) (es fs : List Answered) → Takes steps c es d → Takes steps d fs f → f.out ≡ c.out ++ woven steps c.weaving (es ++ fs)
out-then steps c d f es fs x y =
    y.out ∙ ap (λ (k : List ℕ). k ++ woven steps d.weaving fs) x.out
    ∙ append_assoc c.out (woven steps c.weaving es) (woven steps d.weaving fs)
    ∙ ap (λ (k : List ℕ). c.out ++ k) (ap (λ (w : Weaving). woven steps c.weaving es ++ woven steps w fs) x.weaving ∙ sym (woven-append steps c.weaving es fs))

pub takes-then : (steps : List Step) (c d f : Course) (es fs : List Answered) → Takes steps c es d → Takes steps d fs f → Takes steps c (es ++ fs) f
takes-then steps c d f es fs x y = record {
  feeds = feeds-append es fs c.conn d.conn f.conn x.feeds y.feeds;
  weaving = y.weaving ∙ ap (λ (w : Weaving). after_items steps w fs) x.weaving ∙ sym (after-append steps c.weaving es fs);
  watched = watched-then steps c d f es fs x.weaving x.watched y.watched;
  octets = octets-then c.octets d.octets f.octets es fs x.octets y.octets;
  out = out-then steps c d f es fs x y;
  inbox = y.inbox ∙ x.inbox;
}

-- items of some first octets, and then of the next
pub takes-more : (steps : List Step) (c d f : Course) (octets : List ℕ) (at n : ℕ) → TakesSome steps c (take at octets) d
    → TakesSome steps d (take n (drop at octets)) f → TakesSome steps c (take (at + n) octets) f
takes-more steps c d f octets at n x y = (
  x.0 ++ y.0,
  flat_map-append (λ (e : Answered). e.octets) x.0 y.0
      ∙ ap (λ (k : List ℕ). k ++ octets_of y.0) x.1
      ∙ ap (λ (k : List ℕ). take at octets ++ k) y.1
      ∙ sym (take-add at n octets),
  takes-then steps c d f x.0 y.0 x.2 y.2,
)

-- one item with these octets
pub takes-item : (steps : List Step) (c d : Course) (item : Incoming) (octets : List ℕ) → TakesOne steps c item octets d → TakesSome steps c octets d
takes-item steps c d item octets x = (answered item octets x.0 ∷ [], append-nil octets, x.1)

-- an item was fed, and woven
pub takes-woven : (steps : List Step) (c d : Course) (item : Incoming) (octets sent : List ℕ) (k : Connection) → Fed c.conn octets [] k sent
    → d ≡ record c {
      conn = k;
      weaving = after_item steps c.weaving item;
      watched = watched_item steps c.weaving c.watched item sent;
      octets = c.octets ++ octets;
      out = c.out ++ woven_item steps c.weaving item sent;
    }
    → TakesOne steps c item octets d
takes-woven steps c d item octets sent k fed same =
    subst (λ (f : Course). TakesOne steps c item octets f) (sym same) (
      sent,
      record {
        feeds = (k, fed, refl);
        weaving = refl;
        watched = refl;
        octets = ap (λ (o : List ℕ). c.octets ++ o) (sym (append-nil octets));
        out = ap (λ (o : List ℕ). c.out ++ o) (sym (append-nil (woven_item steps c.weaving item sent)));
        inbox = refl;
      },
    )

-- ---- turns

pub goes-none : (steps : List Step) (c : Course) (log : Option (List LinkEvent)) → Goes steps c log c log
goes-none steps c log = record {
  events = [];
  items = [];
  happened = sym (happened-none log);
  came = append-nil c.inbox;
  feeds = refl;
  weaving = refl;
  watched = refl;
  octets = sym (append-nil c.octets);
  written = sym (append-nil c.out);
}

-- something happened that changes nothing
pub goes-still : (steps : List Step) (c : Course) (log log' : Option (List LinkEvent)) (e : LinkEvent) → got e ≡ [] → put e ≡ [] → log' ≡ happened log e → Goes steps c log c log'
goes-still steps c log log' e g p at = record {
  events = e ∷ [];
  items = [];
  happened = at ∙ happened-one log e;
  came = ap (λ (k : List ℕ). c.inbox ++ k) (append-nil (got e) ∙ g) ∙ append-nil c.inbox;
  feeds = refl;
  weaving = refl;
  watched = refl;
  octets = sym (append-nil c.octets);
  written = ap (λ (k : List ℕ). k ++ c.out) (append-nil (put e) ∙ p) ∙ sym (append-nil c.out);
}

-- octets came
pub goes-got : (steps : List Step) (c c' : Course) (log log' : Option (List LinkEvent)) (octets : List ℕ) → c' ≡ record c { inbox = c.inbox ++ octets }
    → log' ≡ happened log (Got octets) → Goes steps c log c' log'
goes-got steps c c' log log' octets same at =
    subst (λ (d : Course). Goes steps c log d log') (sym same) (record {
      events = Got octets ∷ [];
      items = [];
      happened = at ∙ happened-one log (Got octets);
      came = ap (λ (k : List ℕ). c.inbox ++ k) (append-nil octets);
      feeds = refl;
      weaving = refl;
      watched = refl;
      octets = sym (append-nil c.octets);
      written = sym (append-nil c.out);
    })

-- something was read
pub goes-read : (steps : List Step) (c c' : Course) (log log' : Option (List LinkEvent)) (r : LinkRead) (buffer : List ℕ) → c' ≡ with_read c r buffer
    → log' ≡ happened log (read_event r buffer) → Goes steps c log c' log'
goes-read steps c c' log log' (read.Octets count) buffer same at = goes-got steps c c' log log' (take count buffer) same at
goes-read steps c c' log log' read.Quiet buffer same at = subst (λ (d : Course). Goes steps c log d log') (sym same) (goes-still steps c log log' Quiet refl refl at)
goes-read steps c c' log log' read.Ended buffer same at = subst (λ (d : Course). Goes steps c log d log') (sym same) (goes-still steps c log log' Ended refl refl at)

-- the time was over, or not
pub goes-late : (steps : List Step) (c : Course) (log log' : Option (List LinkEvent)) (late : Bool) → log' ≡ late_if late log → Goes steps c log c log'
goes-late steps c log log' true at = goes-still steps c log log' Late refl refl at
goes-late steps c log log' false at = subst (λ (k : Option (List LinkEvent)). Goes steps c log c k) (sym at) (goes-none steps c log)

-- what was to be written was
pub goes-put : (steps : List Step) (c c' : Course) (log log' : Option (List LinkEvent)) (done : Bool) → c' ≡ record c { out = [] }
    → log' ≡ happened log (Sent c.out done) → Goes steps c log c' log'
goes-put steps c c' log log' done same at =
    subst (λ (d : Course). Goes steps c log d log') (sym same) (record {
      events = Sent c.out done ∷ [];
      items = [];
      happened = at ∙ happened-one log (Sent c.out done);
      came = append-nil c.inbox;
      feeds = refl;
      weaving = refl;
      watched = refl;
      octets = sym (append-nil c.octets);
      written = append-nil (c.out ++ []);
    })

-- items at the front of what came were taken
pub goes-taken : (steps : List Step) (c d c' : Course) (n : ℕ) (log : Option (List LinkEvent)) → TakesSome steps (record c { inbox = [] }) (take n c.inbox) d
    → c' ≡ record d { inbox = drop n c.inbox } → Goes steps c log c' log
goes-taken steps c d c' n log x same =
    subst (λ (f : Course). Goes steps c log f log) (sym same) (record {
      events = [];
      items = x.0;
      happened = sym (happened-none log);
      came = append-nil c.inbox ∙ sym (take-append-drop n c.inbox) ∙ ap (λ (k : List ℕ). k ++ drop n c.inbox) (sym x.1);
      feeds = x.2.feeds;
      weaving = x.2.weaving;
      watched = x.2.watched;
      octets = x.2.octets;
      written = x.2.out;
    })

came-then : (a b gx gy ox oy z : List ℕ) → a ++ gx ≡ ox ++ b → b ++ gy ≡ oy ++ z → a ++ (gx ++ gy) ≡ (ox ++ oy) ++ z
came-then a b gx gy ox oy z x y =
    sym (append_assoc a gx gy) ∙ ap (λ (k : List ℕ). k ++ gy) x ∙ append_assoc ox b gy ∙ ap (λ (k : List ℕ). ox ++ k) y ∙ sym (append_assoc ox oy z)

written-then : (a b z px py wx wy : List ℕ) → px ++ b ≡ a ++ wx → py ++ z ≡ b ++ wy → (px ++ py) ++ z ≡ a ++ (wx ++ wy)
written-then a b z px py wx wy x y =
    append_assoc px py z ∙ ap (λ (k : List ℕ). px ++ k) y ∙ sym (append_assoc px b wy) ∙ ap (λ (k : List ℕ). k ++ wy) x ∙ append_assoc a wx wy

pub goes-then : (steps : List Step) (c d f : Course) (log mid end : Option (List LinkEvent)) → Goes steps c log d mid → Goes steps d mid f end → Goes steps c log f end
goes-then steps c d f log mid end x y = record {
  events = x.events ++ y.events;
  items = x.items ++ y.items;
  happened = y.happened ∙ ap (λ (l : Option (List LinkEvent)). happened_all l y.events) x.happened ∙ happened-then log x.events y.events;
  came = ap (λ (k : List ℕ). c.inbox ++ k) (flat_map-append got x.events y.events)
      ∙ came-then c.inbox d.inbox (flat_map got x.events) (flat_map got y.events) (octets_of x.items) (octets_of y.items) f.inbox x.came y.came
      ∙ ap (λ (k : List ℕ). k ++ f.inbox) (sym (flat_map-append (λ (e : Answered). e.octets) x.items y.items));
  feeds = feeds-append x.items y.items c.conn d.conn f.conn x.feeds y.feeds;
  weaving = y.weaving ∙ ap (λ (w : Weaving). after_items steps w y.items) x.weaving ∙ sym (after-append steps c.weaving x.items y.items);
  watched = watched-then steps c d f x.items y.items x.weaving x.watched y.watched;
  octets = octets-then c.octets d.octets f.octets x.items y.items x.octets y.octets;
  written = ap (λ (k : List ℕ). k ++ f.out) (flat_map-append put x.events y.events)
      ∙ written-then c.out d.out f.out (flat_map put x.events) (flat_map put y.events) (woven steps c.weaving x.items) (woven steps d.weaving y.items) x.written y.written
      ∙ ap (λ (k : List ℕ). c.out ++ k) (ap (λ (w : Weaving). woven steps c.weaving x.items ++ woven steps w y.items) x.weaving ∙ sym (woven-append steps c.weaving x.items y.items));
}
