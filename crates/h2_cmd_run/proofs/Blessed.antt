-- The cases of a file that are written anew, one after another, and files one after another.
use Rattle.std.proofs.Common.{◌≡◌, ◌∙◌, ◌++◌, ◌<◌, ◌≤◌, ◌+◌, ℕ, Bool, true, false, List, [], ◌∷◌, Option, length, map, flat_map, take, drop, drop-cons, OnOk, Result, Ok, Err, is_err, get_or, Bor, add-one, refl, sym, ap, subst, inl, inr, append_assoc}
use Rattle.std.proofs.lemmas.List.{append-nil, take-map}
use Rattle.h2_cmd_book_file.specs.Entries.{Directory}
use Rattle.h2_cmd_cases.specs.Files.{case_length, cases_from, cases_in, preamble_length}
use Rattle.h2_cmd_check.specs.Blessed.{kept_line}
use Rattle.h2_cmd_cases.proofs.CaseLists.{case-at, none-left}
use Rattle.h2_cmd_batch.specs.declared.case_setup.CaseSetup.{CaseSetup}
use Rattle.h2_cmd_batch.specs.declared.commands.each.PrintFault.{PrintFault}
use Rattle.h2_cmd_run.specs.Blessing.{Blesses, BlessesFile, BlessesFiles, PrintsFile, PrintsFiles, blessed_case, blessed_lines, kept_lines}

-- one case more
pub bless-next : (d : Directory) (s : CaseSetup) (file : List ℕ) (lines : List (Bor (List ℕ))) (first n : ℕ) (old new all : List ℕ)
    → first < length lines → n ≡ case_length (map (λ l. l.now) (drop first lines))
    → new ≡ old ++ blessed_case d s file (map (λ l. l.now) (take n (drop first lines)))
    → old ++ flat_map (blessed_case d s file) (cases_from (drop first (map (λ l. l.now) lines))) ≡ all
    → new ++ flat_map (blessed_case d s file) (cases_from (drop (first + n) (map (λ l. l.now) lines))) ≡ all
bless-next d s file lines first n old new all h is gained so_far =
    let f : List (List ℕ) → List ℕ = blessed_case d s file in
    let this : List (List ℕ) = map (λ l. l.now) (take n (drop first lines)) in
    let rest : List (List (List ℕ)) = cases_from (drop (first + n) (map (λ l. l.now) lines)) in
    ap (λ (t : List ℕ). t ++ flat_map f rest) gained
    ∙ append_assoc old (f this) (flat_map f rest)
    ∙ ap (λ (cs : List (List (List ℕ))). old ++ flat_map f cs) (sym (case-at lines first n h is))
    ∙ so_far

-- none is left
pub bless-ended : (d : Directory) (s : CaseSetup) (file : List ℕ) (lines : List (Bor (List ℕ))) (first : ℕ) (text all : List ℕ) → length lines ≤ first
    → text ++ flat_map (blessed_case d s file) (cases_from (drop first (map (λ l. l.now) lines))) ≡ all → text ≡ all
bless-ended d s file lines first text all h so_far =
    sym (append-nil text)
    ∙ ap (λ (cs : List (List (List ℕ))). text ++ flat_map (blessed_case d s file) cs) (sym (none-left lines first h))
    ∙ so_far

-- the lines in front of the first case, and then the cases
pub lines-joined : {E : Type 0} → (d : Directory) (s : CaseSetup) (file : List ℕ) (lines preamble : List (Bor (List ℕ))) (n : ℕ) (old mid new : List ℕ) (r : Result Bool E)
    → n ≡ preamble_length (map (λ l. l.now) lines) → preamble ≡ take n lines → mid ≡ old ++ flat_map kept_line (map (λ l. l.now) preamble)
    → OnOk r (new ≡ mid ++ flat_map (blessed_case d s file) (cases_in (map (λ l. l.now) lines)))
    → OnOk r (new ≡ old ++ blessed_lines d s file (map (λ l. l.now) lines))
lines-joined d s file lines preamble n old mid new (Err e) is front kept gained = gained
lines-joined d s file lines preamble n old mid new (Ok b) is front kept gained =
    let ls : List (List ℕ) = map (λ l. l.now) lines in
    let cases : List ℕ = flat_map (blessed_case d s file) (cases_in ls) in
    let same : map (λ l. l.now) preamble ≡ take (preamble_length ls) ls =
    ap (λ (ps : List (Bor (List ℕ))). map (λ l. l.now) ps) front ∙ sym (take-map (λ (l : Bor (List ℕ)). l.now) n lines) ∙ ap (λ (k : ℕ). take k ls) is in
    gained
    ∙ ap (λ (t : List ℕ). t ++ cases) (kept ∙ ap (λ (ps : List (List ℕ)). old ++ flat_map kept_line ps) same)
    ∙ append_assoc old (kept_lines (take (preamble_length ls) ls)) cases

-- ---- files in place

-- a file that was written anew was so, or not
pub blessed-or-not : (cut : Bool) (s : CaseSetup) (d d' : Directory) (file : List ℕ) → BlessesFile false s d file d' → BlessesFile cut s d file d'
blessed-or-not false s d d' file is = is
blessed-or-not true s d d' file is = inr is

-- all are as they were
pub none-blessed : (s : CaseSetup) (d : Directory) (names : List (List ℕ)) → BlessesFiles true s d names d
none-blessed s d [] = refl
none-blessed s d (name ∷ names) = (d, inl refl, none-blessed s d names)

pub blessed-some : (s : CaseSetup) (d d' : Directory) (names : List (List ℕ)) → BlessesFiles false s d names d' → BlessesFiles true s d names d'
blessed-some s d d' [] is = is
blessed-some s d d' (name ∷ names) is = (is.0, inr is.1, blessed-some s is.0 d' names is.2)

-- whether it was cut short
pub blessed-cut : (cut : Bool) (s : CaseSetup) (d d' : Directory) (names : List (List ℕ)) → BlessesFiles cut s d names d' → BlessesFiles true s d names d'
blessed-cut false s d d' names is = blessed-some s d d' names is
blessed-cut true s d d' names is = is

-- those of a run that goes on
abbrev pub GoesOn : CaseSetup → Directory → List (List ℕ) → Directory → List (List ℕ) → Type 0
GoesOn s d names d' rest = (cut : Bool) (e : Directory) → BlessesFiles cut s d' rest e → BlessesFiles cut s d names e

pub file-split : (names : List (Bor (List ℕ))) (i : ℕ) (x : Bor (List ℕ)) → i < length names
    → map (λ m. m.now) (drop i names) ≡ (get_or names i x).now ∷ map (λ m. m.now) (drop (i + 1) names)
file-split names i x h = rw (add-one, drop-cons names i x) refl

pub file-blessed : (s : CaseSetup) (d d' d'' : Directory) (all : List (List ℕ)) (names : List (Bor (List ℕ))) (i : ℕ) (x : Bor (List ℕ)) → i < length names
    → GoesOn s d all d' (map (λ m. m.now) (drop i names)) → BlessesFile false s d' (get_or names i x).now d''
    → GoesOn s d all d'' (map (λ m. m.now) (drop (i + 1) names))
file-blessed s d d' d'' all names i x h so_far one = λ cut e rest.
    so_far cut e
    (subst (λ (ns : List (List ℕ)). BlessesFiles cut s d' ns e) (sym (file-split names i x h))
    (d'', blessed-or-not cut s d' d'' (get_or names i x).now one, rest))

pub file-cut : (s : CaseSetup) (d d' d'' : Directory) (all : List (List ℕ)) (names : List (Bor (List ℕ))) (i : ℕ) (x : Bor (List ℕ)) → i < length names
    → GoesOn s d all d' (map (λ m. m.now) (drop i names)) → BlessesFile true s d' (get_or names i x).now d'' → BlessesFiles true s d all d''
file-cut s d d' d'' all names i x h so_far one =
    so_far true d''
    (subst (λ (ns : List (List ℕ)). BlessesFiles true s d' ns d'') (sym (file-split names i x h))
    (d'', one, none-blessed s d'' (map (λ m. m.now) (drop (i + 1) names))))

-- ---- files to the output

abbrev pub PrintsOn : CaseSetup → Directory → List (List ℕ) → Option (List ℕ) → List (List ℕ) → Option (List ℕ) → Type 0
PrintsOn s d names before rest now = (after : Option (List ℕ)) → PrintsFiles s d rest now after → PrintsFiles s d names before after

pub file-printed : (s : CaseSetup) (d : Directory) (all : List (List ℕ)) (names : List (Bor (List ℕ))) (i : ℕ) (x : Bor (List ℕ)) (k l m : Option (List ℕ)) → i < length names
    → PrintsOn s d all k (map (λ m. m.now) (drop i names)) l → PrintsFile s d (get_or names i x).now l m
    → PrintsOn s d all k (map (λ m. m.now) (drop (i + 1) names)) m
file-printed s d all names i x k l m h so_far one = λ after rest.
    so_far after
    (subst (λ (ns : List (List ℕ)). PrintsFiles s d ns l after) (sym (file-split names i x h)) (m, one, rest))

-- ---- the calls of a run

pub file-went : (s : CaseSetup) (d d' d'' : Directory) (all : List (List ℕ)) (names : List (Bor (List ℕ))) (i : ℕ) (x : Bor (List ℕ)) (cut : Bool) → i < length names → cut ≡ false
    → GoesOn s d all d' (map (λ m. m.now) (drop i names)) → BlessesFile cut s d' (get_or names i x).now d''
    → GoesOn s d all d'' (map (λ m. m.now) (drop (i + 1) names))
file-went s d d' d'' all names i x cut h went so_far one =
    file-blessed s d d' d'' all names i x h so_far (subst (λ (c : Bool). BlessesFile c s d' (get_or names i x).now d'') went one)

pub file-stopped : (s : CaseSetup) (d d' d'' : Directory) (all : List (List ℕ)) (names : List (Bor (List ℕ))) (i : ℕ) (x : Bor (List ℕ)) (cut : Bool) → i < length names → cut ≡ true
    → GoesOn s d all d' (map (λ m. m.now) (drop i names)) → BlessesFile cut s d' (get_or names i x).now d'' → BlessesFiles true s d all d''
file-stopped s d d' d'' all names i x cut h stop so_far one =
    file-cut s d d' d'' all names i x h so_far (subst (λ (c : Bool). BlessesFile c s d' (get_or names i x).now d'') stop one)

pub file-told : (s : CaseSetup) (d d₁ : Directory) (all : List (List ℕ)) (names : List (Bor (List ℕ))) (i : ℕ) (x : Bor (List ℕ)) (k l m : Option (List ℕ)) → i < length names → d₁ ≡ d
    → PrintsOn s d all k (map (λ m. m.now) (drop i names)) l → PrintsFile s d₁ (get_or names i x).now l m
    → PrintsOn s d all k (map (λ m. m.now) (drop (i + 1) names)) m
file-told s d d₁ all names i x k l m h same so_far one =
    file-printed s d all names i x k l m h so_far (subst (λ (e : Directory). PrintsFile s e (get_or names i x).now l m) same one)

when-ok : (r : Result Bool PrintFault) (P : Type 0) → OnOk r P → is_err r ≡ false → P
when-ok (Ok b) P p e = p
when-ok (Err f) P p e = cc

-- a status of 0 says that no fault ended it, and that nothing was printed after it
pub blesses-all : (s : CaseSetup) (d d' : Directory) (ns names : List (List ℕ)) (in_place : Bool) (k l m : Option (List ℕ)) (status : ℕ) (r : Result Bool PrintFault) → ns ≡ names
    → (in_place ≡ false → d' ≡ d) → (in_place ≡ true → BlessesFiles (is_err r) s d ns d') → (in_place ≡ false → OnOk r (PrintsFiles s d ns k l))
    → (status ≡ 0 → (is_err r ≡ false) × (m ≡ l)) → Blesses s d in_place names d' k m status
blesses-all s d d' ns names true k l m status r same kept blessed told ok =
    let here : BlessesFiles (is_err r) s d names d' = subst (λ (xs : List (List ℕ)). BlessesFiles (is_err r) s d xs d') same (blessed refl) in
    (blessed-cut (is_err r) s d d' names here, λ zero. let x = ok zero in subst (λ (b : Bool). BlessesFiles b s d names d') x.0 here)
blesses-all s d d' ns names false k l m status r same kept blessed told ok = (
  kept refl,
  λ zero. let x = ok zero in
      subst (λ (o : Option (List ℕ)). PrintsFiles s d names k o) (sym x.1)
      (subst (λ (xs : List (List ℕ)). PrintsFiles s d xs k l) same (when-ok r (PrintsFiles s d ns k l) (told refl) x.0)),
)
