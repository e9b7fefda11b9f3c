-- The results of cases and of files, one after another.
use Rattle.std.proofs.Common.{◌≡◌, ◌∙◌, ◌<◌, ◌≤◌, ◌+◌, ◌++◌, ℕ, Bool, true, false, List, [], ◌∷◌, Option, Some, None, OnOk, Result, Ok, Err, length, map, take, drop, drop-cons, get_or, Bor, add-one, le-ltb, lt-ltb, refl, sym, subst, inl, inr, append_assoc, ap}
use Rattle.std.proofs.lemmas.Grind.{flat_map-append}
use Rattle.std.proofs.lemmas.List.{append-nil, drop_all, map-append}
use Rattle.std.proofs.lemmas.Str.{IsUtf8-from_is_utf8}
use Rattle.std.specs.Option.{IsSomeAnd}
use Rattle.std.specs.Str.{IsUtf8, is_utf8}
use Rattle.h2_io.specs.Limit.{most}
use Rattle.h2_cmd_cases.specs.Files.{case_length, cases_from}
use Rattle.h2_cmd_cases.proofs.CaseLists.{case-at, none-left}
use Rattle.h2_cmd_check.specs.JUnit.{FileResults, results_in}
use Rattle.h2_cmd_check.specs.declared.junit.Suite.{Suite}
use Rattle.h2_cmd_exchange.specs.Links.{LinkEvent}
use Rattle.h2_cmd_against.specs.Files.{JudgesAll, JudgesCase, RefusesFile, Trial, cases_if, cases_with}
use Rattle.h2_cmd_against.specs.Program.{AreSuites, IsSuite, texts}
use Rattle.h2_cmd_against.specs.Results.{SoFar}
use Rattle.h2_cmd_against.specs.declared.ends.Refusal.{Refusal}
use Rattle.h2_cmd_against.specs.declared.ends.Refusal.TheVariants.{TooLong, Unread}

-- ---- cases

-- the results of some first cases, and more follow
abbrev pub JudgesOn : Trial → (file : List ℕ) → List (Result (List (List ℕ)) Refusal) → SoFar → Option (List LinkEvent) → List (Result (List (List ℕ)) Refusal) → SoFar → Option (List LinkEvent) → Type 0
JudgesOn t file all s log rest mid between =
    (s' : SoFar) (log' : Option (List LinkEvent)) → JudgesAll t file rest mid between s' log' → JudgesAll t file all s log s' log'

-- those that are left from a line on
abbrev pub cases_left : List (Bor (List ℕ)) → (first : ℕ) → List (Result (List (List ℕ)) Refusal)
cases_left lines first = map (λ c. Ok c) (cases_from (drop first (map (λ l. l.now) lines)))

pub case-next : (t : Trial) (file : List ℕ) (lines : List (Bor (List ℕ))) (first n : ℕ) (all : List (Result (List (List ℕ)) Refusal)) (s mid next : SoFar) (log between after : Option (List LinkEvent))
    → first < length lines → n ≡ case_length (map (λ l. l.now) (drop first lines))
    → JudgesOn t file all s log (cases_left lines first) mid between
    → JudgesCase t (record { file = file; lines = map (λ l. l.now) (take n (drop first lines)) }) mid between next after
    → JudgesOn t file all s log (cases_left lines (first + n)) next after
case-next t file lines first n all s mid next log between after h is so_far one = λ s' log' rest.
    subst (λ (cs : List (List (List ℕ))). JudgesOn t file all s log (map (λ c. Ok c) cs) mid between) (case-at lines first n h is) so_far s' log'
    (next, after, one, rest)

pub cases-ended : (t : Trial) (file : List ℕ) (lines : List (Bor (List ℕ))) (first : ℕ) (all : List (Result (List (List ℕ)) Refusal)) (s mid : SoFar) (log between : Option (List LinkEvent))
    → length lines ≤ first → JudgesOn t file all s log (cases_left lines first) mid between → JudgesAll t file all s log mid between
cases-ended t file lines first all s mid log between h so_far =
    subst (λ (cs : List (List (List ℕ))). JudgesOn t file all s log (map (λ c. Ok c) cs) mid between) (none-left lines first h) so_far mid between (refl, refl)

-- ---- a file

pub cases-read : (file : Option (List ℕ)) (octets : List ℕ) → file ≡ Some octets → length octets ≤ most → cases_with file ≡ cases_if false (is_utf8 octets) octets
cases-read file octets is within = rw (is, le-ltb most (length octets) within) refl

pub cases-unread : (file : Option (List ℕ)) → file ≡ None → cases_with file ≡ Err Unread ∷ []
cases-unread file is = rw is refl

pub cases-long : (file : Option (List ℕ)) → IsSomeAnd file (λ octets. most < length octets) → cases_with file ≡ Err TooLong ∷ []
cases-long None h = absurd h
cases-long (Some octets) h = rw (lt-ltb most (length octets) h) refl

pub no-text : (octets : List ℕ) → (IsUtf8 octets → ⊥) → is_utf8 octets ≡ false
no-text octets isnt = at (is_utf8 octets) refl
  where
    at : (b : Bool) → is_utf8 octets ≡ b → is_utf8 octets ≡ false
    at true e = absurd (isnt (IsUtf8-from_is_utf8 octets e))
    at false e = e

-- what follows where nothing was refused
pub ok-then : {A E P Q : Type 0} (r : Result A E) → (P → Q) → OnOk r P → OnOk r Q
ok-then (Ok a) f p = f p
ok-then (Err e) f p = p

-- a file that has no cases
pub refused-alone : (t : Trial) (why : Refusal) (file : List ℕ) (cases : List (Result (List (List ℕ)) Refusal)) (s s' : SoFar) (log : Option (List LinkEvent))
    → cases ≡ Err why ∷ [] → RefusesFile why file s s' → JudgesAll t file cases s log s' log
refused-alone t why file cases s s' log is r =
    subst (λ (cs : List (Result (List (List ℕ)) Refusal)). JudgesAll t file cs s log s' log) (sym is) (s', log, (r, refl), (refl, refl))

-- ---- files

-- the results of some first files, and more follow
abbrev pub SuitesOn : Trial → (all : List (List ℕ)) → SoFar → Option (List LinkEvent) → List Suite → (rest : List (List ℕ)) → SoFar → Option (List LinkEvent) → Type 0
SuitesOn t all s log suites rest mid between =
    (cut : Bool) (more : List FileResults) (s' : SoFar) (log' : Option (List LinkEvent)) → AreSuites cut t mid between rest more s' log'
    → AreSuites cut t s log all (map results_in suites ++ more) s' log'

pub suites-begun : (t : Trial) (all : List (List ℕ)) (s : SoFar) (log : Option (List LinkEvent)) (suites : List Suite)
    → suites ≡ [] → SuitesOn t all s log suites all s log
suites-begun t all s log suites none = λ cut more s' log' is.
    subst (λ (xs : List Suite). AreSuites cut t s log all (map results_in xs ++ more) s' log') (sym none) is

-- the names that are left from a place on
abbrev pub names_left : List (Bor (List ℕ)) → (i : ℕ) → List (List ℕ)
names_left names i = map (λ n. n.now) (drop i names)

split : (names : List (Bor (List ℕ))) (i : ℕ) (x : Bor (List ℕ)) → i < length names → names_left names i ≡ (get_or names i x).now ∷ names_left names (i + 1)
split names i x h = rw (add-one, drop-cons names i x) refl

one-more : (suites suites' : List Suite) (suite : Suite) (more : List FileResults) → suites' ≡ suites ++ suite ∷ [] → map results_in suites ++ results_in suite ∷ more ≡ map results_in suites' ++ more
one-more suites suites' suite more grown =
    sym (append_assoc (map results_in suites) (results_in suite ∷ []) more)
    ∙ ap (λ (xs : List FileResults). xs ++ more) (sym (map-append results_in suites (suite ∷ [])) ∙ ap (λ (xs : List Suite). map results_in xs) (sym grown))

pub suite-next : (t e : Trial) (names : List (Bor (List ℕ))) (i : ℕ) (x : Bor (List ℕ)) (all : List (List ℕ)) (s mid next : SoFar) (log between after : Option (List LinkEvent)) (suites suites' : List Suite) (suite : Suite)
    → i < length names → e ≡ t → SuitesOn t all s log suites (names_left names i) mid between
    → IsSuite e mid between (get_or names i x).now (results_in suite) next after → suites' ≡ suites ++ suite ∷ []
    → SuitesOn t all s log suites' (names_left names (i + 1)) next after
suite-next t e names i x all s mid next log between after suites suites' suite h same so_far one grown = λ cut more s' log' is.
    subst (λ (w : List FileResults). AreSuites cut t s log all w s' log') (one-more suites suites' suite more grown)
    (subst (λ (ns : List (List ℕ)). SuitesOn t all s log suites ns mid between) (split names i x h) so_far cut (results_in suite ∷ more) s' log'
    (inr (results_in suite, next, after, subst (λ (f : Trial). IsSuite f mid between (get_or names i x).now (results_in suite) next after) same one, more, refl, is)))

-- and its text
pub texts-more : (suites suites' : List Suite) (suite : Suite) → suites' ≡ suites ++ suite ∷ [] → texts (map results_in suites) ++ suite.results.items ≡ texts (map results_in suites')
texts-more suites suites' suite grown =
    ap (λ (t : List ℕ). texts (map results_in suites) ++ t) (sym (append-nil suite.results.items))
    ∙ sym (flat_map-append (λ (f : FileResults). f.results) (map results_in suites) (results_in suite ∷ []))
    ∙ ap texts (sym (map-append results_in suites (suite ∷ [])) ∙ ap (λ (xs : List Suite). map results_in xs) (sym grown))

-- all of them
pub suites-ended : (t : Trial) (names : List (Bor (List ℕ))) (i : ℕ) (all : List (List ℕ)) (s mid : SoFar) (log between : Option (List LinkEvent)) (suites : List Suite)
    → length names ≤ i → SuitesOn t all s log suites (names_left names i) mid between → AreSuites false t s log all (map results_in suites) mid between
suites-ended t names i all s mid log between suites h so_far =
    subst (λ (w : List FileResults). AreSuites false t s log all w mid between) (append-nil (map results_in suites))
    (so_far false [] mid between (subst (λ (ns : List (Bor (List ℕ))). AreSuites false t mid between (map (λ n. n.now) ns) [] mid between) (sym (drop_all i names h)) (refl, refl, refl)))

-- no more of them, whatever is left
stopped : (t : Trial) (names : List (List ℕ)) (s : SoFar) (log : Option (List LinkEvent)) → AreSuites true t s log names [] s log
stopped t [] s log = (refl, refl, refl)
stopped t (name ∷ names) s log = inl refl

-- some first ones
pub suites-cut : (t : Trial) (rest all : List (List ℕ)) (s mid : SoFar) (log between : Option (List LinkEvent)) (suites : List Suite)
    → SuitesOn t all s log suites rest mid between → AreSuites true t s log all (map results_in suites) mid between
suites-cut t rest all s mid log between suites so_far =
    subst (λ (w : List FileResults). AreSuites true t s log all w mid between) (append-nil (map results_in suites))
    (so_far true [] mid between (stopped t rest mid between))
