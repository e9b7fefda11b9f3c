-- The results of files, one after another, and the file that has them.
use Rattle.std.proofs.Common.{◌≡◌, ◌∙◌, ◌++◌, ◌+◌, ◌<◌, ◌≤◌, ℕ, false, List, [], ◌∷◌, Bor, Option, Some, None, bytes_eq, length, map, drop, get_or, if◌then◌else◌, refl, sym, ap, subst, append_assoc}
use Rattle.std.proofs.lemmas.List.{append-nil, drop_all, map-append}
use Rattle.std.specs.Io.KnownBytes.{Appends}
use Rattle.h2_cmd_book_file.specs.Entries.{Directory}
use Rattle.h2_cmd_check.specs.JUnit.{FileResults, results_in}
use Rattle.h2_cmd_check.specs.declared.junit.Suite.{Suite}
use Rattle.h2_cmd_batch.specs.Results.{ChangesAlone}
use Rattle.h2_cmd_batch.specs.declared.case_setup.CaseSetup.{CaseSetup}
use Rattle.h2_cmd_run.specs.CheckProgram.{AreReported, Reports, Subject, subjects_of}
use Rattle.h2_cmd_run.specs.JUnitProgram.{AreSuites}
use Rattle.h2_cmd_run.specs.declared.check.CaseTally.{CaseTally}
use Rattle.h2_cmd_run.proofs.Blessed.{file-split}

-- all that was gathered are the results
pub gathered : (d : Directory) (s : CaseSetup) (t t' : CaseTally) (xs : List Subject) (a b : List ℕ) → a ≡ [] → Reports false d s t xs t' (Some a) (Some b) → AreReported false d s t xs b t'
gathered d s t t' xs a b none said =
    let empty : Reports false d s t xs t' (Some []) (Some b) = subst (λ (w : List ℕ). Reports false d s t xs t' (Some w) (Some b)) none said in
    let one = empty [] refl in
    let same : b ≡ one.0 = cc one.1 in
    subst (λ (w : List ℕ). AreReported false d s t xs w t') (sym same) one.2

-- those of a run that goes on
abbrev pub SuitesGoOn : Directory → CaseSetup → CaseTally → List (List ℕ) → CaseTally → List (List ℕ) → List Suite → Type 0
SuitesGoOn d s t names t' rest suites =
    (more : List FileResults) (u : CaseTally) → AreSuites d s t' rest more u → AreSuites d s t names (map results_in suites ++ more) u

pub suites-begun : (d : Directory) (s : CaseSetup) (t : CaseTally) (names : List (List ℕ)) (suites : List Suite) → suites ≡ [] → SuitesGoOn d s t names t names suites
suites-begun d s t names suites none = λ more u is. subst (λ (xs : List Suite). AreSuites d s t names (map results_in xs ++ more) u) (sym none) is

one-more : (suites suites' : List Suite) (suite : Suite) (more : List FileResults) → suites' ≡ suites ++ suite ∷ [] → map results_in suites ++ results_in suite ∷ more ≡ map results_in suites' ++ more
one-more suites suites' suite more grown =
    sym (append_assoc (map results_in suites) (results_in suite ∷ []) more)
    ∙ ap (λ (xs : List FileResults). xs ++ more) (sym (map-append results_in suites (suite ∷ [])) ∙ ap (λ (xs : List Suite). map results_in xs) (sym grown))

pub suite-next : (d : Directory) (s : CaseSetup) (names : List (Bor (List ℕ))) (i : ℕ) (x : Bor (List ℕ)) (t₀ t t' : CaseTally) (all : List (List ℕ)) (suites suites' : List Suite) (suite : Suite) → i < length names
    → SuitesGoOn d s t₀ all t (map (λ n. n.now) (drop i names)) suites → suite.file.now ≡ (get_or names i x).now
    → AreReported false d s t (subjects_of d (get_or names i x).now) suite.results.items t' → suites' ≡ suites ++ suite ∷ []
    → SuitesGoOn d s t₀ all t' (map (λ n. n.now) (drop (i + 1) names)) suites'
suite-next d s names i x t₀ t t' all suites suites' suite h so_far named said grown = λ more u is.
    let file : List ℕ = (get_or names i x).now in
    let this : FileResults = record { file = file; results = suite.results.items } in
    let same : results_in suite ≡ this = ap (λ (f : List ℕ). record { file = f; results = suite.results.items }) named in
    let rest : AreSuites d s t (file ∷ map (λ n. n.now) (drop (i + 1) names)) (results_in suite ∷ more) u =
    (suite.results.items, t', said, more, ap (λ (f : FileResults). f ∷ more) same, is) in
    subst (λ (w : List FileResults). AreSuites d s t₀ all w u) (one-more suites suites' suite more grown)
    (so_far (results_in suite ∷ more) u (subst (λ (ns : List (List ℕ)). AreSuites d s t ns (results_in suite ∷ more) u) (sym (file-split names i x h)) rest))

pub suites-ended : (d : Directory) (s : CaseSetup) (names : List (Bor (List ℕ))) (i : ℕ) (t₀ t : CaseTally) (all : List (List ℕ)) (suites : List Suite) → length names ≤ i
    → SuitesGoOn d s t₀ all t (map (λ n. n.now) (drop i names)) suites → AreSuites d s t₀ all (map results_in suites) t
suites-ended d s names i t₀ t all suites h so_far =
    subst (λ (w : List FileResults). AreSuites d s t₀ all w t) (append-nil (map results_in suites))
    (so_far [] t (subst (λ (ns : List (Bor (List ℕ))). AreSuites d s t (map (λ n. n.now) ns) [] t) (sym (drop_all i names h)) (refl, refl)))

-- ---- files

pub none-changed : (d d' : Directory) (file : List ℕ) → d' ≡ d → ChangesAlone file d d'
none-changed d d' file same = λ path other. ap (λ (f : Directory). f path) same

-- ---- the output

pub appended : (a b : Option (List ℕ)) (text held : List ℕ) → Appends a b text → a ≡ Some held → b ≡ Some (held ++ text)
appended (Some xs) (Some ys) text held is known = let same : xs ≡ held = cc known in ap (λ (w : List ℕ). Some w) (is ∙ ap (λ (w : List ℕ). w ++ text) same)
appended (Some xs) None text held is known = absurd is
appended None b text held is known = absurd (cc)
