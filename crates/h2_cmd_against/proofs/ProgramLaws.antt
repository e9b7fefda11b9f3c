-- What the program prints, part by part.
use Rattle.std.proofs.Common.{◌≡◌, ◌∙◌, ◌⊎◌, ◌++◌, ℕ, Bool, true, false, List, [], ◌∷◌, Bor, Option, Some, None, Result, Ok, Err, map, refl, sym, ap, subst, inl, inr, append_assoc}
use Rattle.std.specs.Io.KnownBytes.{Appends}
use Rattle.h2_spec.specs.Requests.Answer.{Entry}
use Rattle.h2_cmd_batch.specs.CommandEnd.{Prints, PrintsSome}
use Rattle.h2_cmd_batch.specs.Faults.{fault_line, fault_number}
use Rattle.h2_cmd_batch.specs.Printing.{Printed, failed, failed_after}
use Rattle.h2_cmd_batch.specs.declared.fault.BenchFault.{BenchFault}
use Rattle.h2_cmd_batch.specs.declared.fault.BenchFault.TheVariants.{NoMemory}
use Rattle.h2_cmd_batch.specs.Results.{ChangesAlone}
use Rattle.h2_cmd_book_file.specs.Entries.{Directory}
use Rattle.h2_cmd_check.specs.JUnit.{FileResults}
use Rattle.h2_cmd_exchange.specs.Links.{LinkEvent}
use Rattle.h2_cmd_against.specs.Files.{Trial}
use Rattle.h2_cmd_against.specs.Program.{AreSuites, CutsSuites, GainsSuites, IsEnd, IsJudged, IsJudgedWith, IsSaid, Knows, Misses, Task, case_names, texts, trial, version_line}
use Rattle.h2_cmd_against.specs.Results.{SoFar, no_case}
use Rattle.h2_cmd_against.specs.declared.server.Server.{Server}

-- all results are those of some first files
pub suites-weaker : (trial : Trial) (s s' : SoFar) (log log' : Option (List LinkEvent)) (names : List (List ℕ)) (suites : List FileResults)
    → AreSuites false trial s log names suites s' log' → AreSuites true trial s log names suites s' log'
suites-weaker trial s s' log log' [] suites x = x
suites-weaker trial s s' log log' (name ∷ names) suites (inl stop) = absurd stop
suites-weaker trial s s' log log' (name ∷ names) suites (inr r) =
    inr (r.0, r.1, r.2, r.3, r.4, r.5, suites-weaker trial r.1 s' r.2 log' names r.4 r.6)

appended : (a b : Option (List ℕ)) (text held : List ℕ) → Appends a b text → a ≡ Some held → b ≡ Some (held ++ text)
appended (Some xs) (Some ys) text held is known = let same : xs ≡ held = cc known in ap (λ (w : List ℕ). Some w) (is ∙ ap (λ (w : List ℕ). w ++ text) same)
appended (Some xs) None text held is known = absurd is
appended None b text held is known = absurd (cc)

three : (held first second third : List ℕ) → ((held ++ first) ++ second) ++ third ≡ held ++ (first ++ second ++ third)
three held first second third = simp append_assoc refl

two : (held first second third : List ℕ) → ((held ++ first) ++ second) ++ third ≡ held ++ ((first ++ second) ++ third)
two held first second third = simp append_assoc refl

-- the lines after all results
judged-by : (junit : List ℕ) (d' : Directory) (trial : Trial) (names : List (List ℕ)) (log log' : Option (List LinkEvent)) (s : SoFar) (suites : List FileResults) (t : Printed)
    → AreSuites false trial no_case log names suites s log' → IsEnd junit trial.files s suites d' t
    → IsJudged junit trial names log d' log' (record { text = version_line ++ texts suites ++ t.text; status = t.status })
judged-by junit d' trial names log log' s suites t all (inl e) = inl (record {
  so_far = s;
  suites = suites;
  are_suites = all;
  filed = e.0;
  whole = ap (λ (u : Printed). record { text = version_line ++ texts suites ++ u.text; status = u.status }) e.1;
})
judged-by junit d' trial names log log' s suites t all (inr e) = inr (record {
  so_far = s;
  suites = suites;
  after = log';
  are_suites = suites-weaker trial no_case s log log' names suites all;
  kept = e.0;
  fault = e.1.0;
  whole = ap (λ (u : Printed). record { text = version_line ++ texts suites ++ u.text; status = u.status }) e.1.1
      ∙ ap (λ (w : List ℕ). record { text = w; status = 1 }) (sym (append_assoc version_line (texts suites) (fault_line (fault_number e.1.0))));
})

pub judges-whole : (junit : List ℕ) (d' : Directory) (trial : Trial) (names : List (List ℕ)) (log log' : Option (List LinkEvent)) (s : SoFar) (suites : List FileResults) (a₀ a b c : Option (List ℕ)) (status : ℕ)
    → Appends a₀ a version_line → GainsSuites false trial no_case log names suites s log' a b → PrintsSome (λ t. IsEnd junit trial.files s suites d' t) b c status
    → PrintsSome (λ t. IsJudged junit trial names log d' log' t) a₀ c status
judges-whole junit d' trial names log log' s suites a₀ a b c status begun all end = λ held is.
    let first = appended a₀ a version_line held begun is in
    let second = appended a b (texts suites) (held ++ version_line) all.1 first in
    let r = end ((held ++ version_line) ++ texts suites) second in (
      record { text = version_line ++ texts suites ++ r.0.text; status = r.0.status },
      judged-by junit d' trial names log log' s suites r.0 all.0 r.1,
      (r.2.0 ∙ ap (λ (w : List ℕ). Some w) (three held version_line (texts suites) r.0.text), r.2.1),
    )

-- the line of a fault after the results of some first files
pub judges-cut : (junit : List ℕ) (d' : Directory) (trial : Trial) (names : List (List ℕ)) (log log' : Option (List LinkEvent)) (fault : BenchFault) (a₀ a b c : Option (List ℕ)) (status : ℕ)
    → Appends a₀ a version_line → CutsSuites trial no_case log names a b → d' ≡ trial.files → ((held : List ℕ) → b ≡ Some held → Prints (failed fault) held c status)
    → PrintsSome (λ t. IsJudged junit trial names log d' log' t) a₀ c status
judges-cut junit d' trial names log log' fault a₀ a b c status begun some kept end = λ held is.
    let suites = some.0 in
    let first = appended a₀ a version_line held begun is in
    let second = appended a b (texts suites) (held ++ version_line) some.3.1 first in
    let r = end ((held ++ version_line) ++ texts suites) second in (
      failed_after (version_line ++ texts suites) fault,
      inr (record { so_far = some.1; suites = suites; after = some.2; are_suites = some.3.0; kept = kept; fault = fault; whole = refl }),
      (r.0 ∙ ap (λ (w : List ℕ). Some w) (two held version_line (texts suites) (fault_line (fault_number fault))), r.1),
    )

-- ---- what comes first

pub known-judged : (said : Result (List Entry) ℕ) (book : List Entry) (task : Task) (d d' : Directory) (server : Server) (log mid log' : Option (List LinkEvent)) (a b : Option (List ℕ)) (status : ℕ)
    → said ≡ Ok book → Knows task.aim task.recorded d task.names log server mid
    → PrintsSome (λ t. IsJudged task.junit (trial task d server book) (case_names task.recorded task.names) mid d' log' t) a b status
    → PrintsSome (λ t. IsSaid said task d log d' log' t) a b status
known-judged said book task d d' server log mid log' a b status is knows printed = λ held at.
    let r = printed held at in
    (r.0, inr (subst (λ (w : Result (List Entry) ℕ). IsJudgedWith w task d log d' log' r.0) (sym is) (inr (server, mid, knows, r.1))), r.2)

pub missed-judged : (said : Result (List Entry) ℕ) (book : List Entry) (task : Task) (d d' : Directory) (log log' : Option (List LinkEvent)) (fault : BenchFault) (a b : Option (List ℕ)) (status : ℕ)
    → said ≡ Ok book → ((fault ≡ NoMemory) ⊎ Misses task.aim task.recorded log fault log') → d' ≡ d → ((held : List ℕ) → a ≡ Some held → Prints (failed fault) held b status)
    → PrintsSome (λ t. IsSaid said task d log d' log' t) a b status
missed-judged said book task d d' log log' fault a b status is why kept printed = λ held at. (
  failed fault,
  inr (subst (λ (w : Result (List Entry) ℕ). IsJudgedWith w task d log d' log' (failed fault)) (sym is) (inl (fault, why, kept, refl))),
  printed held at,
)

pub refused-judged : (said : Result (List Entry) ℕ) (task : Task) (d d' : Directory) (log log' : Option (List LinkEvent)) (fault : BenchFault) (a b : Option (List ℕ)) (status : ℕ)
    → ((fault ≡ NoMemory) ⊎ (said ≡ Err (fault_number fault))) → d' ≡ d → ((held : List ℕ) → a ≡ Some held → Prints (failed fault) held b status)
    → PrintsSome (λ t. IsSaid said task d log d' log' t) a b status
refused-judged said task d d' log log' fault a b status (inl memory) kept printed = λ held at.
    (failed fault, inl (kept, ap (λ (f : BenchFault). failed f) memory), printed held at)
refused-judged said task d d' log log' fault a b status (inr found) kept printed = λ held at.
    (failed fault, inr (subst (λ (w : Result (List Entry) ℕ). IsJudgedWith w task d log d' log' (failed fault)) (sym found) (kept, refl)), printed held at)

-- ---- files

pub none-changed : (d d' : Directory) (file : List ℕ) → d' ≡ d → ChangesAlone file d d'
none-changed d d' file same = λ path other. ap (λ (f : Directory). f path) same

pub changed-after : (d e d' : Directory) (file : List ℕ) → e ≡ d → ChangesAlone file e d' → ChangesAlone file d d'
changed-after d e d' file same alone = subst (λ (f : Directory). ChangesAlone file f d') same alone

-- the files that have cases, by their names
pub case-names-map : (recorded : Bool) (names : List (Bor (List ℕ))) → map (λ n. n.now) (case_names recorded names) ≡ case_names recorded (map (λ n. n.now) names)
case-names-map true [] = refl
case-names-map true (a ∷ []) = refl
case-names-map true (a ∷ b ∷ names) = refl
case-names-map false names = refl
