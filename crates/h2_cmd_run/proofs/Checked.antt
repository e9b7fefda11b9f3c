-- The results of cases, one after another.
use Rattle.std.proofs.Common.{◌≡◌, ◌∙◌, ◌++◌, ◌<◌, ◌≤◌, ℕ, Bool, true, false, List, [], ◌∷◌, Option, Some, None, Result, Ok, Err, length, map, take, drop, drop-cons, get_or, Bor, ◌+◌, add-one, refl, sym, ap, ap₂, subst, inl, inr, append_assoc, le-ltb, lt-ltb}
use Rattle.std.proofs.lemmas.List.{append-nil, drop_all}
use Rattle.std.proofs.lemmas.Str.{IsUtf8-from_is_utf8}
use Rattle.std.specs.Option.{IsSomeAnd}
use Rattle.std.specs.Str.{IsUtf8, is_utf8}
use Rattle.std.specs.Io.KnownBytes.{Appends}
use Rattle.h2_cmd_book_file.specs.Entries.{Directory}
use Rattle.h2_cmd_check.specs.Cases.{Outcome}
use Rattle.h2_cmd_cases.specs.Files.{case_length, cases_from}
use Rattle.h2_cmd_cases.proofs.CaseLists.{case-at, none-left}
use Rattle.h2_cmd_run.specs.CheckProgram.{AreReported, ChecksFiles, IsChecked, IsOneResult, IsPlanned, IsVerdict, PlansCases, Reports, ReportsOne, Subject, all_subjects, cases_if, cases_with, checked_after, first_tally, subject, subjects_of, tallied, title_of, version_line}
use Rattle.h2_cmd_batch.specs.Input.{most}
use Rattle.h2_cmd_batch.specs.Printing.{failed_after}
use Rattle.h2_cmd_run.specs.declared.check.CaseTally.{CaseTally}
use Rattle.h2_cmd_batch.specs.declared.commands.each.PrintFault.{PrintFault}
use Rattle.h2_cmd_batch.specs.declared.commands.each.PrintFault.TheVariants.{Fault}
use Rattle.h2_cmd_batch.specs.declared.fault.BenchFault.TheVariants.{NoMemory}
use Rattle.h2_cmd_batch.specs.declared.case_setup.CaseSetup.{CaseSetup}

-- ---- texts

-- results after others
texts_joined : (cut : Bool) (d : Directory) (s : CaseSetup) (t t₁ t₂ : CaseTally) (xs ys : List Subject) (text more : List ℕ)
    → AreReported false d s t xs text t₁ → AreReported cut d s t₁ ys more t₂ → AreReported cut d s t (xs ++ ys) (text ++ more) t₂
texts_joined cut d s t t₁ t₂ [] ys text more x y =
    subst (λ (w : List ℕ). AreReported cut d s t ys w t₂) (sym (ap (λ (w : List ℕ). w ++ more) x.0)) (subst (λ (u : CaseTally). AreReported cut d s u ys more t₂) x.1 y)
texts_joined cut d s t t₁ t₂ (x ∷ xs) ys text more (inl stop) y = absurd stop
texts_joined cut d s t t₁ t₂ (x ∷ xs) ys text more (inr r) y =
    inr (r.0, r.1, r.2, r.3, r.4 ++ more, ap (λ (w : List ℕ). w ++ more) r.5 ∙ append_assoc r.2 r.4 more, texts_joined cut d s (tallied t r.0) t₁ t₂ xs ys r.4 more r.6 y)

-- some first results, and none after them
texts_cut : (d : Directory) (s : CaseSetup) (t t' : CaseTally) (xs ys : List Subject) (text : List ℕ) → AreReported true d s t xs text t' → AreReported true d s t (xs ++ ys) text t'
texts_cut d s t t' [] [] text x = x
texts_cut d s t t' [] (y ∷ ys) text x = inl x
texts_cut d s t t' (x ∷ xs) ys text (inl stop) = inl stop
texts_cut d s t t' (x ∷ xs) ys text (inr r) = inr (r.0, r.1, r.2, r.3, r.4, r.5, texts_cut d s (tallied t r.0) t' xs ys r.4 r.6)

-- one result
text_alone : (cut : Bool) (d : Directory) (s : CaseSetup) (t t' : CaseTally) (x : Subject) (o : Outcome) (text : List ℕ) → IsVerdict d s x o → IsOneResult cut t x.file (title_of x) o text t'
    → AreReported cut d s t (x ∷ []) text t'
text_alone true d s t t' x o text v r = inl r
text_alone false d s t t' x o text v r = inr (o, v, text, r.0, [], sym (append-nil text), (refl, r.1))

-- ---- what an output gained

pub reports_joined : (cut : Bool) (d : Directory) (s : CaseSetup) (t t₁ t₂ : CaseTally) (xs ys : List Subject) (a b c : Option (List ℕ))
    → Reports false d s t xs t₁ a b → Reports cut d s t₁ ys t₂ b c → Reports cut d s t (xs ++ ys) t₂ a c
reports_joined cut d s t t₁ t₂ xs ys a b c x y = λ held is.
    let one = x held is in
    let two = y (held ++ one.0) one.1 in
    (one.0 ++ two.0, two.1 ∙ ap (λ (w : List ℕ). Some w) (append_assoc held one.0 two.0), texts_joined cut d s t t₁ t₂ xs ys one.0 two.0 one.2 two.2)

pub reports_cut : (d : Directory) (s : CaseSetup) (t t' : CaseTally) (xs ys : List Subject) (a b : Option (List ℕ)) → Reports true d s t xs t' a b → Reports true d s t (xs ++ ys) t' a b
reports_cut d s t t' xs ys a b x = λ held is. let one = x held is in (one.0, one.1, texts_cut d s t t' xs ys one.0 one.2)

pub report_alone : (cut : Bool) (d : Directory) (s : CaseSetup) (t t' : CaseTally) (x : Subject) (o : Outcome) (a b : Option (List ℕ)) → IsVerdict d s x o → ReportsOne cut t x.file (title_of x) o t' a b
    → Reports cut d s t (x ∷ []) t' a b
report_alone cut d s t t' x o a b v r = λ held is. let one = r held is in (one.0, one.1, text_alone cut d s t t' x o one.0 v one.2)

-- nothing for none
pub reports_none : (cut : Bool) (d : Directory) (s : CaseSetup) (t : CaseTally) (a : Option (List ℕ)) → Reports cut d s t [] t a a
reports_none cut d s t a = λ held is. ([], is ∙ ap (λ (w : List ℕ). Some w) (sym (append-nil held)), (refl, refl))

-- or where memory was refused at once
pub reports_stopped : (d : Directory) (s : CaseSetup) (t : CaseTally) (xs : List Subject) (a : Option (List ℕ)) → Reports true d s t xs t a a
reports_stopped d s t xs a = reports_cut d s t t [] xs a a (reports_none true d s t a)

-- those of a run that goes on
abbrev pub GoesOn : Directory → CaseSetup → CaseTally → List Subject → Option (List ℕ) → CaseTally → List Subject → Option (List ℕ) → Type 0
GoesOn d s t xs a t' xs' a' = (cut : Bool) (u : CaseTally) (b : Option (List ℕ)) → Reports cut d s t' xs' u a' b → Reports cut d s t xs u a b

pub goes_next : (d : Directory) (s : CaseSetup) (t t₁ t₂ : CaseTally) (all xs ys : List Subject) (a b c : Option (List ℕ)) → GoesOn d s t all a t₁ (xs ++ ys) b → Reports false d s t₁ xs t₂ b c → GoesOn d s t all a t₂ ys c
goes_next d s t t₁ t₂ all xs ys a b c so_far x = λ cut u e y. so_far cut u e (reports_joined cut d s t₁ t₂ u xs ys b c e x y)

-- ---- a file

pub subjects_are : (file : List ℕ) (cs : List (List (List ℕ))) → map (λ c. subject file (Some c)) cs ≡ map (subject file) (map (λ c. Some c) cs)
subjects_are file [] = refl
subjects_are file (c ∷ cs) = ap (λ (xs : List Subject). subject file (Some c) ∷ xs) (subjects_are file cs)

pub cases_read : (file : Option (List ℕ)) (octets : List ℕ) → file ≡ Some octets → length octets ≤ most → cases_with file ≡ cases_if false (is_utf8 octets) octets
cases_read file octets is within = rw (is, le-ltb most (length octets) within) refl

pub cases_unread : (file : Option (List ℕ)) → file ≡ None → cases_with file ≡ None ∷ []
cases_unread file is = rw is refl

pub cases_long : (file : Option (List ℕ)) → IsSomeAnd file (λ octets. most < length octets) → cases_with file ≡ None ∷ []
cases_long None h = refl
cases_long (Some octets) h = rw (lt-ltb most (length octets) h) refl

pub no_text : (octets : List ℕ) → (IsUtf8 octets → ⊥) → is_utf8 octets ≡ false
no_text octets isnt = at (is_utf8 octets) refl
  where
    at : (b : Bool) → is_utf8 octets ≡ b → is_utf8 octets ≡ false
    at true e = absurd (isnt (IsUtf8-from_is_utf8 octets e))
    at false e = e

-- the next case of a file
cases_split : (d : Directory) (s : CaseSetup) (file : List ℕ) (lines : List (Bor (List ℕ))) (first n : ℕ) (t₀ t : CaseTally) (all : List Subject) (a₀ a : Option (List ℕ)) → first < length lines → n ≡ case_length (map (λ l. l.now) (drop first lines))
    → GoesOn d s t₀ all a₀ t (map (λ c. subject file (Some c)) (cases_from (drop first (map (λ l. l.now) lines)))) a
    → GoesOn d s t₀ all a₀ t (map (λ c. subject file (Some c)) (map (λ l. l.now) (take n (drop first lines)) ∷ cases_from (drop (first + n) (map (λ l. l.now) lines)))) a
cases_split d s file lines first n t₀ t all a₀ a h is so_far =
    subst (λ (cs : List (List (List ℕ))). GoesOn d s t₀ all a₀ t (map (λ c. subject file (Some c)) cs) a) (case-at lines first n h is) so_far

pub cases_next : (d : Directory) (s : CaseSetup) (file : List ℕ) (lines : List (Bor (List ℕ))) (first n : ℕ) (t₀ t t' : CaseTally) (all : List Subject) (a₀ a b : Option (List ℕ)) → first < length lines → n ≡ case_length (map (λ l. l.now) (drop first lines))
    → GoesOn d s t₀ all a₀ t (map (λ c. subject file (Some c)) (cases_from (drop first (map (λ l. l.now) lines)))) a
    → Reports false d s t (subject file (Some (map (λ l. l.now) (take n (drop first lines)))) ∷ []) t' a b
    → GoesOn d s t₀ all a₀ t' (map (λ c. subject file (Some c)) (cases_from (drop (first + n) (map (λ l. l.now) lines)))) b
cases_next d s file lines first n t₀ t t' all a₀ a b h is so_far one =
    goes_next d s t₀ t t' all (subject file (Some (map (λ l. l.now) (take n (drop first lines)))) ∷ []) (map (λ c. subject file (Some c)) (cases_from (drop (first + n) (map (λ l. l.now) lines)))) a₀ a b
    (cases_split d s file lines first n t₀ t all a₀ a h is so_far) one

pub cases_cut : (d : Directory) (s : CaseSetup) (file : List ℕ) (lines : List (Bor (List ℕ))) (first n : ℕ) (t₀ t t' : CaseTally) (all : List Subject) (a₀ a b : Option (List ℕ)) → first < length lines → n ≡ case_length (map (λ l. l.now) (drop first lines))
    → GoesOn d s t₀ all a₀ t (map (λ c. subject file (Some c)) (cases_from (drop first (map (λ l. l.now) lines)))) a
    → Reports true d s t (subject file (Some (map (λ l. l.now) (take n (drop first lines)))) ∷ []) t' a b
    → Reports true d s t₀ all t' a₀ b
cases_cut d s file lines first n t₀ t t' all a₀ a b h is so_far one =
    cases_split d s file lines first n t₀ t all a₀ a h is so_far true t' b
    (reports_cut d s t t' (subject file (Some (map (λ l. l.now) (take n (drop first lines)))) ∷ []) (map (λ c. subject file (Some c)) (cases_from (drop (first + n) (map (λ l. l.now) lines)))) a b one)

pub cases_ended : (d : Directory) (s : CaseSetup) (file : List ℕ) (lines : List (Bor (List ℕ))) (first : ℕ) (t₀ t : CaseTally) (all : List Subject) (a₀ a : Option (List ℕ)) → length lines ≤ first
    → GoesOn d s t₀ all a₀ t (map (λ c. subject file (Some c)) (cases_from (drop first (map (λ l. l.now) lines)))) a → Reports false d s t₀ all t a₀ a
cases_ended d s file lines first t₀ t all a₀ a h so_far =
    subst (λ (cs : List (List (List ℕ))). GoesOn d s t₀ all a₀ t (map (λ c. subject file (Some c)) cs) a) (none-left lines first h) so_far false t a (reports_none false d s t a)

-- the next of some files
files_split : (d : Directory) (names : List (Bor (List ℕ))) (i : ℕ) (x : Bor (List ℕ)) → i < length names
    → all_subjects d (map (λ m. m.now) (drop i names)) ≡ subjects_of d (get_or names i x).now ++ all_subjects d (map (λ m. m.now) (drop (i + 1) names))
files_split d names i x h = rw (add-one, drop-cons names i x) refl

pub files_next : (d : Directory) (s : CaseSetup) (names : List (Bor (List ℕ))) (i : ℕ) (x : Bor (List ℕ)) (t₀ t t' : CaseTally) (all : List Subject) (a₀ a b : Option (List ℕ)) → i < length names
    → GoesOn d s t₀ all a₀ t (all_subjects d (map (λ m. m.now) (drop i names))) a → Reports false d s t (subjects_of d (get_or names i x).now) t' a b
    → GoesOn d s t₀ all a₀ t' (all_subjects d (map (λ m. m.now) (drop (i + 1) names))) b
files_next d s names i x t₀ t t' all a₀ a b h so_far one =
    goes_next d s t₀ t t' all (subjects_of d (get_or names i x).now) (all_subjects d (map (λ m. m.now) (drop (i + 1) names))) a₀ a b
    (subst (λ (xs : List Subject). GoesOn d s t₀ all a₀ t xs a) (files_split d names i x h) so_far) one

pub files_cut : (d : Directory) (s : CaseSetup) (names : List (Bor (List ℕ))) (i : ℕ) (x : Bor (List ℕ)) (t₀ t t' : CaseTally) (all : List Subject) (a₀ a b : Option (List ℕ)) → i < length names
    → GoesOn d s t₀ all a₀ t (all_subjects d (map (λ m. m.now) (drop i names))) a → Reports true d s t (subjects_of d (get_or names i x).now) t' a b → Reports true d s t₀ all t' a₀ b
files_cut d s names i x t₀ t t' all a₀ a b h so_far one =
    subst (λ (xs : List Subject). GoesOn d s t₀ all a₀ t xs a) (files_split d names i x h) so_far true t' b
    (reports_cut d s t t' (subjects_of d (get_or names i x).now) (all_subjects d (map (λ m. m.now) (drop (i + 1) names))) a b one)

pub files_went : (d d' : Directory) (s : CaseSetup) (names : List (Bor (List ℕ))) (i : ℕ) (x : Bor (List ℕ)) (t₀ t t' : CaseTally) (all : List Subject) (a₀ a b : Option (List ℕ)) (cut : Bool) → i < length names → d' ≡ d → cut ≡ false
    → GoesOn d s t₀ all a₀ t (all_subjects d (map (λ m. m.now) (drop i names))) a → Reports cut d' s t (subjects_of d' (get_or names i x).now) t' a b
    → GoesOn d s t₀ all a₀ t' (all_subjects d (map (λ m. m.now) (drop (i + 1) names))) b
files_went d d' s names i x t₀ t t' all a₀ a b cut h same went so_far said =
    files_next d s names i x t₀ t t' all a₀ a b h so_far
    (subst (λ (c : Bool). Reports c d s t (subjects_of d (get_or names i x).now) t' a b) went (subst (λ (e : Directory). Reports cut e s t (subjects_of e (get_or names i x).now) t' a b) same said))

pub files_stopped : (d d' : Directory) (s : CaseSetup) (names : List (Bor (List ℕ))) (i : ℕ) (x : Bor (List ℕ)) (t₀ t t' : CaseTally) (all : List Subject) (a₀ a b : Option (List ℕ)) (cut : Bool) → i < length names → d' ≡ d → cut ≡ true
    → GoesOn d s t₀ all a₀ t (all_subjects d (map (λ m. m.now) (drop i names))) a → Reports cut d' s t (subjects_of d' (get_or names i x).now) t' a b → Reports true d s t₀ all t' a₀ b
files_stopped d d' s names i x t₀ t t' all a₀ a b cut h same went so_far said =
    files_cut d s names i x t₀ t t' all a₀ a b h so_far
    (subst (λ (c : Bool). Reports c d s t (subjects_of d (get_or names i x).now) t' a b) went (subst (λ (e : Directory). Reports cut e s t (subjects_of e (get_or names i x).now) t' a b) same said))

pub files_ended : (d : Directory) (s : CaseSetup) (names : List (Bor (List ℕ))) (i : ℕ) (t₀ t : CaseTally) (all : List Subject) (a₀ a : Option (List ℕ)) → length names ≤ i
    → GoesOn d s t₀ all a₀ t (all_subjects d (map (λ m. m.now) (drop i names))) a → Reports false d s t₀ all t a₀ a
files_ended d s names i t₀ t all a₀ a h so_far =
    subst (λ (ns : List (Bor (List ℕ))). GoesOn d s t₀ all a₀ t (all_subjects d (map (λ m. m.now) ns)) a) (drop_all i names h) so_far false t a (reports_none false d s t a)

-- ---- the program

-- all results are some first ones
pub texts_weaker : (d : Directory) (s : CaseSetup) (t t' : CaseTally) (xs : List Subject) (text : List ℕ) → AreReported false d s t xs text t' → AreReported true d s t xs text t'
texts_weaker d s t t' [] text x = x
texts_weaker d s t t' (x ∷ xs) text (inl stop) = absurd stop
texts_weaker d s t t' (x ∷ xs) text (inr r) = inr (r.0, r.1, r.2, r.3, r.4, r.5, texts_weaker d s (tallied t r.0) t' xs r.4 r.6)

three : (held first second third : List ℕ) → ((held ++ first) ++ second) ++ third ≡ held ++ (first ++ second ++ third)
three held first second third = simp append_assoc refl

-- all of them were written, and then how many there are, or not
planned : (d : Directory) (s : CaseSetup) (names : List (List ℕ)) (t : CaseTally) (ended : Result Bool PrintFault) (results more : List ℕ)
    → AreReported false d s first_tally (all_subjects d names) results t → IsPlanned t ended more → IsChecked d s names (checked_after (version_line ++ results ++ more) ended)
planned d s names t (Ok all_hold) results more x p = inl (record {
  tally = t;
  results = results;
  reported = x;
  whole = ap₂ (λ (w : List ℕ) (b : Bool). checked_after (version_line ++ results ++ w) (Ok b)) p.0 p.1;
})
planned d s names t (Err fault) results more x p = inr (record {
  tally = t;
  results = results;
  reported = texts_weaker d s first_tally t (all_subjects d names) results x;
  whole = ap₂ (λ (w : List ℕ) (f : PrintFault). checked_after (version_line ++ results ++ w) (Err f)) p.0 p.1
      ∙ ap (λ (w : List ℕ). failed_after w NoMemory) (append-nil (version_line ++ results));
})

pub checks_whole : (d : Directory) (s : CaseSetup) (names : List (List ℕ)) (t : CaseTally) (ended : Result Bool PrintFault) (a b c e : Option (List ℕ))
    → Appends a b version_line → Reports false d s first_tally (all_subjects d names) t b c → PlansCases t ended c e → ChecksFiles d s names ended a e
checks_whole d s names t ended (Some held₀) (Some known) c e first x y = λ held is.
    let one = x known refl in
    let two = y (known ++ one.0) one.1 in
    let same : held₀ ≡ held = cc in (
      version_line ++ one.0 ++ two.0,
      two.1 ∙ ap (λ (w : List ℕ). Some w) (ap (λ (w : List ℕ). (w ++ one.0) ++ two.0) (first ∙ ap (λ (w : List ℕ). w ++ version_line) same) ∙ three held version_line one.0 two.0),
      planned d s names t ended one.0 two.0 one.2 two.2,
    )
checks_whole d s names t ended (Some held₀) None c e first x y = absurd first
checks_whole d s names t ended None b c e first x y = λ held is. absurd (cc)

-- some first ones were, and memory was refused
pub checks_cut : (d : Directory) (s : CaseSetup) (names : List (List ℕ)) (t : CaseTally) (a b c : Option (List ℕ))
    → Appends a b version_line → Reports true d s first_tally (all_subjects d names) t b c → ChecksFiles d s names (Err (Fault NoMemory)) a c
checks_cut d s names t (Some held₀) (Some known) c first x = λ held is.
    let one = x known refl in
    let same : held₀ ≡ held = cc in (
      version_line ++ one.0,
      one.1 ∙ ap (λ (w : List ℕ). Some w) (ap (λ (w : List ℕ). w ++ one.0) (first ∙ ap (λ (w : List ℕ). w ++ version_line) same) ∙ append_assoc held version_line one.0),
      inr (record { tally = t; results = one.0; reported = one.2; whole = refl }),
    )
checks_cut d s names t (Some held₀) None c first x = absurd first
checks_cut d s names t None b c first x = λ held is. absurd (cc)
